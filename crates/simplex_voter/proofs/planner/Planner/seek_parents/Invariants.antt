use Rattle.std.proofs.Common.{List, ℕ, drop}
use Rattle.model_rules.specs.Known.{Made}
use Rattle.model_rules.specs.Pending.{seek_parent}
use Rattle.simplex_values.specs.declared.answer.Answer.{Answer}
use Rattle.model_steps.specs.Desk.{Doing}
use Rattle.simplex_voter.specs.Stands.{Stands}
use Rattle.simplex_voter.proofs.Folding.{Folded}
use Rattle.simplex_voter.proofs.planner.Planner.seek_parents.Given as goal

abbrev pub invariant-loop-fetch : goal.invariant-loop-fetch
invariant-loop-fetch g l =
    (made : Made) (answers : List (ℕ × Answer)) (doing : Doing) → Stands l.fn.self made answers doing
    → Folded seek_parent (Stands l.self made answers) doing l.fetches (drop l.fetch-index l.fetches)
