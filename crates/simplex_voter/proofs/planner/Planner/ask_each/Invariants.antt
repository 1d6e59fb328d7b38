use Rattle.std.proofs.Common.{List, ℕ, drop}
use Rattle.model_rules.specs.Known.{Made}
use Rattle.model_rules.specs.Pending.{open_certify}
use Rattle.simplex_values.specs.declared.answer.Answer.{Answer}
use Rattle.model_steps.specs.Desk.{Doing}
use Rattle.simplex_voter.specs.Stands.{Stands}
use Rattle.simplex_voter.proofs.Folding.{Folded}
use Rattle.simplex_voter.proofs.planner.Planner.ask_each.Given as goal

abbrev pub invariant-loop-proposal : goal.invariant-loop-proposal
invariant-loop-proposal g l =
    (made : Made) (answers : List (ℕ × Answer)) (doing : Doing) → Stands l.fn.self made answers doing
    → Folded open_certify (Stands l.self made answers) doing l.proposals (drop l.proposal-index l.proposals)
