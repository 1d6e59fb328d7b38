use Rattle.std.proofs.Common.{List, ℕ, drop}
use Rattle.model_rules.specs.Known.{Made}
use Rattle.simplex_values.specs.declared.answer.Answer.{Answer}
use Rattle.model_steps.specs.Desk.{Doing}
use Rattle.simplex_voter.specs.Stands.{Stands, IsWhole}
use Rattle.simplex_voter.proofs.Restoring.{Replaying}
use Rattle.simplex_voter.proofs.planner.Planner.replay_all.Given as goal

abbrev pub invariant-loop-artifact : goal.invariant-loop-artifact
invariant-loop-artifact g l =
    (made : Made) (answers : List (ℕ × Answer)) (doing : Doing) → Stands l.fn.self made answers doing → IsWhole doing.desk.known
    → Replaying (Stands l.self made answers) made l.now l.floor doing l.records (drop l.artifact-index l.records)
