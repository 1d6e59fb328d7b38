use Rattle.std.proofs.Common.{◌≡◌, Some, take}
use Rattle.simplex_journal.specs.Order.{Order}
use Rattle.model_steps.specs.Performed.{after_calls}
use Rattle.simplex_voter.proofs.Running.{Running}
use Rattle.simplex_voter.proofs.performing.make_calls.Given as goal

abbrev pub invariant-loop-place : goal.invariant-loop-place
invariant-loop-place g l =
    ((order : Order) → g.J.Journal.order l.fn.journal ≡ Some order
    → Running order l.calls l.place (g.J.Journal.sections l.fn.journal) (g.J.Journal.sections l.journal) (g.J.Journal.order l.journal))
    × (g.J.Journal.sections l.journal ≡ after_calls (take l.place l.calls) (g.J.Journal.sections l.fn.journal))
    × (g.J.Journal.fault_count l.journal ≡ g.J.Journal.fault_count l.fn.journal)
