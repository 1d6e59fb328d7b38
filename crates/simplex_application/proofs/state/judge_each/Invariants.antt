use Rattle.std.proofs.Common.{◌≡◌, ◌++◌, drop, map, filter}
use Rattle.simplex_application.specs.Application.{waits_for, judged_by}
use Rattle.simplex_application.proofs.state.judge_each.Given as goal

abbrev pub invariant-loop-waiter : goal.invariant-loop-waiter
invariant-loop-waiter l =
    l.verdicts ++ map (judged_by l.settings l.relayed.contents) (filter (waits_for l.relayed.payload) (drop l.waiter-index l.waiters))
    ≡ map (judged_by l.settings l.relayed.contents) (filter (waits_for l.relayed.payload) l.waiters)
