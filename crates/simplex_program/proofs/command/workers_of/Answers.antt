use Rattle.std.proofs.Common.{◌≤◌, arith}
use Rattle.simplex_program.specs.declared.command.TheConstants.{MOST_WORKERS}
use Rattle.simplex_program.proofs.Commands.{other_workers}
use Rattle.simplex_program.proofs.command.workers_of.Goals as goal
use Rattle.simplex_program.proofs.command.workers_of.Goals.{then-workers-lt1-via-then-workers-lt1, then-workers-lt1-via-else-workers-lt1+then-workers-from}

pub returns-then-workers-lt1-clause-none : goal.returns-then-workers-lt1-clause-none
returns-then-workers-lt1-clause-none c =
    let other : 1 ≤ c.in-Some.workers → c.in-Some.workers ≤ MOST_WORKERS → ⊥ = λ some few. elim c.then-workers-lt1.branch [
      | then-workers-lt1-via-then-workers-lt1 w ↦ absurd (omega (arith, some, w.if-workers-lt1))
      | then-workers-lt1-via-else-workers-lt1+then-workers-from w ↦ absurd (omega (arith, few, w.if-workers-from, w.from))
    ] in
    other_workers c.args.word.now c.args.workers.now c.in-Some.workers (rw c.in-Some.is at c.in_ok-workers.ensures.some) (omega arith) other
