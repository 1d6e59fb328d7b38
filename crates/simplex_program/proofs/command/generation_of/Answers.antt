use Rattle.std.proofs.Common.{arith}
use Rattle.simplex_program.proofs.Commands.{too_many}
use Rattle.simplex_program.proofs.command.generation_of.Goals as goal

pub returns-then-steps-gt-MOST_STEPS-clause-none : goal.returns-then-steps-gt-MOST_STEPS-clause-none
returns-then-steps-gt-MOST_STEPS-clause-none c =
    too_many c.args.word.now c.args.number.now c.args.steps.now c.in-Some-2.steps (rw c.in-Some-2.is at c.in_ok-steps.ensures.some) (omega arith) c.if-steps-gt-MOST_STEPS.true
