use Rattle.std.proofs.Common.{refl}
use Rattle.simplex_network.proofs.Polled.{whole-error}
use Rattle.simplex_network.proofs.Lending.{took-it, declined-it}
use Rattle.simplex_network.proofs.task.Task.make.Goals as goal

pub returns-in-Ok-clause-came : goal.returns-in-Ok-clause-came
returns-in-Ok-clause-came c =
    λ setup member life stands. took-it setup member life c.args.given _ _ _ (c.in-Ok.ensures.gives setup member life stands) refl (c.in-Ok.ensures.stands setup member life stands)

pub returns-in-Err-clause-came : goal.returns-in-Err-clause-came
returns-in-Err-clause-came c =
    λ setup member life stands. declined-it setup member life c.args.given _ _ _ _ c.run_error.ensures
    (λ whole. c.in-Err.ensures.refused (whole-error _ (rw c.run_error.ensures at whole)) setup member life stands)
    (λ whole. c.in-Err.ensures.stays (whole-error _ (rw c.run_error.ensures at whole)) setup member _ stands)
