use Rattle.std.proofs.Common.{ap}
use Rattle.std.specs.Prelude.{is_none}
use Rattle.simplex_case.proofs.Sending.{genuine-none, genuine-some}
use Rattle.simplex_case.proofs.case.Case.is_genuine.Goals as goal

pub returns-in-None : goal.returns-in-None
returns-in-None c = λ prior before stand. genuine-none c.args.setup.now before c.args.entry.now (rw c.in-None.is at stand.votes)

pub returns-in-Ok-None : goal.returns-in-Ok-None
returns-in-Ok-None c =
    λ prior before stand. genuine-some c.in-Some.votes c.args.setup.now before c.args.entry.now c.as_slice.result.now c.in-Ok-None.field-0 _ (rw c.in-Some.is at stand.votes)
    c.as_slice.ensures c.in-Ok-None.ensures (ap is_none c.in-Ok-None.field-0-is)

pub returns-in-Ok-Some : goal.returns-in-Ok-Some
returns-in-Ok-Some c =
    λ prior before stand. genuine-some c.in-Some.votes c.args.setup.now before c.args.entry.now c.as_slice.result.now c.in-Ok-Some.field-0 _ (rw c.in-Some.is at stand.votes)
    c.as_slice.ensures c.in-Ok-Some.ensures (ap is_none c.in-Ok-Some.field-0-is)
