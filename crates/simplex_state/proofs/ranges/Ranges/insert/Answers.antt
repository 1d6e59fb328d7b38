use Rattle.std.proofs.Common.{arith}
use Rattle.std.proofs.lemmas.Grind.{common_steps}
use Rattle.simplex_state.proofs.Runs.{inserted}
use Rattle.simplex_state.proofs.ranges.Ranges.insert.Goals as goal

pub returns-then-contains : goal.returns-then-contains
returns-then-contains c = λ q. grind (arith, common_steps, c.contains.ensures, c.if-contains.true)

pub returns : goal.returns
returns c =
    inserted c.args.self.now _ c.start_for-start.result c.args.number
    c.in_ok-put.ensures.ok
    c.start_for-start.ensures.bound
    c.start_for-start.ensures.held
    c.start_for-start.ensures.alone
    (grind (arith, c.contains.ensures, c.if-contains.false))
