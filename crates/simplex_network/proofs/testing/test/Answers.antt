use Rattle.simplex_network.proofs.Tested.{test-passes, test-stops}
use Rattle.simplex_network.proofs.testing.test.Goals as goal

pub returns-in-None-clause-none : goal.returns-in-None-clause-none
returns-in-None-clause-none c =
    λ before noted stand same. test-passes c.args.setup.now before noted _ same (rw c.in-None.is at (c.in_ok-first_forged.ensures before stand))

pub returns-in-Some-clause-some : goal.returns-in-Some-clause-some
returns-in-Some-clause-some c =
    λ whole before noted stand same. test-stops c.args.setup.now before noted _ _ _ same (rw c.in-Some.is at (c.in_ok-first_forged.ensures before stand))
