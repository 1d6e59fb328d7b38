use Rattle.simplex_voter.proofs.Running.{settled-whole, settled-broken}
use Rattle.simplex_voter.proofs.Over.{given-whole, given-broken}
use Rattle.simplex_voter.proofs.performing.settle.Goals as goal

pub returns-in-None-clause-told : goal.returns-in-None-clause-told
returns-in-None-clause-told g c = λ told. settled-whole c.args.stop.now c.args.planned _ _ _ _ c.in-None.is (rw c.as_slice.ensures at (c.in_ok-perform.ensures.told told))

pub returns-in-None-clause-over : goal.returns-in-None-clause-over
returns-in-None-clause-over g c = given-whole c.args.stop.now c.args.planned _ _ _ c.in-None.is (rw c.as_slice.ensures at c.in_ok-perform.ensures.over)

pub returns-in-None-clause-faults : goal.returns-in-None-clause-faults
returns-in-None-clause-faults g c = rw c.in-None.is at c.in_ok-perform.ensures.faults

pub returns-in-Some-clause-told : goal.returns-in-Some-clause-told
returns-in-Some-clause-told g c = λ told.
    settled-broken c.args.stop.now c.args.planned _ _ _ _ c.in-Some.broke _ c.in-Some.is (rw c.requires.empty at c.list_made.ensures) (rw c.as_slice.ensures at (c.in_ok-perform.ensures.told told))

pub returns-in-Some-clause-over : goal.returns-in-Some-clause-over
returns-in-Some-clause-over g c =
    given-broken c.args.stop.now c.args.planned _ _ _ _ c.in-Some.broke c.in-Some.is (rw c.requires.empty at c.list_made.ensures) (rw c.as_slice.ensures at c.in_ok-perform.ensures.over)

pub returns-in-Some-clause-faults : goal.returns-in-Some-clause-faults
returns-in-Some-clause-faults g c = rw c.in-Some.is at c.in_ok-perform.ensures.faults
