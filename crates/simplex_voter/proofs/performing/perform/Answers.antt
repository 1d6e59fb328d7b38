use Rattle.simplex_messages.specs.declared.step.Stop.TheVariants as stops
use Rattle.simplex_voter.proofs.Running.{made-whole, none-named}
use Rattle.simplex_voter.proofs.Over.{none-over}
use Rattle.simplex_voter.proofs.performing.perform.Goals as goal

pub returns-in_ok-broke-in-None-clause-told : goal.returns-in_ok-broke-in-None-clause-told
returns-in_ok-broke-in-None-clause-told g c = λ told.
    rw c.in-None.is (made-whole c.args.calls.now _ _ _ _ stops.None (none-named c.args.calls.now) (c.in_ok-broke-in-None.ensures.told told))

pub returns-in_ok-broke-in-None-clause-over : goal.returns-in_ok-broke-in-None-clause-over
returns-in_ok-broke-in-None-clause-over g c = rw c.in-None.is (none-over _ _ _ _ c.in_ok-broke-in-None.ensures.over)
