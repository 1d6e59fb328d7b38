use Rattle.std.proofs.Common.{refl}
use Rattle.simplex_journal.specs.Order.{no_order}
use Rattle.simplex_messages.specs.declared.step.Stop.TheVariants as stops
use Rattle.simplex_voter.proofs.Running.{read-all}
use Rattle.simplex_voter.proofs.records.read.Goals as goal

pub returns-in_ok-records-in-None-clause-told : goal.returns-in_ok-records-in-None-clause-told
returns-in_ok-records-in-None-clause-told g c = λ told.
    rw c.in-None.is (read-all stops.None _ _ _ _ refl c.in_ok-records-in-None.ensures.stays (c.in_ok-records-in-None.ensures.told no_order told))

pub returns-in_ok-records-in-Cut-clause-told : goal.returns-in_ok-records-in-Cut-clause-told
returns-in_ok-records-in-Cut-clause-told g c = λ told.
    rw c.in-Cut.is (read-all (stops.Cut c.in-Cut.call c.in-Cut.keep) _ _ _ _ refl c.in_ok-records-in-Cut.ensures.stays (c.in_ok-records-in-Cut.ensures.told no_order told))
