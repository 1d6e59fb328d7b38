use Rattle.simplex_journal.specs.Order.{no_order}
use Rattle.simplex_voter.proofs.Running.{passed}
use Rattle.simplex_voter.proofs.Over.{fault-broken}
use Rattle.simplex_voter.proofs.performing.make_all.Goals as goal

pub returns-clause-told : goal.returns-clause-told
returns-clause-told g c = λ told. rw c.broken_off.ensures (passed _ _ _ _ _ (c.in_ok-failed.ensures.told no_order told))

pub returns-clause-over : goal.returns-clause-over
returns-clause-over g c = record { failed = _; ends = c.broken_off.ensures; reached = c.in_ok-failed.ensures.over }

pub returns-clause-faults : goal.returns-clause-faults
returns-clause-faults g c = rw c.broken_off.ensures (fault-broken _ _ _ c.in_ok-failed.ensures.faults)
