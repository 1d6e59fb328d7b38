use Rattle.std.proofs.Common.{◌≡◌, Some, subst}
use Rattle.std.specs.Prelude.{IfSome}
use Rattle.simplex_journal.specs.Order.{Order}
use Rattle.simplex_disk.specs.Orders.{order_told}
use Rattle.simplex_disk.proofs.Obeying.{order_given}
use Rattle.simplex_disk.proofs.journal.DiskJournalJournal.fail_next.Goals as goal

pub returns-clause-order : goal.returns-clause-order
returns-clause-order g c =
    let now : Order = record { call = c.args.call; sections = c.args.dropped } in
    subst (λ j. IfSome (order_told (g.D.Disk.order j.disk) j.order) (λ _. order_told (g.D.Disk.order c.self.inside.disk) now ≡ Some now)) c.self.view_is
    (order_given (g.D.Disk.order c.self.inside.disk) (record { call = c.self.inside.failing_call; sections = c.self.inside.failing_sections }) now)
