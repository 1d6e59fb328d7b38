use Rattle.std.proofs.Common.{List, subst}
use Rattle.simplex_journal.specs.Order.{Stands}
use Rattle.simplex_disk.specs.Calls.{Call}
use Rattle.simplex_disk.specs.Contents.{IsOf, Any}
use Rattle.simplex_disk.specs.Index.{IsIndexed, IsBackAsBefore}
use Rattle.simplex_disk.specs.Moments.{Then}
use Rattle.simplex_disk.specs.Opening.{IsSettled}
use Rattle.simplex_disk.specs.Orders.{order_told}
use Rattle.simplex_disk.proofs.Obeying.{order_stands}
use Rattle.simplex_disk.proofs.Others.{no_other}
use Rattle.simplex_disk.proofs.journal.DiskJournalJournal.crash.Goals as goal

pub returns-clause-order : goal.returns-clause-order
returns-clause-order g c =
    subst (λ j. Stands (order_told (g.D.Disk.order j.disk) j.order) (order_told (g.D.Disk.order c.crash.new.disk) (record { call = c.self.inside.failing_call; sections = c.self.inside.failing_sections }))) c.self.view_is
    (order_stands (g.D.Disk.order c.self.inside.disk) (g.D.Disk.order c.crash.new.disk) (record { call = c.self.inside.failing_call; sections = c.self.inside.failing_sections }) c.crash.ensures.order)

pub returns-clause-moments : goal.returns-clause-moments
returns-clause-moments g c =
    let St = g.D.Disk.StandsFor in
    subst (λ j. (calls : List Call) → IsOf St j calls → Then (λ now. St c.crash.new.disk now × IsIndexed c.crash.new.index.entries c.self.inside.leaving now) Any (λ now. IsSettled now × IsBackAsBefore j.leaving calls now)) c.self.view_is
    (λ H is.
    let t = c.crash.ensures.stands H is.0 c.self.inside.leaving is.1 in
    record { now = t.now; stands = (t.stands, t.holds.0); held = tt; holds = (t.holds.1, t.holds.3) })

pub returns-clause-rest : goal.returns-clause-rest
returns-clause-rest g c =
    let inv = c.self.invariant in
    let leaving = c.self.inside.leaving in
    let t = c.crash.ensures.stands inv.0 inv.1 leaving inv.2 in
    no_other (g.D.Disk.contents c.crash.new.disk) c.crash.new.index.entries leaving t.now t.holds.0 (g.met.D.Disk.reads c.crash.new.disk t.now t.stands)
