use Rattle.example_monitor.proofs.Accusing.{further}
use Rattle.example_monitor.proofs.accusation.accusations_of.Goals as goal

pub loop-entry-preserved : goal.loop-entry-preserved
loop-entry-preserved c =
    further c.loop-entry.found.items c.accuse.new.found.items c.args.entries.now c.loop-entry.entry-index c.entry-item.result c.loop-entry-test.true c.entry-item.is
    c.in_ok-accuse.ensures c.loop-entry.invariant
