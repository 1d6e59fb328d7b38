use Rattle.simplex_network.proofs.Opening.{opened-blank}
use Rattle.simplex_network.proofs.journal.new_journal.Goals as goal

pub returns-in-Ok : goal.returns-in-Ok
returns-in-Ok c = opened-blank _ c.new-disk.result c.in-Ok.journal c.new.ensures.items c.new-disk.ensures c.in-Ok.ensures.ok.1 c.in-Ok.ensures.ok.2 c.in-Ok.ensures.quiet
