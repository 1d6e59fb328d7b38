use Rattle.std.proofs.Common.{refl}
use Rattle.simplex_disk.proofs.Keeping.{kept-none}
use Rattle.simplex_disk.proofs.memory.MemoryDisk.new.Goals as goal

pub returns : goal.returns
returns c = rw (kept-none c.new.result.entries c.new.ensures.empty) refl
