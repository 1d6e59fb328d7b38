use Rattle.std.proofs.Common.{refl}
use Rattle.simplex_disk.specs.Calls.{content, MayLeave}
use Rattle.simplex_disk.proofs.memory.MemoryDiskStopDisk.settle.Goals as goal

pub returns-clause-stands : goal.returns-clause-stands
unfolding content MayLeave
returns-clause-stands c = λ calls left. record { each = left.each; stays = λ n. refl }
