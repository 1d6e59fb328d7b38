use Rattle.simplex_wire.proofs.Numbers.{limit64}
use Rattle.simplex_disk.proofs.reading.block_at.Goals as goal

pub number_at-requires : goal.number_at-requires
number_at-requires c = limit64
