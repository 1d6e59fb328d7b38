use Rattle.std.proofs.Common.{refl}
use Rattle.simplex_disk.proofs.Segments.{IsKept-empty}
use Rattle.simplex_disk.proofs.segment.Segment.new.Goals as goal

pub returns : goal.returns
returns c = IsKept-empty _ refl refl c.new.ensures.items
