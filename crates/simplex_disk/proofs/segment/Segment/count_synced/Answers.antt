use Rattle.std.proofs.Common.{◌≡◌, ◌+◌, length, refl, arith}
use Rattle.simplex_disk.proofs.Segments.{IsKept-few, IsKept-synced}
use Rattle.simplex_disk.proofs.segment.Segment.count_synced.Goals as goal

pub returns : goal.returns
returns c = λ S P is.
    let few = IsKept-few c.args.self.now S P is in
    let all : c.saturating_add-self.result ≡ c.args.self.now.synced + length c.args.self.now.gates.items = omega (arith, few, c.len.ensures, c.saturating_add-self.ensures) in
    IsKept-synced c.args.self.now _ S P is all c.clear.ensures.items refl
