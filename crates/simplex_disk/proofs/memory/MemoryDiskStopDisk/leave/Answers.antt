use Rattle.std.proofs.Common.{◌≡◌, ap, refl}
use Rattle.simplex_disk.specs.Calls.{Leave}
use Rattle.simplex_disk.specs.Files.{kept_of}
use Rattle.simplex_disk.specs.Memory.{Held}
use Rattle.simplex_disk.proofs.Calls.{only-leave, same_file}
use Rattle.simplex_disk.proofs.Keeping.{IsLeftBy-named}
use Rattle.simplex_disk.proofs.memory.MemoryDiskStopDisk.leave.Goals as goal

pub returns-clause-stands : goal.returns-clause-stands
returns-clause-stands c = λ calls left.
    let n = c.args.file in
    let before : kept_of c.self.inside.files.entries ≡ c.args.self.now.kept = ap (λ (h : Held). h.kept) (c.self.view_is) in
    let behind : kept_of c.put_byte.new.files.entries ≡ kept_of c.put_byte.new.files.entries = refl in
    IsLeftBy-named n (Leave n c.args.place c.args.byte) calls _ _ _ _ (only-leave n c.args.place c.args.byte) (same_file n) (λ may. refl) before behind c.put_byte.ensures left
