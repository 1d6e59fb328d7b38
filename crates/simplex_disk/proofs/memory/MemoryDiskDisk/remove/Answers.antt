use Rattle.std.proofs.Common.{◌≡◌, ◌∙◌, ap, refl, inr, true}
use Rattle.simplex_disk.specs.Calls.{Remove}
use Rattle.simplex_disk.specs.Files.{kept_of}
use Rattle.simplex_disk.specs.Memory.{Held}
use Rattle.simplex_disk.proofs.Calls.{only-remove, same_file}
use Rattle.simplex_disk.proofs.Keeping.{IsLeftBy-named}
use Rattle.simplex_disk.proofs.memory.MemoryDiskDisk.remove.Goals as goal

pub returns-clause-ok : goal.returns-clause-ok
returns-clause-ok c = λ calls left.
    let n = c.args.file in
    let before : kept_of c.self.inside.files.entries ≡ c.args.self.now.kept = ap (λ (h : Held). h.kept) (c.self.view_is ∙ c.in_ok-obey.ensures.ok) in
    let behind : c.count_call.new.self.kept ≡ kept_of c.remove_file.new.files.entries = ap (λ (h : Held). h.kept) c.count_call.ensures in
    IsLeftBy-named n (Remove n true) calls _ _ _ _ (only-remove n true) (same_file n) (λ may. inr refl) before behind c.remove_file.ensures left
