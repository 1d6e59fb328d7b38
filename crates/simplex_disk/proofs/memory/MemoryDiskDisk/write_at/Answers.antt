use Rattle.std.proofs.Common.{◌≡◌, ◌≤◌, ◌∙◌, ℕ, List, ap, subst, sym, length}
use Rattle.simplex_disk.specs.Calls.{Write, bytes_of}
use Rattle.simplex_disk.specs.Files.{kept_of}
use Rattle.simplex_disk.specs.Memory.{Held, file_in}
use Rattle.simplex_disk.proofs.Calls.{only-write, same_file}
use Rattle.simplex_disk.proofs.Keeping.{IsLeftBy-named, kept-write}
use Rattle.simplex_disk.proofs.memory.MemoryDiskDisk.write_at.Goals as goal

pub returns-clause-ok : goal.returns-clause-ok
returns-clause-ok c = λ calls left.
    let n = c.args.file in
    let before : kept_of c.self.inside.files.entries ≡ c.args.self.now.kept = ap (λ (h : Held). h.kept) (c.self.view_is ∙ c.in_ok-obey.ensures.ok) in
    let behind : c.count_call.new.self.kept ≡ kept_of c.write_file.new.files.entries = ap (λ (h : Held). h.kept) c.count_call.ensures in
    let within : c.args.place ≤ length (bytes_of (file_in (kept_of c.self.inside.files.entries) n)) =
    subst (λ (l : List (ℕ × List ℕ)). c.args.place ≤ length (bytes_of (file_in l n))) (sym before) c.requires in
    IsLeftBy-named n (Write n c.args.place (length c.args.bytes.now) c.args.bytes.now) calls _ _ _ _ (only-write n c.args.place (length c.args.bytes.now) c.args.bytes.now) (same_file n) (kept-write calls c.args.place c.args.bytes.now _ n within) before behind c.in_ok-write_file.ensures.ok left
