use Rattle.std.proofs.Common.{◌≡◌, ap, refl}
use Rattle.simplex_disk.specs.Calls.{Sync}
use Rattle.simplex_disk.specs.Memory.{Held}
use Rattle.simplex_disk.proofs.Calls.{only-sync, same_file}
use Rattle.simplex_disk.proofs.Keeping.{IsLeftBy-named, same_files}
use Rattle.simplex_disk.proofs.memory.MemoryDiskDisk.sync.Goals as goal

pub returns-clause-ok : goal.returns-clause-ok
returns-clause-ok c = λ calls left.
    let n = c.args.file in
    let before : c.obey.new.self.kept ≡ c.args.self.now.kept = ap (λ (h : Held). h.kept) (c.in_ok-obey.ensures.ok) in
    let behind : c.count_call.new.self.kept ≡ c.obey.new.self.kept = ap (λ (h : Held). h.kept) c.count_call.ensures in
    IsLeftBy-named n (Sync n) calls _ _ _ _ (only-sync n) (same_file n) (λ may. refl) before behind (same_files c.obey.new.self.kept n) left
