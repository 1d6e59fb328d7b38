use Rattle.std.proofs.Common.{◌≡◌, Some, None, rules, ap, sym, ◌∙◌}
use Rattle.std.specs.Ordering.{nat_cmp}
use Rattle.std.specs.Map.{lookup}
use Rattle.std.specs.BTreeMap.{is_at}
use Rattle.simplex_disk.specs.Calls.{cut_to}
use Rattle.simplex_disk.specs.Files.{kept_of}
use Rattle.simplex_disk.proofs.Keeping.{file-there, file-absent, written_files, same_files, AreFilesBut-is}
use Rattle.simplex_disk.proofs.files.cut_file.Goals as goal

pub returns-in-Some : goal.returns-in-Some
returns-in-Some c =
    let n = c.args.number in
    let es = c.args.files.now.entries in
    let v = c.in-Some.file.now in
    let found : lookup (is_at (nat_cmp n)) es ≡ Some v = search rules in
    let w = c.truncate.new.self in
    AreFilesBut-is n (kept_of es) _ _ _ (ap (λ l. Some l) c.truncate.ensures.items ∙ ap (cut_to c.args.len) (sym (file-there es n v found)))
    (written_files es _ n v w found (c.get_mut.follows.holds w).0)

pub returns-in_default : goal.returns-in_default
returns-in_default c =
    let n = c.args.number in
    let es = c.args.files.now.entries in
    let absent : lookup (is_at (nat_cmp n)) es ≡ None = search rules in
    let none = file-absent es n absent in
    rw c.get_mut.follows.holds-at-none (AreFilesBut-is n (kept_of es) (kept_of es) _ _ (none ∙ ap (cut_to c.args.len) (sym none)) (same_files (kept_of es) n))
