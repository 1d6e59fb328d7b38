use Rattle.std.proofs.Common.{◌≡◌, Some, None, rules, ap, sym, ◌∙◌}
use Rattle.std.specs.Ordering.{nat_cmp}
use Rattle.std.specs.Map.{lookup}
use Rattle.std.specs.BTreeMap.{is_at}
use Rattle.std.proofs.lemmas.Result.{IfOk-weaker}
use Rattle.simplex_disk.specs.Calls.{bytes_of}
use Rattle.simplex_disk.proofs.Keeping.{file-there, file-absent}
use Rattle.simplex_disk.proofs.files.read_file.Goals as goal

pub returns-in-Some : goal.returns-in-Some
returns-in-Some c =
    let n = c.args.number in
    let es = c.args.files.now.entries in
    let v = c.in-Some.bytes.now in
    let found : lookup (is_at (nat_cmp n)) es ≡ Some v = search rules in
    IfOk-weaker c.copy_of.result _ _ (λ copy is. is ∙ c.deref.ensures.value ∙ ap bytes_of (sym (file-there es n v found))) c.copy_of.ensures

pub returns-in-None : goal.returns-in-None
returns-in-None c =
    let n = c.args.number in
    let es = c.args.files.now.entries in
    let absent : lookup (is_at (nat_cmp n)) es ≡ None = search rules in
    c.new.ensures.items ∙ ap bytes_of (sym (file-absent es n absent))
