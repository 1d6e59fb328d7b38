use Rattle.std.proofs.Common.{◌≡◌, ◌≤◌, ℕ, List, Option, Some, None, rules, length, ap, sym, subst, ◌∙◌}
use Rattle.std.specs.Ordering.{nat_cmp}
use Rattle.std.specs.Map.{lookup}
use Rattle.std.specs.BTreeMap.{is_at}
use Rattle.std.proofs.lemmas.Result.{on_ok_weaker, IfErr-weaker}
use Rattle.simplex_disk.specs.Calls.{bytes_of, written}
use Rattle.simplex_disk.specs.Files.{kept_of}
use Rattle.simplex_disk.proofs.Keeping.{file-there, file-absent, written_files, rewritten_files, written-new, AreFilesBut-is}
use Rattle.simplex_disk.proofs.files.write_file.Goals as goal

pub write_over-requires : goal.write_over-requires
write_over-requires c =
    let n = c.args.number in
    let es = c.args.files.now.entries in
    let v = c.in-Some.file.now in
    let found : lookup (is_at (nat_cmp n)) es ≡ Some v = search rules in
    subst (λ (o : Option (List ℕ)). c.args.place ≤ length (bytes_of o)) (file-there es n v found) c.requires

pub returns-in-Some-clause-ok : goal.returns-in-Some-clause-ok
returns-in-Some-clause-ok c =
    let n = c.args.number in
    let es = c.args.files.now.entries in
    let v = c.in-Some.file.now in
    let w = c.write_over.new.file in
    let found : lookup (is_at (nat_cmp n)) es ≡ Some v = search rules in
    on_ok_weaker c.write_over.result (λ is. AreFilesBut-is n (kept_of es) _ _ _ (ap (λ l. Some l) (is ∙ ap (λ (o : Option (List ℕ)). written c.args.place c.args.bytes.now (bytes_of o)) (sym (file-there es n v found))))
    (written_files es _ n v w found (c.get_mut.follows.holds w).0)) c.write_over.ensures.ok

pub returns-in-Some-clause-err : goal.returns-in-Some-clause-err
returns-in-Some-clause-err c =
    let n = c.args.number in
    let es = c.args.files.now.entries in
    let v = c.in-Some.file.now in
    let w = c.write_over.new.file in
    let found : lookup (is_at (nat_cmp n)) es ≡ Some v = search rules in
    IfErr-weaker c.write_over.result _ _ (λ _ same. rewritten_files es _ n v w found (c.get_mut.follows.holds w).0 same) c.write_over.ensures.err

pub returns-clause-ok : goal.returns-clause-ok
returns-clause-ok c =
    let n = c.args.number in
    let es = c.args.files.now.entries in
    let absent : lookup (is_at (nat_cmp n)) es ≡ None = search rules in
    let none = file-absent es n absent in
    let size : c.args.place ≤ 0 = subst (λ (o : Option (List ℕ)). c.args.place ≤ length (bytes_of o)) none c.requires in
    on_ok_weaker c.make_file.result (λ but. AreFilesBut-is n _ _ _ _ (ap (λ l. Some l) (c.in_ok-copy_of.ensures ∙ sym (written-new c.args.place c.args.bytes.now size)) ∙ ap (λ (o : Option (List ℕ)). Some (written c.args.place c.args.bytes.now (bytes_of o))) (sym none)) (rw c.get_mut.follows.holds-at-none at but)) c.make_file.ensures.ok
