use Rattle.std.proofs.Common.{◌≡◌, ◌<◌, ℕ, List, Option, Some, None, rules, length, [], ◌∷◌, ap, sym, subst, ◌∙◌, arith}
use Rattle.std.specs.Ordering.{nat_cmp}
use Rattle.std.specs.Map.{lookup}
use Rattle.std.specs.BTreeMap.{is_at}
use Rattle.simplex_disk.specs.Calls.{bytes_of, written}
use Rattle.simplex_disk.specs.Files.{kept_of}
use Rattle.simplex_disk.proofs.Keeping.{file-there, file-absent, written_files, written-byte, AreFilesBut-is}
use Rattle.simplex_disk.proofs.files.put_byte.Goals as goal

pub index_mut-requires : goal.index_mut-requires
index_mut-requires c =
    let n = c.args.number in
    let es = c.args.files.now.entries in
    let v = c.in-Some.file.now in
    let found : lookup (is_at (nat_cmp n)) es ≡ Some v = search rules in
    let within : c.args.place < length v.items = subst (λ (o : Option (List ℕ)). c.args.place < length (bytes_of o)) (file-there es n v found) c.requires in
    search rules

pub returns-in-Some : goal.returns-in-Some
returns-in-Some c =
    let n = c.args.number in
    let es = c.args.files.now.entries in
    let v = c.in-Some.file.now in
    let found : lookup (is_at (nat_cmp n)) es ≡ Some v = search rules in
    let there = file-there es n v found in
    let within : c.args.place < length v.items = subst (λ (o : Option (List ℕ)). c.args.place < length (bytes_of o)) there c.requires in
    AreFilesBut-is n (kept_of es) _ _ _ (ap (λ l. Some l) (sym (written-byte v.items c.args.place c.args.byte within)) ∙ ap (λ (o : Option (List ℕ)). Some (written c.args.place (c.args.byte ∷ []) (bytes_of o))) (sym there))
    (written_files es _ n v _ found (c.get_mut.follows.holds _).0)

pub returns-in_default : goal.returns-in_default
returns-in_default c =
    let n = c.args.number in
    let es = c.args.files.now.entries in
    let absent : lookup (is_at (nat_cmp n)) es ≡ None = search rules in
    absurd (omega (arith, subst (λ (o : Option (List ℕ)). c.args.place < length (bytes_of o)) (file-absent es n absent) c.requires))
