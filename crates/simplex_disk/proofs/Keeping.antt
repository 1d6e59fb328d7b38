-- The files of a disk in memory, after a change of one.
use Rattle.std.proofs.Common.{◌≡◌, ℕ, zero, suc, ◌+◌, ◌≤◌, ◌<◌, Bool, true, false, cond, eqb, List, [], ◌∷◌, ◌++◌, length, take, drop, set, Option, None, Some, refl, sym, ap, subst, ◌∙◌, arith, inl, inr}
use Rattle.std.specs.Option.{option_map, is_some}
use Rattle.std.specs.Global.{Vec}
use Rattle.std.specs.Ordering.{nat_cmp}
use Rattle.std.specs.Cmp.{unsigned_tied}
use Rattle.std.specs.List.{list_any}
use Rattle.std.specs.List.Sorted.{IsStrictlySortedBy}
use Rattle.std.specs.Map.{lookup, set_value, keys_of}
use Rattle.std.specs.BTreeMap.{is_at}
use Rattle.std.proofs.lemmas.Bool.{cases_eq}
use Rattle.std.proofs.lemmas.Bool.Decides.{nat_tests}
use Rattle.std.proofs.lemmas.Grind.{common_steps}
use Rattle.std.proofs.lemmas.Map.Steps.{set_value_same}
use Rattle.simplex_disk.specs.Calls.{Call, Write, is_of, after, bytes_of, written, content, TornIn, Leaves, LeavesIf, MayLeave}
use Rattle.simplex_disk.specs.Moments.{IsOfOnly}
use Rattle.simplex_disk.specs.Memory.{file_in, IsLeftBy}
use Rattle.simplex_disk.specs.Answers.{IsListing}
use Rattle.simplex_disk.specs.Files.{kept_of, AreFilesBut}
use Rattle.simplex_disk.proofs.Lookups.{lookup-set_same, lookup-set_other}
use Rattle.simplex_disk.proofs.Bytes.{torn_written}
use Rattle.simplex_disk.proofs.Calls.{content-here, content-other}

pub file-kept : (es : List (ℕ × Vec ℕ)) (n : ℕ) → file_in (kept_of es) n ≡ option_map (λ (v : Vec ℕ). v.items) (lookup (is_at (nat_cmp n)) es)
unfolding kept_of
file-kept [] n = refl
file-kept (e ∷ es) n = grind (arith, common_steps, file-kept es n)

pub file-there : (es : List (ℕ × Vec ℕ)) (n : ℕ) (v : Vec ℕ) → lookup (is_at (nat_cmp n)) es ≡ Some v → file_in (kept_of es) n ≡ Some v.items
file-there es n v found = file-kept es n ∙ ap (λ (o : Option (Vec ℕ)). option_map (λ (v : Vec ℕ). v.items) o) found

pub file-absent : (es : List (ℕ × Vec ℕ)) (n : ℕ) → lookup (is_at (nat_cmp n)) es ≡ None → file_in (kept_of es) n ≡ None
file-absent es n none = file-kept es n ∙ ap (λ (o : Option (Vec ℕ)). option_map (λ (v : Vec ℕ). v.items) o) none

-- A file was put or removed.
pub updated_files : (es new : List (ℕ × Vec ℕ)) (n : ℕ) (w : Option (Vec ℕ))
    → ((q : ℕ) → lookup (is_at (nat_cmp q)) new ≡ cond (is_at (nat_cmp n) q) w (lookup (is_at (nat_cmp q)) es))
    → AreFilesBut n (kept_of es) (kept_of new) (option_map (λ (v : Vec ℕ). v.items) w)
updated_files es new n w updates = record {
  here = file-kept new n ∙ ap (λ (o : Option (Vec ℕ)). option_map (λ (v : Vec ℕ). v.items) o) (let u = updates n in grind (arith, common_steps, unsigned_tied n n));
  others = λ m other. file-kept new m ∙ ap (λ (o : Option (Vec ℕ)). option_map (λ (v : Vec ℕ). v.items) o) (let u = updates m in grind (arith, common_steps, unsigned_tied n m)) ∙ sym (file-kept es m);
}

-- A file that is there was written into.
pub written_files : (es new : List (ℕ × Vec ℕ)) (n : ℕ) (v w : Vec ℕ) → lookup (is_at (nat_cmp n)) es ≡ Some v → new ≡ set_value (is_at (nat_cmp n)) es w
    → AreFilesBut n (kept_of es) (kept_of new) (Some w.items)
written_files es new n v w found is = subst (λ (l : List (ℕ × Vec ℕ)). AreFilesBut n (kept_of es) (kept_of l) (Some w.items)) (sym is)
    (record {
      here = file-there (set_value (is_at (nat_cmp n)) es w) n w (lookup-set_same n es v w found);
      others = λ m other.
          file-kept (set_value (is_at (nat_cmp n)) es w) m
          ∙ ap (λ (o : Option (Vec ℕ)). option_map (λ (v : Vec ℕ). v.items) o) (lookup-set_other n m es w other)
          ∙ sym (file-kept es m);
    })

kept-set : (es : List (ℕ × Vec ℕ)) (n : ℕ) (w : Vec ℕ) → kept_of (set_value (is_at (nat_cmp n)) es w) ≡ set_value (is_at (nat_cmp n)) (kept_of es) w.items
unfolding kept_of
kept-set [] n w = refl
kept-set (e ∷ es) n w = grind (arith, common_steps, kept-set es n w)

-- It was written with what it had.
pub rewritten_files : (es new : List (ℕ × Vec ℕ)) (n : ℕ) (v w : Vec ℕ) → lookup (is_at (nat_cmp n)) es ≡ Some v → new ≡ set_value (is_at (nat_cmp n)) es w → w.items ≡ v.items
    → kept_of new ≡ kept_of es
rewritten_files es new n v w found is same = ap kept_of is ∙ kept-set es n w ∙ ap (λ (l : List ℕ). set_value (is_at (nat_cmp n)) (kept_of es) l) same
    ∙ set_value_same (is_at (nat_cmp n)) (kept_of es) v.items (file-there es n v found)

pub same_files : (kept : List (ℕ × List ℕ)) (n : ℕ) → AreFilesBut n kept kept (file_in kept n)
same_files kept n = record { here = refl; others = λ m other. refl }

pub AreFilesBut-is : (n : ℕ) (old new : List (ℕ × List ℕ)) (x y : Option (List ℕ)) → x ≡ y → AreFilesBut n old new x → AreFilesBut n old new y
AreFilesBut-is n old new x y is h = record { here = h.here ∙ is; others = h.others }

-- After this call a crash may leave the file as it reads, where it might before.
abbrev pub IsKeptBy : ℕ → List Call → Call → Option (List ℕ) → Type 0
IsKeptBy n calls call old = MayLeave n calls old → Leaves call (after call old) (MayLeave n calls) (after call old)

may-here : (n : ℕ) (call : Call) (calls : List Call) → is_of n call ≡ true → IsKeptBy n calls call (content n calls) → MayLeave n calls (content n calls) → MayLeave n (call ∷ calls) (content n (call ∷ calls))
unfolding MayLeave
may-here n call calls here kept may =
    subst (λ (o : Option (List ℕ)). MayLeave n (call ∷ calls) o) (sym (content-here n call calls here))
    (subst (λ (o : Option (List ℕ)). LeavesIf (is_of n call) call o (MayLeave n calls) (after call (content n calls))) (sym (content-here n call calls here))
    (subst (λ (b : Bool). LeavesIf b call (after call (content n calls)) (MayLeave n calls) (after call (content n calls))) (sym here) (kept may)))

may-other : (m : ℕ) (call : Call) (calls : List Call) → is_of m call ≡ false → MayLeave m calls (content m calls) → MayLeave m (call ∷ calls) (content m (call ∷ calls))
unfolding MayLeave
may-other m call calls none may =
    subst (λ (o : Option (List ℕ)). MayLeave m (call ∷ calls) o) (sym (content-other m call calls none))
    (subst (λ (b : Bool). LeavesIf b call (content m (call ∷ calls)) (MayLeave m calls) (content m calls)) (sym none) may)

pub kept-write : (calls : List Call) (place : ℕ) (bytes : List ℕ) (files : List (ℕ × List ℕ)) (n : ℕ) → place ≤ length (bytes_of (file_in files n)) → IsKeptBy n calls (Write n place (length bytes) bytes) (file_in files n)
kept-write calls place bytes files n within = λ may. (file_in files n, may, torn_in place bytes (file_in files n) within)
  where
    torn_in : (place : ℕ) (bytes : List ℕ) (o : Option (List ℕ)) → place ≤ length (bytes_of o) → TornIn place (length bytes) o (Some (written place bytes (bytes_of o)))
    torn_in place bytes None within = torn_written place (length bytes) bytes [] (omega arith) within
    torn_in place bytes (Some old) within = torn_written place (length bytes) bytes old (omega arith) within

-- What one call does to a disk in memory is what it does to the files.
pub IsLeftBy-call : (n : ℕ) (call : Call) (calls : List Call) (old new : List (ℕ × List ℕ)) → IsOfOnly n call → is_of n call ≡ true → IsKeptBy n calls call (file_in old n)
    → AreFilesBut n old new (after call (file_in old n)) → IsLeftBy old calls → IsLeftBy new (call ∷ calls)
IsLeftBy-call n call calls old new only here kept but left = record {
  each = λ m. elim (cases_eq m n) [
    | inl same ↦ subst (λ (k : ℕ). content k (call ∷ calls) ≡ file_in new k) (sym same)
        (content-here n call calls here ∙ ap (λ (o : Option (List ℕ)). after call o) (left.each n) ∙ sym but.here)
    | inr other ↦ content-other m call calls (only m other) ∙ left.each m ∙ sym (but.others m other)
  ];
  stays = λ m. elim (cases_eq m n) [
    | inl same ↦ subst (λ (k : ℕ). MayLeave k (call ∷ calls) (content k (call ∷ calls))) (sym same)
        (may-here n call calls here (subst (λ (o : Option (List ℕ)). IsKeptBy n calls call o) (sym (left.each n)) kept) (left.stays n))
    | inr other ↦ may-other m call calls (only m other) (left.stays m)
  ];
}

-- the same, where the files are named otherwise
pub IsLeftBy-named : (n : ℕ) (call : Call) (calls : List Call) (old was new now : List (ℕ × List ℕ)) → IsOfOnly n call → is_of n call ≡ true → IsKeptBy n calls call (file_in was n)
    → was ≡ old → now ≡ new → AreFilesBut n was new (after call (file_in was n)) → IsLeftBy old calls → IsLeftBy now (call ∷ calls)
IsLeftBy-named n call calls old was new now only here kept before behind but left =
    subst (λ (l : List (ℕ × List ℕ)). IsLeftBy l (call ∷ calls)) (sym behind)
    (IsLeftBy-call n call calls was new only here kept but (subst (λ (l : List (ℕ × List ℕ)). IsLeftBy l calls) (sym before) left))

pub written-new : (place : ℕ) (bytes : List ℕ) → place ≤ 0 → written place bytes [] ≡ bytes
written-new place bytes none = grind (arith, common_steps)

pub written-byte : (old : List ℕ) (place b : ℕ) → place < length old → written place (b ∷ []) old ≡ set old place b
written-byte [] place b lt = absurd (omega arith)
written-byte (x ∷ old) zero b lt = refl
written-byte (x ∷ old) (suc place) b lt = ap (λ (l : List ℕ). x ∷ l) (ap (λ (k : ℕ). take place old ++ b ∷ drop k (x ∷ old)) (let e : suc place + 1 ≡ suc (place + 1) = omega arith in e) ∙ written-byte old place b (omega arith))

pub kept-none : (es : List (ℕ × Vec ℕ)) → es ≡ [] → kept_of es ≡ []
unfolding kept_of
kept-none es none = ap kept_of none

-- The numbers of the files, as a listing.
pub IsListing-keys : (es : List (ℕ × Vec ℕ)) → IsStrictlySortedBy nat_cmp (keys_of es) → IsListing (file_in (kept_of es)) (keys_of es)
IsListing-keys es sorted = record { rising = sorted; all = all_of es }
  where
    all_of : (es : List (ℕ × Vec ℕ)) (n : ℕ) → is_some (file_in (kept_of es) n) ≡ list_any (λ number. eqb number n) (keys_of es)
    all_of [] n = ap (λ (o : Option (List ℕ)). is_some o) (file-absent [] n refl)
    all_of (e ∷ es) n = elim (cases_eq e.0 n) [
      | inl same ↦ grind (arith, common_steps, nat_tests, unsigned_tied n e.0, file-kept (e ∷ es) n)
      | inr other ↦
          let more = all_of es n in
          let here = file-kept (e ∷ es) n in
          let there = file-kept es n in
          grind (arith, common_steps, nat_tests, unsigned_tied n e.0)
    ]
