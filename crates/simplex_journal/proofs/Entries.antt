-- The entries of a map, as sections.
use Rattle.std.proofs.Common.{◌≡◌, ◌≤◌, ◌<◌, ℕ, ◌-◌, refl, sym, ◌∙◌, ap, List, [], ◌∷◌, ◌++◌, length, take, map, arith, Option, Some, None}
use Rattle.std.proofs.Common.{inl, inr}
use Rattle.std.proofs.lemmas.Grind.{common_steps}
use Rattle.std.proofs.lemmas.Bool.{cases_order}
use Rattle.std.proofs.lemmas.Bool.Decides.{nat_tests}
use Rattle.std.proofs.lemmas.Cmp.{nat_cmp_total}
use Rattle.std.proofs.lemmas.List.Elements.{All-head, All-tail}
use Rattle.std.proofs.lemmas.Map.{lookup-none}
use Rattle.std.proofs.lemmas.Map.Steps.{set_value_same}
use Rattle.std.specs.Prelude.{IfSome, IsSome, slice_get}
use Rattle.std.proofs.lemmas.Map.Entries.{none_below_head}
use Rattle.std.proofs.lemmas.Map.Keys.{le_from_not_gt, sorted_tail}
use Rattle.std.specs.declared.cmp.Ordering.TheVariants.{Less}
use Rattle.std.specs.Ordering.{nat_cmp}
use Rattle.std.specs.Cmp.{unsigned_tied}
use Rattle.std.specs.Map.{lookup, set_value, keys_of}
use Rattle.std.specs.BTreeMap.{is_at, insert_entry}
use Rattle.std.specs.BTreeMap.Range.{IsLeBy}
use Rattle.std.specs.List.{All}
use Rattle.std.specs.List.Sorted.{IsStrictlySortedBy}
use Rattle.simplex_wire.specs.declared.artifact.Artifact.{Artifact}
use Rattle.simplex_journal.specs.Journal.{Section, opened_section, appended_section, synced_section, crashed_section, appended, synced_at, all_synced, pruned, pruned_first, crashed}
use Rattle.simplex_journal.specs.Memory.{Lists, section_of, sections_of}

-- The records of a section, synced.
abbrev pub synced_lists : Lists → Lists
synced_lists lists = record { synced = lists.synced ++ lists.pending; pending = [] }

-- What a stop leaves of the records of a section.
abbrev pub crashed_lists : ℕ → Lists → Lists
crashed_lists keep lists = record { synced = lists.synced ++ take keep lists.pending; pending = [] }

-- The records of a section, with one more that is pending.
abbrev pub appended_lists : Artifact → Lists → Lists
appended_lists artifact lists = record lists { pending = lists.pending ++ artifact ∷ [] }

-- A section that is not there is not synced.
pub synced_at-none : (n : ℕ) (es : List (ℕ × Lists)) → lookup (is_at (nat_cmp n)) es ≡ None → synced_at n (sections_of es) ≡ sections_of es
unfolding synced_at sections_of
synced_at-none n [] h = refl
synced_at-none n (e ∷ es) h = grind (arith, common_steps, unsigned_tied n e.0, synced_at-none n es)

-- A section that is there is synced.
pub synced_at-some : (n : ℕ) (es : List (ℕ × Lists)) (v : Lists) → lookup (is_at (nat_cmp n)) es ≡ Some v
    → sections_of (set_value (is_at (nat_cmp n)) es (synced_lists v)) ≡ synced_at n (sections_of es)
unfolding synced_at sections_of synced_section
synced_at-some n [] v h = cc
synced_at-some n (e ∷ es) v h = grind (arith, common_steps, unsigned_tied n e.0, synced_at-some n es v)

-- Each section is synced.
pub all_synced-entries : (es : List (ℕ × Lists)) → sections_of (map (λ e. (e.0, synced_lists e.1)) es) ≡ all_synced (sections_of es)
unfolding all_synced sections_of synced_section
all_synced-entries [] = refl
all_synced-entries (e ∷ es) = ap (λ rest. synced_section (section_of e) ∷ rest) (all_synced-entries es)

-- Of each section stands what a stop leaves.
pub crashed-entries : (keep : ℕ) (es : List (ℕ × Lists)) → sections_of (map (λ e. (e.0, crashed_lists keep e.1)) es) ≡ crashed keep (sections_of es)
unfolding crashed sections_of crashed_section
crashed-entries keep [] = refl
crashed-entries keep (e ∷ es) = ap (λ rest. crashed_section keep (section_of e) ∷ rest) (crashed-entries keep es)

-- To drop no section changes nothing.
pub pruned_first-zero : (least : ℕ) (xs : List Section) → pruned_first 0 least xs ≡ xs
unfolding pruned_first
pruned_first-zero least [] = refl
pruned_first-zero least (s ∷ rest) = ap (λ xs. s ∷ xs) (pruned_first-zero least rest)

-- From sections that are not below the least number none is dropped.
pub pruned_first-above : (count least first : ℕ) (es : List (ℕ × Lists)) → least ≤ first → All (IsLeBy nat_cmp first) (keys_of es)
    → pruned_first count least (sections_of es) ≡ sections_of es
unfolding pruned_first sections_of
pruned_first-above count least first [] above all = refl
pruned_first-above count least first (e ∷ es) above all =
    let here : first ≤ e.0 = le_from_not_gt first e.0 (All-head (IsLeBy nat_cmp first) e.0 (keys_of es) all) in
    let rest : pruned_first count least (sections_of es) ≡ sections_of es = pruned_first-above count least first es above (All-tail (IsLeBy nat_cmp first) e.0 (keys_of es) all) in
    grind (arith, common_steps, nat_tests)

-- A section below the least number is dropped, and counted.
pub pruned_first-below : (count least : ℕ) (e : ℕ × Lists) (es : List (ℕ × Lists)) → 0 < count → e.0 < least
    → pruned_first count least (sections_of (e ∷ es)) ≡ pruned_first (count - 1) least (sections_of es)
unfolding pruned_first sections_of
pruned_first-below count least e es some below = grind (arith, common_steps, nat_tests)

-- A record is appended to a section that is there.
pub appended-some : (n : ℕ) (a : Artifact) (es : List (ℕ × Lists)) (v : Lists) → IsStrictlySortedBy nat_cmp (keys_of es)
    → lookup (is_at (nat_cmp n)) es ≡ Some v
    → sections_of (set_value (is_at (nat_cmp n)) es (appended_lists a v)) ≡ appended n a (sections_of es)
unfolding appended sections_of appended_section
appended-some n a [] v s h = cc
appended-some n a (e ∷ es) v s h = elim (cases_order n e.0) [
  | inl same ↦ grind (arith, common_steps, nat_tests)
  | inr (inl below) ↦
      let less : nat_cmp n e.0 ≡ Less = grind (arith, nat_tests) in
      let none : lookup (is_at (nat_cmp n)) (e ∷ es) ≡ None = lookup-none _ (e ∷ es) (none_below_head nat_cmp_total n e es s less) in
      let no : Some v ≡ None = sym h ∙ none in cc
  | inr (inr above) ↦
      let rest = appended-some n a es v (sorted_tail nat_cmp e.0 (keys_of es) s) in
      grind (arith, common_steps, nat_tests, rest)
]

-- A section that is not there is opened at its place.
pub appended-none : (n : ℕ) (a : Artifact) (es : List (ℕ × Lists)) → lookup (is_at (nat_cmp n)) es ≡ None
    → sections_of (insert_entry nat_cmp es n (record { synced = []; pending = a ∷ [] })) ≡ appended n a (sections_of es)
unfolding appended sections_of opened_section
appended-none n a [] h = refl
appended-none n a (e ∷ es) h = elim (cases_order n e.0) [
  | inl same ↦ grind (arith, common_steps, nat_tests)
  | inr (inl below) ↦ grind (arith, common_steps, nat_tests)
  | inr (inr above) ↦ grind (arith, common_steps, nat_tests, appended-none n a es)
]

-- What is written at a section that is there: one more record.
pub appended-written : (n : ℕ) (a : Artifact) (es ns : List (ℕ × Lists)) (v w : Lists) → ns ≡ set_value (is_at (nat_cmp n)) es w → w ≡ appended_lists a v
    → IsStrictlySortedBy nat_cmp (keys_of es) → lookup (is_at (nat_cmp n)) es ≡ Some v → sections_of ns ≡ appended n a (sections_of es)
appended-written n a es ns v w is what s h = ap sections_of (is ∙ ap (λ x. set_value (is_at (nat_cmp n)) es x) what) ∙ appended-some n a es v s h

-- What is written at a section that is there: what it has.
pub same-written : (n : ℕ) (es ns : List (ℕ × Lists)) (v w : Lists) → ns ≡ set_value (is_at (nat_cmp n)) es w → w ≡ v
    → lookup (is_at (nat_cmp n)) es ≡ Some v → sections_of ns ≡ sections_of es
same-written n es ns v w is what h =
    ap sections_of (is ∙ ap (λ x. set_value (is_at (nat_cmp n)) es x) what ∙ set_value_same (is_at (nat_cmp n)) es v h)

-- What is put where no section is: its first record.
pub appended-put : (n : ℕ) (a : Artifact) (es ns : List (ℕ × Lists)) (w : Lists) → ns ≡ insert_entry nat_cmp es n w → w ≡ record { synced = []; pending = a ∷ [] }
    → lookup (is_at (nat_cmp n)) es ≡ None → sections_of ns ≡ appended n a (sections_of es)
appended-put n a es ns w is what h = ap sections_of (is ∙ ap (λ x. insert_entry nat_cmp es n x) what) ∙ appended-none n a es h

-- The entry that left is the first.
pub popped : (es ns : List (ℕ × Lists)) (r : Option (ℕ × Lists)) (first : ℕ × Lists) → IfSome r (λ p. es ≡ p ∷ ns) → (0 < length es → IsSome r)
    → slice_get es 0 ≡ Some first → es ≡ first ∷ ns
popped [] ns r first removal some is = cc
popped (e ∷ es) ns None first removal some is =
    let here : 0 < length (e ∷ es) = omega arith in
    let found : IsSome {T = ℕ × Lists} None = some here in grind (arith, common_steps)
popped (e ∷ es) ns (Some p) first removal some is = grind (arith, common_steps)

-- As many sections as entries.
pub length-sections_of : (es : List (ℕ × Lists)) → length (sections_of es) ≡ length es
unfolding sections_of
length-sections_of [] = refl
length-sections_of (e ∷ es) = grind (arith, common_steps, length-sections_of es)

-- To drop the first sections, as many as there are, drops all that are below the least number.
pub pruned_first-all : (count least : ℕ) (xs : List Section) → length xs ≤ count → pruned_first count least xs ≡ pruned least xs
unfolding pruned_first pruned
pruned_first-all count least [] enough = refl
pruned_first-all count least (s ∷ rest) enough =
    let some : 0 < count = omega arith in
    let fewer : pruned_first (count - 1) least rest ≡ pruned least rest = pruned_first-all (count - 1) least rest (omega arith) in
    let same : pruned_first count least rest ≡ pruned least rest = pruned_first-all count least rest (omega arith) in
    grind (arith, common_steps, nat_tests)
