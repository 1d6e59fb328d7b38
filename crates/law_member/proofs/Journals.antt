-- What the calls of a journal are to the member's journal.
use Rattle.std.proofs.Common.{◌≡◌, ℕ, suc, ◌<◌, List, [], ◌∷◌, map, take, refl, sym, ap, ◌∙◌, subst, inl, inr, arith, zero}
use Rattle.std.specs.Ordering.{nat_cmp}
use Rattle.std.specs.declared.cmp.Ordering.TheVariants.{Less}
use Rattle.std.specs.List.{AllByRecursion}
use Rattle.std.specs.List.Sorted.{IsStrictlySortedBy}
use Rattle.std.proofs.lemmas.Bool.{cases_eq, cases_lt, cases_order}
use Rattle.std.proofs.lemmas.Bool.Decides.{nat_tests}
use Rattle.std.proofs.lemmas.Grind.{common_steps}
use Rattle.std.proofs.lemmas.List.{map-append}
use Rattle.simplex_wire.specs.declared.artifact.Artifact.{Artifact}
use Rattle.simplex_wire.specs.declared.artifact.Artifact.TheVariants as artifacts
use Rattle.simplex_wire.specs.Fields.{artifact_round}
use Rattle.simplex_journal.specs.Journal.{Section, opened_section, appended_section, synced_section, crashed_section, appended, synced_at, pruned, crashed}
use Rattle.simplex_journal.specs.Contents.{numbers, IsRising}
use Rattle.law_agreement.specs.Artifacts as member
use Rattle.law_agreement.specs.Journal as kept
use Rattle.law_member.specs.Life.{memory_of, section_of, journal_of}

pub memory_view : (artifact : Artifact) → member.artifact_view (memory_of artifact) ≡ (artifact_round artifact).view
memory_view (artifacts.Notarize v) = refl
memory_view (artifacts.Nullify v) = refl
memory_view (artifacts.Finalize v) = refl
memory_view (artifacts.Notarization c) = refl
memory_view (artifacts.Nullification c) = refl
memory_view (artifacts.Finalization c) = refl
memory_view (artifacts.Certification round good) = refl

-- ---- an append

append_to_is : (n : ℕ) (a : Artifact) (js : List Section) → journal_of (appended n a js) ≡ kept.append_to n (memory_of a) (journal_of js)
unfolding journal_of appended opened_section appended_section
append_to_is n a [] = refl
append_to_is n a (s ∷ rest) =
    elim (cases_order n s.number) [
      | inl same ↦ grind (arith, nat_tests, common_steps, same, append_to_is n a rest)
      | inr (inl below) ↦ grind (arith, nat_tests, common_steps, below, append_to_is n a rest)
      | inr (inr above) ↦ grind (arith, nat_tests, common_steps, above, append_to_is n a rest)
    ]

pub append_is : (n : ℕ) (a : Artifact) (js : List Section) → (artifact_round a).view ≡ n
    → journal_of (appended n a js) ≡ kept.append (memory_of a) (journal_of js)
append_is n a js e = append_to_is n a js ∙ ap (λ v. kept.append_to v (memory_of a) (journal_of js)) (sym (memory_view a ∙ e))

-- ---- a sync

lower : (m n : ℕ) → nat_cmp m n ≡ Less → m < n
lower m n e = grind (arith, nat_tests, e)

sync_above : (n : ℕ) (js : List Section) → AllByRecursion (λ k. nat_cmp n k ≡ Less) (numbers js) → kept.sync n (journal_of js) ≡ journal_of js
unfolding journal_of numbers
sync_above n [] h = refl
sync_above n (s ∷ rest) h = grind (arith, nat_tests, common_steps, lower n s.number h.0, sync_above n rest h.1)

sync_head : (s : Section) → section_of (synced_section s) ≡ kept.synced_section (section_of s)
unfolding synced_section
sync_head s = ap (λ xs. record { view = s.number; synced = xs; pending = [] }) (map-append memory_of s.synced s.pending)

pub sync_is : (n : ℕ) (js : List Section) → IsRising js → journal_of (synced_at n js) ≡ kept.sync n (journal_of js)
unfolding journal_of synced_at numbers IsStrictlySortedBy
sync_is n [] h = refl
sync_is n (s ∷ rest) h =
    elim (cases_eq n s.number) [
      | inl same ↦ grind (arith, nat_tests, common_steps, same, sync_head s, sync_above n rest (subst (λ m. AllByRecursion (λ k. nat_cmp m k ≡ Less) (numbers rest)) (sym same) h.0))
      | inr other ↦ grind (arith, nat_tests, common_steps, other, sync_is n rest h.1)
    ]

-- ---- a prune

pub prune_is : (least : ℕ) (js : List Section) → journal_of (pruned least js) ≡ kept.prune least (journal_of js)
unfolding journal_of pruned
prune_is least [] = refl
prune_is least (s ∷ rest) =
    elim (cases_lt s.number least) [
      | inl below ↦ grind (arith, nat_tests, common_steps, below, prune_is least rest)
      | inr above ↦ grind (arith, nat_tests, common_steps, above, prune_is least rest)
    ]

-- ---- a stop

take_map : (n : ℕ) (xs : List Artifact) → map memory_of (take n xs) ≡ take n (map memory_of xs)
take_map n [] = grind (arith, common_steps)
take_map zero (x ∷ xs) = refl
take_map (suc n) (x ∷ xs) = ap (λ ys. memory_of x ∷ ys) (take_map n xs)

pub crash_is : (keep : ℕ) (js : List Section) → journal_of (crashed keep js) ≡ kept.left (λ view. keep) (journal_of js)
unfolding journal_of crashed crashed_section
crash_is keep [] = refl
crash_is keep (s ∷ rest) = grind (arith, common_steps, take_map keep s.pending, crash_is keep rest)
