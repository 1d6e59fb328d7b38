-- A file that is leaving is called.
use Rattle.std.proofs.Common.{◌≡◌, ℕ, List, ◌∷◌, Option, None, Some, true, refl, sym, ap, subst, ◌∙◌}
use Rattle.simplex_disk.specs.declared.segment.Segment.{Segment}
use Rattle.simplex_disk.specs.Calls.{Call, Remove, Sync, RemovesInPart, content}
use Rattle.simplex_disk.specs.Left.{IsAbsent}
use Rattle.simplex_disk.specs.Moments.{Always, AlwaysOf, Then}
use Rattle.simplex_disk.specs.Contents.{Any}
use Rattle.simplex_disk.specs.Index.{sections_at, StandsAt, IsIndexed, IsLeaving, LeavesOld, LeavesJournal}
use Rattle.simplex_disk.proofs.Calls.{content-remove, content-sync, left-sync}
use Rattle.simplex_disk.proofs.Moments.{always_all, untouched, none_of, now_of}
use Rattle.simplex_disk.proofs.Backs.{old_same, old_remove, old_removed}
use Rattle.simplex_disk.proofs.Steps.{remove_so_far, sync_so_far, then_removed_in_part}
use Rattle.simplex_disk.proofs.Entries.{read-none, LeavesJournal-one, IsIndexed-to}
use Rattle.simplex_journal.specs.Memory.{sections_of}

leaves_of : (leaving : Option ℕ) (n : ℕ) → leaving ≡ Some n → IsLeaving leaving n
leaves_of leaving n is = subst (λ (l : Option ℕ). IsLeaving l n) (sym is) refl

pub only_it : (leaving : Option ℕ) (n m : ℕ) → leaving ≡ Some n → IsLeaving leaving m → n ≡ m
only_it leaving n m is leaves = subst (λ (l : Option ℕ). IsLeaving l m) is leaves

-- A file that was removed, on the disk.
pub IsAbsent-removed : (n : ℕ) (H : List Call) → IsAbsent n (Sync n ∷ Remove n true ∷ H)
IsAbsent-removed n H = record {
  content = content-sync n (Remove n true ∷ H) ∙ content-remove n H;
  left = λ x now. left-sync n (Remove n true ∷ H) x now ∙ content-remove n H;
}

module _ (n : ℕ) (es : List (ℕ × Segment)) (leaving : Option ℕ) (is : leaving ≡ Some n) (H0 : List Call) (indexed : IsIndexed es leaving H0) where
  module _ (H : List Call) (h : AlwaysOf n (LeavesOld n H0) H0 H) where
    pub moments_leaving : Always (LeavesJournal (sections_at H0 es) leaving H0) H0 H
    moments_leaving = always_all n (LeavesOld n H0) (LeavesJournal (sections_at H0 es) leaving H0) H0 H
        (λ l old u. LeavesJournal-one n es leaving H0 l indexed u (λ stays. absurd (stays (leaves_of leaving n is))) (λ leaves. old)) h

    pub indexed_leaving : IsIndexed es leaving H
    indexed_leaving = IsIndexed-to n es es leaving leaving H0 H indexed (untouched n (LeavesOld n H0) H0 H h) (λ m other. refl) (λ stays. absurd (stays (leaves_of leaving n is)))
        (λ leaves. indexed.gone n leaves) (λ m other leaves. leaves) (λ m other leaves. leaves) (λ leaves. (now_of n (LeavesOld n H0) H0 H h, leaves))

    pub same_leaving : sections_at H es ≡ sections_at H0 es
    same_leaving = ap sections_of (read-none n (λ m. content m H0) (λ m. content m H) es (untouched n (LeavesOld n H0) H0 H h).content (indexed.gone n (leaves_of leaving n is)))

    pub indexed_left : IsAbsent n H → IsIndexed es None H
    indexed_left absent = IsIndexed-to n es es leaving None H0 H indexed (untouched n (LeavesOld n H0) H0 H h) (λ m other. refl)
        (λ stays. subst (λ (o : Option Segment). StandsAt n H o) (sym (indexed.gone n (leaves_of leaving n is))) absent)
        (λ leaves. absurd leaves) (λ m other leaves. absurd (other (sym (only_it leaving n m is leaves)))) (λ m other leaves. absurd leaves) (λ leaves. absurd leaves)

  start : AlwaysOf n (LeavesOld n H0) H0 H0
  start = none_of n (LeavesOld n H0) H0 (old_same n H0)

  pub removed : AlwaysOf n (LeavesOld n H0) H0 (Remove n true ∷ H0)
  removed = remove_so_far n (LeavesOld n H0) H0 H0 start true (old_remove n true H0)

  pub removed_synced : AlwaysOf n (LeavesOld n H0) H0 (Sync n ∷ Remove n true ∷ H0)
  removed_synced = sync_so_far n (LeavesOld n H0) H0 (Remove n true ∷ H0) removed (old_removed n H0)

  -- a moment at which it is as before, but for the file that is leaving
  pub still_leaving : (St : List Call → Type 0) → Then St (AlwaysOf n (LeavesOld n H0) H0) Any → Then St (Always (LeavesJournal (sections_at H0 es) leaving H0) H0) (λ now. IsIndexed es leaving now × (sections_at now es ≡ sections_at H0 es))
  still_leaving St t = record { now = t.now; stands = t.stands; held = moments_leaving t.now t.held; holds = (indexed_leaving t.now t.held, same_leaving t.now t.held) }

  pub removed_in_part : (St : List Call → Type 0) → RemovesInPart n H0 St → Then St (AlwaysOf n (LeavesOld n H0) H0) Any
  removed_in_part St part = then_removed_in_part n (LeavesOld n H0) H0 H0 start St Any part (λ done. old_remove n done H0) tt (λ done. tt)
