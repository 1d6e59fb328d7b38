-- What a stop makes of the whole.
use Rattle.std.proofs.Common.{◌≡◌, ◌<◌, ◌+◌, ◌-◌, ◌^◌, ℕ, List, [], ◌∷◌, ◌++◌, take, Option, None, Some, refl, sym, ap, subst, ◌∙◌, arith, inl, inr}
use Rattle.std.specs.Prelude.{IsSome, IfSome}
use Rattle.std.specs.Ordering.{nat_cmp}
use Rattle.std.specs.Map.{lookup, set_value, keys_of}
use Rattle.std.specs.List.Sorted.{IsStrictlySortedBy}
use Rattle.std.specs.BTreeMap.{is_at}
use Rattle.std.proofs.lemmas.Bool.{cases_eq}
use Rattle.simplex_wire.specs.declared.artifact.Artifact.{Artifact}
use Rattle.simplex_journal.specs.Journal.{crashed}
use Rattle.simplex_journal.specs.Memory.{Lists, sections_of}
use Rattle.simplex_journal.proofs.Entries.{crashed-entries}
use Rattle.simplex_disk.specs.declared.segment.Segment.{Segment}
use Rattle.simplex_disk.specs.Calls.{Call, Settle, MayLeave, content}
use Rattle.simplex_disk.specs.Contents.{Any}
use Rattle.simplex_disk.specs.Left.{LeavesChain}
use Rattle.simplex_disk.specs.Moments.{AlwaysOf}
use Rattle.simplex_disk.specs.Segments.{IsSegment, lists_in}
use Rattle.simplex_disk.specs.Index.{read_entries, sections_at, StandsAt, IsIndexed, LeavesOld}
use Rattle.simplex_disk.specs.Opening.{IsSettledAt, IsSettled}
use Rattle.simplex_disk.specs.Stopping.{crashed_lists, StopsAt, IsNext}
use Rattle.simplex_disk.proofs.Backs.{back_on}
use Rattle.simplex_disk.proofs.Chains.{LeavesChain-front}
use Rattle.simplex_disk.proofs.Lookups.{lookup-set_same, lookup-set_other}
use Rattle.simplex_disk.proofs.Moments.{Untouched, untouched}
use Rattle.simplex_disk.proofs.Entries.{segment_lists}
use Rattle.simplex_disk.proofs.Each.{Done, done_all}
use Rattle.simplex_disk.proofs.Whole.{IsIndexed-but, stays_of}

-- ---- all files count as synced

pub content-settle : (n : ℕ) (H : List Call) → content n (Settle ∷ H) ≡ content n H
unfolding content
content-settle n H = refl

pub settled-settle : (H : List Call) → IsSettled (Settle ∷ H)
unfolding MayLeave
settled-settle H = record { only = λ n x now. now }

stands-settle : (n : ℕ) (H : List Call) (o : Option Segment) → StandsAt n H o → StandsAt n (Settle ∷ H) o
stands-settle n H None shut = record {
  content = content-settle n H ∙ shut.content;
  left = λ x now. (settled-settle H).only n x now ∙ content-settle n H ∙ shut.content;
}
stands-settle n H (Some s) h =
    let has = h.2.stands.content in
    let left : LeavesChain n h.0 h.1 (Settle ∷ H) = λ x now. (has.0, (settled-settle H).only n x now ∙ content-settle n H ∙ has.1, has.2) in (
      h.0,
      h.1,
      record { stands = record { content = (has.0, content-settle n H ∙ has.1, has.2); left = LeavesChain-front n h.0 h.1 _ left }; kept = h.2.kept },
    )

pub old_settle : (n : ℕ) (H : List Call) → MayLeave n H (content n H) → LeavesOld n H (Settle ∷ H)
old_settle n H may = λ x now. inr (subst (λ (y : Option (List ℕ)). MayLeave n H y) (sym ((settled-settle H).only n x now ∙ content-settle n H)) may)

pub IsIndexed-settle : (es : List (ℕ × Segment)) (leaving : Option ℕ) (H : List Call) → ((n : ℕ) → MayLeave n H (content n H)) → IsIndexed es leaving H → IsIndexed es leaving (Settle ∷ H)
IsIndexed-settle es leaving H may indexed = record {
  at = λ n stays. stands-settle n H (lookup (is_at (nat_cmp n)) es) (indexed.at n stays);
  gone = indexed.gone;
  back = λ n leaves.
      let s = indexed.back n leaves in
      (s.0, s.1, back_on s.0 n H (Settle ∷ H) s.1 (old_settle n H (may n)) s.2);
}

-- ---- one section

pub settled_other : (n : ℕ) (H0 H : List Call) → IsSettled H0 → Untouched n H0 H → IsSettledAt n H → IsSettled H
settled_other n H0 H settled u here = record {
  only = λ m x now. elim (cases_eq m n) [
    | inl same ↦ subst (λ (k : ℕ). x ≡ content k H) (sym same) (here x (subst (λ (k : ℕ). MayLeave k H x) same now))
    | inr other ↦ settled.only m x (u.left m other x now) ∙ sym (u.content m other)
  ];
}

pub some_same : (o : Option Segment) (v w : Segment) → o ≡ Some v → o ≡ Some w → v ≡ w
some_same o v w a b = cc (a, b)

module _ (n keep : ℕ) (es : List (ℕ × Segment)) (leaving : Option ℕ) (H0 H : List Call) (indexed : IsIndexed es leaving H0) (v w : Segment) (found : lookup (is_at (nat_cmp n)) es ≡ Some v)
    (S P : List Artifact) (seg : IsSegment n v S P H0) (h : AlwaysOf n Any H0 H) (new : List (ℕ × Segment)) (is : new ≡ set_value (is_at (nat_cmp n)) es w)
    (now : IsSegment n w (S ++ take keep P) [] H) where
  pub indexed_stopped : IsIndexed new leaving H
  indexed_stopped = subst (λ (l : List (ℕ × Segment)). IsIndexed l leaving H) (sym is)
      (IsIndexed-but n es (set_value (is_at (nat_cmp n)) es w) leaving H0 H indexed (untouched n Any H0 H h) (stays_of n es leaving H0 indexed v found) (λ m other. lookup-set_other n m es w other)
      (subst (λ (o : Option Segment). StandsAt n H o) (sym (lookup-set_same n es v w found)) (S ++ take keep P, [], now)))

  pub stops_at : StopsAt keep n H0 H es new
  stops_at = λ k there. (
    w,
    is,
    segment_lists n w (S ++ take keep P) [] H now
        ∙ sym (ap (λ (l : Lists). crashed_lists keep l) (segment_lists n v S P H0 seg))
        ∙ ap (λ (s : Segment). crashed_lists keep (lists_in (content n H0) s)) (some_same (lookup (is_at (nat_cmp n)) es) v k found there),
  )

-- ---- all sections

pub crashed_all : (keep b : ℕ) (H0 H : List Call) (es0 es : List (ℕ × Segment)) → Done (crashed_lists keep) b H0 H es0 es → IsNext es b None → IsStrictlySortedBy nat_cmp (keys_of es0)
    → sections_at H es ≡ crashed keep (sections_at H0 es0)
crashed_all keep b H0 H es0 es d none sorted = ap sections_of (done_all (crashed_lists keep) b H0 H es0 es d none sorted) ∙ crashed-entries keep (read_entries (λ n. content n H0) es0)

pub left_of : Option ℕ → ℕ
left_of None = 0
left_of (Some n) = 2 ^ 64 - n

pub smaller : (es : List (ℕ × Segment)) (next : Option ℕ) (n : ℕ) → n < 2 ^ 64 → IsNext es (n + 1) next → left_of next < left_of (Some n)
unfolding left_of
smaller es None n lt is = omega (arith, lt)
smaller es (Some m) n lt is = omega (arith, lt, is.0)

pub small_of : (o : Option ℕ) → IfSome o (λ n. n < 2 ^ 64) → (n : ℕ) → o ≡ Some n → n < 2 ^ 64
small_of o h n is = subst (λ (x : Option ℕ). IfSome x (λ k. k < 2 ^ 64)) is h

pub some_value : (o : Option Segment) → IsSome o → (v : Segment) × (o ≡ Some v)
some_value None some = absurd cc
some_value (Some v) some = (v, refl)
