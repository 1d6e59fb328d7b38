-- A call of the journal, with what its disk is ordered before it and after it.
use Rattle.std.proofs.Common.{◌≡◌, ℕ, List, [], ◌∷◌, Option, Result, Ok, Err, refl, sym, ap, subst}
use Rattle.std.specs.Map.{keys_of}
use Rattle.std.specs.Result.{MatchResult, OnOk, OnErr, IfOk, IsErrOf}
use Rattle.simplex_journal.specs.declared.error.JournalError.{JournalError}
use Rattle.simplex_journal.specs.Contents.{numbers}
use Rattle.simplex_journal.specs.Journal.{Section}
use Rattle.simplex_journal.specs.Memory.{sections_of}
use Rattle.simplex_journal.specs.declared.error.JournalError.TheVariants as journal
use Rattle.simplex_disk.specs.declared.error.DiskError.{DiskError}
use Rattle.simplex_disk.specs.declared.error.DiskError.TheVariants as disk
use Rattle.simplex_disk.specs.declared.segment.Segment.{Segment}
use Rattle.simplex_disk.specs.Calls.{Call, content}
use Rattle.simplex_disk.specs.Contents.{Any}
use Rattle.simplex_disk.specs.Index.{sections_in, sections_at, read_entries, IsIndexed}
use Rattle.simplex_disk.specs.Moments.{Always, Then}
use Rattle.simplex_disk.specs.Orders.{journal_answer}
use Rattle.simplex_disk.proofs.Entries.{read-same}

-- The sections are those of the calls of the disk.
pub sections_same : (C : ℕ → Option (List ℕ)) (H : List Call) (es : List (ℕ × Segment)) → ((n : ℕ) → content n H ≡ C n) → sections_at H es ≡ sections_in C es
sections_same C H es reads = ap sections_of (read-same C (λ n. content n H) es reads)

module _ {St0 St1 St2 St3 : List Call → Type 0} (begins : (calls : List Call) → St0 calls → St1 calls) (ends : (calls : List Call) → St2 calls → St3 calls)
    (es new : List (ℕ × Segment)) (l0 l1 : Option ℕ) (Leaves : List Section → List Call → List Call → Type 0) (Becomes : List Section → List Section → Type 0)
    (goes : (calls : List Call) → St1 calls → IsIndexed es l0 calls
    → Then St2 (Always (Leaves (sections_at calls es) calls) calls) (λ now. IsIndexed new l1 now × Becomes (sections_at calls es) (sections_at now new))) where
  pub still : (calls : List Call) × St0 calls × IsIndexed es l0 calls → (calls : List Call) × St3 calls × IsIndexed new l1 calls
  still inv = let t = goes inv.0 (begins inv.0 inv.1) inv.2 in (t.now, ends t.now t.stands, t.holds.0)

  module _ (C0 : ℕ → Option (List ℕ)) (reads0 : (calls : List Call) → St0 calls → (n : ℕ) → content n calls ≡ C0 n) where
    pub moments : (calls : List Call) → St0 calls × IsIndexed es l0 calls → Then (λ now. St3 now × IsIndexed new l1 now) (Always (Leaves (sections_in C0 es) calls) calls) Any
    moments H is =
        let t = goes H (begins H is.0) is.1 in
        record {
          now = t.now;
          stands = (ends t.now t.stands, t.holds.0);
          held = subst (λ (s : List Section). Always (Leaves s H) H t.now) (sections_same C0 H es (reads0 H is.0)) t.held;
          holds = tt;
        }

    pub becomes : (C3 : ℕ → Option (List ℕ)) → ((calls : List Call) → St3 calls → (n : ℕ) → content n calls ≡ C3 n)
        → (calls : List Call) × St0 calls × IsIndexed es l0 calls → Becomes (sections_in C0 es) (sections_in C3 new)
    becomes C3 reads3 inv =
        let t = goes inv.0 (begins inv.0 inv.1) inv.2 in
        subst (λ (s : List Section). Becomes s (sections_in C3 new)) (sections_same C0 inv.0 es (reads0 inv.0 inv.1))
        (subst (λ (s : List Section). Becomes (sections_at inv.0 es) s) (sections_same C3 t.now new (reads3 t.now (ends t.now t.stands))) t.holds.1)

-- ---- the answer

pub answer_ok : {T : Type 0} (P : Type 0) (B : DiskError → Type 0) (r : Result T DiskError) (s : Result T JournalError) → s ≡ journal_answer r → MatchResult r (λ _. P) B → OnOk s P
answer_ok {T} P B r s is h = subst (λ (q : Result T JournalError). OnOk q P) (sym is) (by r h)
  where
    by : (r : Result T DiskError) → MatchResult r (λ _. P) B → OnOk (journal_answer r) P
    by (Ok x) h = h
    by (Err e) h = tt

pub answer_if_ok : {T : Type 0} (P : T → Type 0) (r : Result T DiskError) (s : Result T JournalError) → s ≡ journal_answer r → IfOk r P → IfOk s P
answer_if_ok {T} P r s is h = subst (λ (q : Result T JournalError). IfOk q P) (sym is) (by r h)
  where
    by : (r : Result T DiskError) → IfOk r P → IfOk (journal_answer r) P
    by (Ok x) h = h
    by (Err e) h = tt

pub answer_err : {T : Type 0} (P Q : Type 0) (r : Result T DiskError) (s : Result T JournalError) → s ≡ journal_answer r → MatchResult r (λ _. P) (λ _. Q) → OnErr s Q
answer_err {T} P Q r s is h = subst (λ (q : Result T JournalError). OnErr q Q) (sym is) (by r h)
  where
    by : (r : Result T DiskError) → MatchResult r (λ _. P) (λ _. Q) → OnErr (journal_answer r) Q
    by (Ok x) h = tt
    by (Err e) h = h

pub answer_failed : {T : Type 0} (r : Result T DiskError) (s : Result T JournalError) → s ≡ journal_answer r → IsErrOf s journal.Failed → r ≡ Err disk.Failed
answer_failed {T} r s is h = by r (subst (λ (q : Result T JournalError). IsErrOf q journal.Failed) is h)
  where
    by : (r : Result T DiskError) → IsErrOf (journal_answer r) journal.Failed → r ≡ Err disk.Failed
    by (Ok x) h = absurd cc
    by (Err disk.Failed) h = refl
    by (Err disk.Memory) h = absurd cc

pub answer_memory : {T : Type 0} (r : Result T DiskError) (s : Result T JournalError) → s ≡ journal_answer r → IsErrOf s journal.Memory → IsErrOf r disk.Memory
answer_memory {T} r s is h = by r (subst (λ (q : Result T JournalError). IsErrOf q journal.Memory) is h)
  where
    by : (r : Result T DiskError) → IsErrOf (journal_answer r) journal.Memory → IsErrOf r disk.Memory
    by (Ok x) h = absurd cc
    by (Err disk.Failed) h = absurd cc
    by (Err disk.Memory) h = refl

pub if_weaker : {T E : Type 0} (P Q : T → Type 0) (r : Result T E) → ((x : T) → P x → Q x) → IfOk r P → IfOk r Q
if_weaker P Q (Ok x) f h = f x h
if_weaker P Q (Err e) f h = tt

-- ---- the numbers of the sections

pub numbers_kept : (files : ℕ → Option (List ℕ)) (es : List (ℕ × Segment)) → numbers (sections_in files es) ≡ keys_of es
unfolding numbers sections_of read_entries
numbers_kept files [] = refl
numbers_kept files (e ∷ es) = ap (λ (ns : List ℕ). e.0 ∷ ns) (numbers_kept files es)
