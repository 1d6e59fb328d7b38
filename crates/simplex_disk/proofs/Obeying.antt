-- The order of the journal, by that of its disk.
use Rattle.std.proofs.Common.{◌≡◌, ℕ, zero, suc, Bool, true, false, eqb, List, Option, None, Some, Result, Ok, Err, refl, sym, ap, subst, ◌∙◌}
use Rattle.std.specs.Prelude.{IsSome, IfSome}
use Rattle.std.specs.Result.{OnOk}
use Rattle.simplex_journal.specs.Order.{Order, Obeys, Stands, PrunesInPart}
use Rattle.simplex_journal.specs.Journal.{Section, pruned_first}
use Rattle.simplex_journal.specs.Faults as journal
use Rattle.simplex_journal.specs.declared.error.JournalError.{JournalError}
use Rattle.simplex_journal.specs.declared.error.JournalError.TheVariants as errors
use Rattle.simplex_disk.specs.Errors.{journal_error}
use Rattle.simplex_disk.specs.Opening.{not_opened}
use Rattle.simplex_disk.specs.declared.error.DiskError.{DiskError}
use Rattle.simplex_disk.specs.declared.error.DiskError.TheVariants.{Failed, Memory}
use Rattle.simplex_disk.specs.Answers as disk
use Rattle.simplex_disk.specs.Ends.{Ends, IsNoFault}
use Rattle.simplex_disk.specs.Orders.{order_told, IsOrdered, journal_answer, call_after}

-- ---- the count of faults

pub counts_of : {T : Type 0} (r : Result T DiskError) (before now : ℕ) → disk.Counts r before now → journal.Counts before (journal_answer r) now
counts_of (Ok x) before now h = h
counts_of (Err Failed) before now h = h
counts_of (Err Memory) before now h = h

-- where it was an error
pub counts_error : {T : Type 0} (r : Result T DiskError) (e : DiskError) (error : JournalError) (before now : ℕ) → r ≡ Err e → error ≡ journal_error e → disk.Counts r before now
    → journal.Counts before (not_opened error) now
counts_error {T} r e error before now is said h =
    subst (λ (j : JournalError). journal.Counts before (not_opened j) now) (sym said) (by e (subst (λ (q : Result T DiskError). disk.Counts q before now) is h))
  where
    by : (e : DiskError) → disk.Counts {R = T} (Err e) before now → journal.Counts before (not_opened (journal_error e)) now
    by Failed h = h
    by Memory h = h

-- an error that is no fault
pub no_fault_error : {T : Type 0} (r : Result T DiskError) (e : DiskError) (error : JournalError) → r ≡ Err e → error ≡ journal_error e → IsNoFault r → error ≡ errors.Memory
no_fault_error {T} r e error is said quiet = said ∙ by e (subst (λ (q : Result T DiskError). IsNoFault q) is quiet)
  where
    by : (e : DiskError) → IsNoFault {R = T} (Err e) → journal_error e ≡ errors.Memory
    by Failed quiet = absurd quiet
    by Memory quiet = refl

-- ---- the order

told_zero : (order : Order) (now : Option ℕ) → now ≡ Some 0 → order_told now order ≡ Some order
told_zero order now is = ap (λ (o : Option ℕ). order_told o order) is

some_zero : (o : Option ℕ) → IsSome o → (k : ℕ) × (o ≡ Some k)
some_zero None some = absurd cc
some_zero (Some k) some = (k, refl)

taken_back : (now after : Option ℕ) → IsSome now → IsOrdered true 0 now after → after ≡ Some 0
taken_back now after some is = let k = some_zero now some in subst (λ (o : Option ℕ). IsOrdered true 0 o after) k.1 is

obeys_named : {T : Type 0} (r : Result T DiskError) (call sections : ℕ) (after : Option ℕ) → eqb call 1 ≡ true → OnOk r ⊥ → after ≡ Some 0
    → Obeys (Some (record { call = call; sections = sections })) (journal_answer r) (order_told after (record { call = call_after r call; sections = sections }))
obeys_named (Ok x) call sections after named hits is = absurd hits
obeys_named (Err Failed) call sections after named hits is = (named, told_zero _ after is)
obeys_named (Err Memory) call sections after named hits is = told_zero _ after is

obeys_other : {T : Type 0} (r : Result T DiskError) (call sections : ℕ) (after : Option ℕ) → eqb call 1 ≡ false → IsNoFault r → after ≡ Some 0
    → Obeys (Some (record { call = call; sections = sections })) (journal_answer r) (order_told after (record { call = call_after r call; sections = sections }))
obeys_other (Ok x) call sections after named quiet is = (named, told_zero _ after is)
obeys_other (Err Failed) call sections after named quiet is = absurd quiet
obeys_other (Err Memory) call sections after named quiet is = told_zero _ after is

-- the orders of the disk before a call of the journal, and as it begins, ends, and is over
module _ {T : Type 0} (r : Result T DiskError) (call sections number : ℕ) (f f' : ℕ) (begun ended over : Option ℕ)
    (ends : Ends f begun r f' ended) (hits : begun ≡ Some number → OnOk r ⊥) where
  obeys_by : (named : Bool) → eqb call 1 ≡ named → IsOrdered named number (Some 0) begun → IsOrdered named 0 ended over
      → Obeys (Some (record { call = call; sections = sections })) (journal_answer r) (order_told over (record { call = call_after r call; sections = sections }))
  obeys_by true is given taken =
      obeys_named r call sections over is (hits given) (taken_back ended over (ends.told (subst (λ (o : Option ℕ). IsSome o) (sym given) refl)) taken)
  obeys_by false is given taken = let q = ends.quiet given in obeys_other r call sections over is q.1 (taken ∙ q.0)

  pub obeys : (before : Option ℕ) → IsOrdered (eqb call 1) number before begun → IsOrdered (eqb call 1) 0 ended over
      → Obeys (order_told before (record { call = call; sections = sections })) (journal_answer r) (order_told over (record { call = call_after r call; sections = sections }))
  obeys None given taken = tt
  obeys (Some zero) given taken = obeys_by (eqb call 1) refl given taken
  obeys (Some (suc k)) given taken = tt

-- Of the answer that is given.
pub obeys_in : {T : Type 0} (r : Result T DiskError) (s : Result T JournalError) (call sections number f f' : ℕ) (before begun ended over : Option ℕ) → s ≡ journal_answer r
    → Ends f begun r f' ended → (begun ≡ Some number → OnOk r ⊥) → IsOrdered (eqb call 1) number before begun → IsOrdered (eqb call 1) 0 ended over → (left : ℕ) → left ≡ call_after r call
    → Obeys (order_told before (record { call = call; sections = sections })) s (order_told over (record { call = left; sections = sections }))
obeys_in {T} r s call sections number f f' before begun ended over is ends hits given taken left counts =
    subst (λ (q : Result T JournalError). Obeys (order_told before (record { call = call; sections = sections })) q (order_told over (record { call = left; sections = sections }))) (sym is)
    (subst (λ (k : ℕ). Obeys (order_told before (record { call = call; sections = sections })) (journal_answer r) (order_told over (record { call = k; sections = sections }))) (sym counts)
    (obeys r call sections number f f' begun ended over ends hits before given taken))

pub counts_in : {T : Type 0} (r : Result T DiskError) (s : Result T JournalError) (f0 f1 f2 f3 : ℕ) → s ≡ journal_answer r → f1 ≡ f0 → disk.Counts r f1 f2 → f3 ≡ f2 → journal.Counts f0 s f3
counts_in {T} r s f0 f1 f2 f3 is begins counts over =
    subst (λ (q : Result T JournalError). journal.Counts f0 q f3) (sym is)
    (subst (λ (k : ℕ). journal.Counts k (journal_answer r) f3) begins (subst (λ (k : ℕ). journal.Counts f1 (journal_answer r) k) (sym over) (counts_of r f1 f2 counts)))

-- An order that stands is told as before.
pub order_stands : (before now : Option ℕ) (order : Order) → disk.OrderStands before now → Stands (order_told before order) (order_told now order)
order_stands None now order is = tt
order_stands (Some zero) now order is = told_zero order now is
order_stands (Some (suc k)) now order is = tt

-- A new order is told where the one before was.
pub order_given : (disk_order : Option ℕ) (before now : Order) → IfSome (order_told disk_order before) (λ _. order_told disk_order now ≡ Some now)
order_given None before now = tt
order_given (Some zero) before now = refl
order_given (Some (suc k)) before now = tt

-- ---- a prune that failed

-- how many sections it dropped, where the disk was ordered to fail a call of it
abbrev pub IsExact : {E : Type 0} → E → E → (ℕ → ℕ) → Option ℕ → List Section → List Section → ℕ → Type 0
IsExact failed e number begun old new least = (dropped : ℕ) × (new ≡ pruned_first dropped least old) × (e ≡ failed → (named : ℕ) → begun ≡ Some (number named) → dropped ≡ named)

module _ (number : ℕ → ℕ) (call sections named least : ℕ) (old new : List Section) (enough : pruned_first named least old ≡ pruned_first sections least old)
    (f f' : ℕ) (begun ended : Option ℕ) (r : Result (Unit {0}) DiskError) (is : r ≡ Err Failed) (ends : Ends f begun r f' ended) (exact : IsExact Failed Failed number begun old new least) where
  in_part_by : (by : Bool) → eqb call 1 ≡ by → IsOrdered by (number named) (Some 0) begun → new ≡ pruned_first sections least old
  in_part_by true is_named given = exact.1 ∙ ap (λ (k : ℕ). pruned_first k least old) (exact.2 refl named given) ∙ enough
  in_part_by false is_named given = absurd (subst (λ (q : Result (Unit {0}) DiskError). IsNoFault q) is (ends.quiet given).1)

  pub prunes_in_part : (before : Option ℕ) → IsOrdered (eqb call 1) (number named) before begun
      → PrunesInPart (order_told before (record { call = call; sections = sections })) least old new
  prunes_in_part None given = (exact.0, exact.1)
  prunes_in_part (Some zero) given = in_part_by (eqb call 1) refl given
  prunes_in_part (Some (suc k)) given = (exact.0, exact.1)
