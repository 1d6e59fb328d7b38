-- The gaps are what the rule names.
use Rattle.std.proofs.Common.{◌≡◌, ℕ, zero, suc, ◌+◌, ◌-◌, ◌*◌, ◌/◌, ◌<◌, ◌≤◌, ◌==◌, ◌&&◌, ◌||◌, nat_lt, nat_le, ◌∷◌, [], max, Bool, true, false, List, filter, refl, inl, inr, ◌⊎◌, arith}
use Rattle.std.proofs.lemmas.Grind.{common_steps}
use Rattle.std.specs.List.{range_with_len, list_any}
use Rattle.simplex_wire.specs.declared.certificate.Certificate.TheVariants as certificates
use Rattle.simplex_values.specs.Terms.{term_index, term_start}
use Rattle.simplex_values.specs.Covers.{covers}
use Rattle.model_rules.specs.Repair.{RepairCall, Updated, is_nullified, is_failed, is_first_above, is_gap, is_replayed_in, gaps_of, repair_floor, top_of}
use Rattle.simplex_repair.specs.Laws.{IsLeast, IsLacking}
use Rattle.simplex_repair.proofs.Terms.{term_rises, start_low}
use Rattle.simplex_repair.proofs.Fresh.{gap_above, gap_low}

-- what covers a view covers the rest of its term
nullified_on : (length : ℕ) (calls : List RepairCall) (u w : ℕ) → is_nullified length calls u ≡ true → term_index length u ≡ term_index length w → u ≤ w → is_nullified length calls w ≡ true
unfolding is_nullified covers
nullified_on length [] u w n e le = grind (arith, common_steps, n)
nullified_on length (Updated (certificates.Nullification m) ∷ calls) u w n e le = grind (arith, common_steps, n, e, le, nullified_on length calls u w)
nullified_on length (Updated (certificates.Notarization m) ∷ calls) u w n e le = nullified_on length calls u w n e le
nullified_on length (Updated (certificates.Finalization m) ∷ calls) u w n e le = nullified_on length calls u w n e le
nullified_on length (_ ∷ calls) u w n e le = nullified_on length calls u w n e le

-- a term's first view is of the term
index_of_product : (k length : ℕ) → 0 < length → 0 < k → ((k - 1) * length + 1 + (length - 1)) / length ≡ k
index_of_product k length some above = grind (arith, some, above)

index_above : (length view : ℕ) → 0 < length → 0 < view → 0 < term_index length view
unfolding term_index
index_above length view some above = grind (arith, some, above)

start_index : (length view : ℕ) → 0 < length → 0 < view → term_index length (term_start length view) ≡ term_index length view
unfolding term_start term_index
start_index length view some above = grind (arith, common_steps, above, index_of_product ((view + (length - 1)) / length) length some, index_above length view some above)

-- the first view above the floor has no view of its term before it there
first_least : (length floor view w : ℕ) → 0 < length → is_first_above length floor view ≡ true → floor < w → w < view → term_index length w ≡ term_index length view → true ≡ false
unfolding is_first_above term_start
first_least length floor view w some first above lt e = grind (arith, common_steps, first, above, lt, e, start_low length w some)

-- a view that is not the first has one
least_first : (length : ℕ) (calls : List RepairCall) (view : ℕ) → 0 < length → repair_floor calls < view → is_nullified length calls view ≡ false → IsLeast length calls view
    → is_first_above length (repair_floor calls) view ≡ true
unfolding is_first_above
least_first length calls view some above open_at least =
    (let w : ℕ = max (repair_floor calls + 1) (term_start length view) in
    let low = start_low length view some in
    let e = start_index length view some (omega (arith, above)) in
    grind (
      arith,
      common_steps,
      above,
      open_at,
      low,
      e,
      least w,
      nullified_on length calls w view,
      term_rises length (term_start length view) w some,
      term_rises length w view some,
    ))

-- ---- the law

either : (a b : Bool) → (a || b) ≡ true → (a ≡ true) ⊎ (b ≡ true)
either true b e = inl refl
either false b e = inr e

gap_kind : (length : ℕ) (calls : List RepairCall) (view : ℕ) → is_gap length calls view ≡ true
    → ((nat_lt view (top_of length calls) && is_first_above length (repair_floor calls) view) || is_failed calls view) ≡ true
unfolding is_gap
gap_kind length calls view g = grind (arith, common_steps, g)

gap_open : (length : ℕ) (calls : List RepairCall) (view : ℕ) → is_gap length calls view ≡ true → is_nullified length calls view ≡ false
unfolding is_gap
gap_open length calls view g = grind (arith, common_steps, g)

parted : (length : ℕ) (calls : List RepairCall) (view : ℕ) → 0 < length
    → ((nat_lt view (top_of length calls) && is_first_above length (repair_floor calls) view) ≡ true) ⊎ (is_failed calls view ≡ true)
    → ((view < top_of length calls) × IsLeast length calls view) ⊎ (is_failed calls view ≡ true)
parted length calls view some (inl k) =
    inl (grind (arith, common_steps, k), λ w above lt e. (let f : true ≡ false = first_least length (repair_floor calls) view w some (grind (arith, common_steps, k)) above lt e in cc))
parted length calls view some (inr f) = inr f

pub gap_lacks : (length : ℕ) (calls : List RepairCall) (view : ℕ) → 0 < length → is_gap length calls view ≡ true → IsLacking length calls view
gap_lacks length calls view some g = (
  gap_above length calls view g,
  gap_open length calls view g,
  parted length calls view some (either (nat_lt view (top_of length calls) && is_first_above length (repair_floor calls) view) (is_failed calls view) (gap_kind length calls view g)),
)

pub lacks_gap : (length : ℕ) (calls : List RepairCall) (view : ℕ) → 0 < length → list_any is_replayed_in calls ≡ true → IsLacking length calls view → is_gap length calls view ≡ true
unfolding is_gap
lacks_gap length calls view some replayed (above, open_at, inl (low, least)) =
    grind (arith, common_steps, replayed, above, open_at, low, least_first length calls view some above open_at least)
lacks_gap length calls view some replayed (above, open_at, inr failed) = grind (arith, common_steps, replayed, above, open_at, failed)

-- a range's filtered views are those that pass
filtered : (test : ℕ → Bool) (a n view : ℕ) → list_any (λ v. v == view) (filter test (range_with_len a n)) ≡ (nat_le a view && nat_lt view (a + n) && test view)
filtered test a zero view = grind (arith, common_steps)
filtered test a (suc n) view = grind (arith, common_steps, filtered test (a + 1) n view)

pub gaps_listed : (length : ℕ) (calls : List RepairCall) (view : ℕ) → list_any (λ v. v == view) (gaps_of length calls) ≡ is_gap length calls view
unfolding gaps_of
gaps_listed length calls view =
    grind (arith, common_steps, filtered (is_gap length calls) (repair_floor calls + 1) (top_of length calls - repair_floor calls) view, gap_above length calls view, gap_low length calls view)
