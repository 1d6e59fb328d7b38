-- Which gaps are new after a call.
use Rattle.std.proofs.Common.{◌≡◌, ℕ, ◌+◌, ◌-◌, ◌<◌, ◌≤◌, ◌^◌, ◌&&◌, ◌∷◌, if◌then◌else◌, not, max, min, Bool, true, false, List, map, ap, ◌∙◌, arith}
use Rattle.std.proofs.lemmas.Grind.{common_steps}
use Rattle.std.specs.List.{range_with_len}
use Rattle.simplex_wire.specs.declared.certificate.Notarization.{Notarization}
use Rattle.simplex_wire.specs.declared.certificate.Nullification.{Nullification}
use Rattle.simplex_wire.specs.declared.certificate.Finalization.{Finalization}
use Rattle.simplex_wire.specs.declared.certificate.Certificate.TheVariants as certificates
use Rattle.simplex_values.specs.Terms.{next_of, next_term_start}
use Rattle.model_rules.specs.declared.effect.Effect.TheVariants.{Fetch}
use Rattle.model_rules.specs.Lists.{greatest_of}
use Rattle.model_rules.specs.Known.{view_of}
use Rattle.model_rules.specs.Repair.{RepairCall, Updated, Certified, is_gap, is_failed, is_nullified, is_first_above, finalization_held, final_view, repair_floor, top_of, gaps_of, fetched_by}
use Rattle.simplex_repair.specs.Gaps.{gaps_between, asked_to}
use Rattle.simplex_repair.proofs.Ranges.{same_range, filter_alike, filter_twice, never}
use Rattle.simplex_repair.proofs.Held.{failed_low}

-- ---- where new gaps can stand

-- each new gap stands from the first view to the last, and of the gaps there only the first view can be an old one
pub record IsSpan (length : ℕ) (calls : List RepairCall) (call : RepairCall) (first last : ℕ) : Type 0 where
  pub from : (u : ℕ) → is_gap length (call ∷ calls) u ≡ true → is_gap length calls u ≡ false → first ≤ u
  pub until : (u : ℕ) → is_gap length (call ∷ calls) u ≡ true → is_gap length calls u ≡ false → u ≤ last
  pub fresh : (u : ℕ) → first < u → u ≤ last → is_gap length (call ∷ calls) u ≡ true → is_gap length calls u ≡ false

-- a gap stands above the floor, and at most at the top
pub gap_above : (length : ℕ) (calls : List RepairCall) (u : ℕ) → is_gap length calls u ≡ true → repair_floor calls < u
unfolding is_gap
gap_above length calls u g = grind (arith, common_steps, g)

pub gap_low : (length : ℕ) (calls : List RepairCall) (u : ℕ) → is_gap length calls u ≡ true → u ≤ top_of length calls
unfolding is_gap
gap_low length calls u g = grind (arith, common_steps, g, failed_low length calls u)

-- the parts of the test that a view is a gap and was none
both : (a b : Bool) → (a && not b) ≡ true → (a ≡ true)
both a b e = grind (arith, common_steps, e)

other : (a b : Bool) → (a && not b) ≡ true → (b ≡ false)
other a b e = grind (arith, common_steps, e)

-- the fetches are those of the gaps in the span
pub spanned : (length : ℕ) (calls : List RepairCall) (call : RepairCall) (first last : ℕ) → IsSpan length calls call first last
    → fetched_by length calls call ≡ map Fetch (gaps_between length (call ∷ calls) (asked_to length calls first) last)
unfolding fetched_by gaps_of gaps_between asked_to
spanned length calls call first last s =
    ap (map Fetch)
    (filter_twice (λ u. not (is_gap length calls u)) (is_gap length (call ∷ calls)) (range_with_len (repair_floor (call ∷ calls) + 1) (top_of length (call ∷ calls) - repair_floor (call ∷ calls)))
    ∙ same_range (λ u. is_gap length (call ∷ calls) u && not (is_gap length calls u)) (repair_floor (call ∷ calls) + 1) (top_of length (call ∷ calls) - repair_floor (call ∷ calls))
    ((if is_gap length calls first then first else first - 1) + 1) (last - (if is_gap length calls first then first else first - 1))
    (λ u e. omega (arith, gap_above length (call ∷ calls) u (both _ _ e)))
    (λ u e. omega (arith, gap_above length (call ∷ calls) u (both _ _ e), gap_low length (call ∷ calls) u (both _ _ e)))
    (λ u e. grind (arith, common_steps, s.from u (both _ _ e) (other _ _ e), other _ _ e, gap_above length (call ∷ calls) u (both _ _ e)))
    (λ u e. grind (arith, common_steps, s.from u (both _ _ e) (other _ _ e), s.until u (both _ _ e) (other _ _ e), other _ _ e, gap_above length (call ∷ calls) u (both _ _ e)))
    ∙ filter_alike (λ u. is_gap length (call ∷ calls) u && not (is_gap length calls u)) (is_gap length (call ∷ calls))
    ((if is_gap length calls first then first else first - 1) + 1) (last - (if is_gap length calls first then first else first - 1))
    (λ u l h. grind (arith, common_steps, s.fresh u, l, h, never (is_gap length calls u))))

-- ---- the span of each call

-- a call that raises no floor opens the views from the top on, and may fail its own
pub notarization_span : (length : ℕ) (calls : List RepairCall) (n : Notarization)
    → IsSpan length calls (Updated (certificates.Notarization n)) (min (top_of length calls) (view_of n.proposal)) (view_of n.proposal)
unfolding is_gap top_of greatest_of repair_floor final_view finalization_held is_failed is_nullified
notarization_span length calls n = record {
  from = λ u g o. grind (arith, common_steps, g, o);
  until = λ u g o. grind (arith, common_steps, g, o);
  fresh = λ u l h g. grind (arith, common_steps, l, h, failed_low length calls u);
}

pub nullification_span : (length : ℕ) (calls : List RepairCall) (n : Nullification)
    → IsSpan length calls (Updated (certificates.Nullification n)) (min (top_of length calls) (next_term_start length n.round.view)) (next_term_start length n.round.view)
unfolding is_gap top_of greatest_of repair_floor final_view finalization_held is_failed is_nullified
nullification_span length calls n = record {
  from = λ u g o. grind (arith, common_steps, g, o);
  until = λ u g o. grind (arith, common_steps, g, o);
  fresh = λ u l h g. grind (arith, common_steps, l, h, failed_low length calls u);
}

pub failed_span : (length : ℕ) (calls : List RepairCall) (n : Notarization)
    → IsSpan length calls (Certified n false) (min (top_of length calls) (view_of n.proposal)) (view_of n.proposal)
unfolding is_gap top_of greatest_of repair_floor final_view finalization_held is_failed is_nullified
failed_span length calls n = record {
  from = λ u g o. grind (arith, common_steps, g, o);
  until = λ u g o. grind (arith, common_steps, g, o);
  fresh = λ u l h g. grind (arith, common_steps, l, h, failed_low length calls u);
}

-- a call that raises the floor opens the view above it
pub finalization_span : (length : ℕ) (calls : List RepairCall) (f : Finalization) → top_of length calls < 2 ^ 64
    → IsSpan length calls (Updated (certificates.Finalization f)) (next_of (max (repair_floor calls) (view_of f.proposal))) (next_of (max (repair_floor calls) (view_of f.proposal)))
unfolding is_gap top_of greatest_of repair_floor final_view finalization_held is_failed is_nullified is_first_above next_of
finalization_span length calls f fits = record {
  from = λ u g o. grind (arith, common_steps, g, o, fits);
  until = λ u g o. grind (arith, common_steps, g, o, fits);
  fresh = λ u l h g. absurd (omega (arith, l, h));
}

pub good_span : (length : ℕ) (calls : List RepairCall) (n : Notarization) → top_of length calls < 2 ^ 64
    → IsSpan length calls (Certified n true) (next_of (max (repair_floor calls) (view_of n.proposal))) (next_of (max (repair_floor calls) (view_of n.proposal)))
unfolding is_gap top_of greatest_of repair_floor final_view finalization_held is_failed is_nullified is_first_above next_of
good_span length calls n fits = record {
  from = λ u g o. grind (arith, common_steps, g, o, fits);
  until = λ u g o. grind (arith, common_steps, g, o, fits);
  fresh = λ u l h g. absurd (omega (arith, l, h));
}
