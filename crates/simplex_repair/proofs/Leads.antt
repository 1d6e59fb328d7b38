-- What each call leads to.
use Rattle.std.proofs.Common.{◌≡◌, ℕ, ◌+◌, ◌-◌, ◌<◌, ◌^◌, ◌&&◌, ◌||◌, ◌∷◌, [], ◌++◌, if◌then◌else◌, nat_lt, not, max, min, Bool, true, false, List, map, ap, ◌∙◌, arith}
use Rattle.std.proofs.lemmas.Grind.{common_steps}
use Rattle.std.specs.List.{range_with_len, list_any}
use Rattle.std.specs.Option.{is_none}
use Rattle.simplex_wire.specs.declared.certificate.Notarization.{Notarization}
use Rattle.simplex_wire.specs.declared.certificate.Nullification.{Nullification}
use Rattle.simplex_wire.specs.declared.certificate.Finalization.{Finalization}
use Rattle.simplex_wire.specs.declared.certificate.Certificate.TheVariants as certificates
use Rattle.simplex_values.specs.declared.ask.Kind.TheVariants as kinds
use Rattle.simplex_values.specs.Terms.{next_of, term_end, next_term_start}
use Rattle.model_rules.specs.declared.effect.Effect.{Effect}
use Rattle.model_rules.specs.declared.effect.Effect.TheVariants.{Fetch, Settled, Finalized, Raised}
use Rattle.model_rules.specs.Lists.{greatest_of}
use Rattle.model_rules.specs.Known.{view_of}
use Rattle.model_rules.specs.Repair.{RepairCall, Updated, Certified, Replayed, is_gap, is_final, is_failed, is_nullified, is_replayed_in, notarization_held, nullification_held, finalization_held, final_view, repair_floor, top_of, gaps_of, settled_by, finalized_by, raised_by, fetched_by, effects_of}
use Rattle.simplex_repair.specs.Gaps.{gaps_between, asked_to}
use Rattle.simplex_repair.proofs.Ranges.{filter_alike, filter_twice, none_left}
use Rattle.simplex_repair.proofs.Held.{before_replay}
use Rattle.simplex_repair.proofs.Fresh.{spanned, notarization_span, nullification_span, finalization_span, good_span, failed_span}

-- the effect, where the condition holds
abbrev pub where_holds : Bool → Effect → List Effect
where_holds holds effect = if holds then effect ∷ [] else []

pub notarization_effects : (length : ℕ) (calls : List RepairCall) (n : Notarization)
    → effects_of length calls (Updated (certificates.Notarization n))
    ≡ where_holds (is_none (notarization_held calls (view_of n.proposal))) (Settled kinds.Notarization (view_of n.proposal) (view_of n.proposal))
    ++ map Fetch (gaps_between length (Updated (certificates.Notarization n) ∷ calls) (asked_to length calls (min (top_of length calls) (view_of n.proposal))) (view_of n.proposal))
unfolding effects_of settled_by finalized_by raised_by repair_floor final_view finalization_held greatest_of
notarization_effects length calls n = grind (arith, common_steps, spanned length calls _ _ _ (notarization_span length calls n))

pub nullification_effects : (length : ℕ) (calls : List RepairCall) (n : Nullification)
    → effects_of length calls (Updated (certificates.Nullification n))
    ≡ where_holds (is_none (nullification_held calls n.round.view)) (Settled kinds.Nullification n.round.view (term_end length n.round.view))
    ++ map Fetch (gaps_between length (Updated (certificates.Nullification n) ∷ calls) (asked_to length calls (min (top_of length calls) (next_term_start length n.round.view))) (next_term_start length n.round.view))
unfolding effects_of settled_by finalized_by raised_by repair_floor final_view finalization_held greatest_of
nullification_effects length calls n = grind (arith, common_steps, spanned length calls _ _ _ (nullification_span length calls n))

pub failed_effects : (length : ℕ) (calls : List RepairCall) (n : Notarization)
    → effects_of length calls (Certified n false)
    ≡ where_holds (is_none (notarization_held calls (view_of n.proposal)) || not (is_failed calls (view_of n.proposal))) (Settled kinds.Notarization (view_of n.proposal) (view_of n.proposal))
    ++ map Fetch (gaps_between length (Certified n false ∷ calls) (asked_to length calls (min (top_of length calls) (view_of n.proposal))) (view_of n.proposal))
unfolding effects_of settled_by finalized_by raised_by repair_floor final_view finalization_held greatest_of
failed_effects length calls n = grind (arith, common_steps, spanned length calls _ _ _ (failed_span length calls n))

pub finalization_effects : (length : ℕ) (calls : List RepairCall) (f : Finalization) → top_of length calls < 2 ^ 64
    → effects_of length calls (Updated (certificates.Finalization f))
    ≡ (where_holds (not (is_final calls (view_of f.proposal))) (Finalized (view_of f.proposal))
    ++ where_holds (nat_lt (repair_floor calls) (repair_floor (Updated (certificates.Finalization f) ∷ calls))) (Raised (repair_floor (Updated (certificates.Finalization f) ∷ calls))))
    ++ map Fetch (gaps_between length (Updated (certificates.Finalization f) ∷ calls) (asked_to length calls (next_of (max (repair_floor calls) (view_of f.proposal)))) (next_of (max (repair_floor calls) (view_of f.proposal))))
unfolding effects_of settled_by finalized_by raised_by
finalization_effects length calls f fits = grind (arith, common_steps, spanned length calls _ _ _ (finalization_span length calls f fits))

pub good_effects : (length : ℕ) (calls : List RepairCall) (n : Notarization) → top_of length calls < 2 ^ 64
    → effects_of length calls (Certified n true)
    ≡ (where_holds (is_none (notarization_held calls (view_of n.proposal))) (Settled kinds.Notarization (view_of n.proposal) (view_of n.proposal))
    ++ where_holds (nat_lt (repair_floor calls) (repair_floor (Certified n true ∷ calls))) (Raised (repair_floor (Certified n true ∷ calls))))
    ++ map Fetch (gaps_between length (Certified n true ∷ calls) (asked_to length calls (next_of (max (repair_floor calls) (view_of n.proposal)))) (next_of (max (repair_floor calls) (view_of n.proposal))))
unfolding effects_of settled_by finalized_by raised_by
good_effects length calls n fits = grind (arith, common_steps, spanned length calls _ _ _ (good_span length calls n fits))

-- the first replay asks for each gap
replay_first : (length : ℕ) (calls : List RepairCall) → list_any is_replayed_in calls ≡ false
    → fetched_by length calls Replayed ≡ map Fetch (gaps_between length (Replayed ∷ calls) (repair_floor (Replayed ∷ calls)) (top_of length (Replayed ∷ calls)))
unfolding fetched_by gaps_of gaps_between
replay_first length calls r =
    ap (map Fetch)
    (filter_twice (λ u. not (is_gap length calls u)) (is_gap length (Replayed ∷ calls)) (range_with_len (repair_floor (Replayed ∷ calls) + 1) (top_of length (Replayed ∷ calls) - repair_floor (Replayed ∷ calls)))
    ∙ filter_alike (λ u. is_gap length (Replayed ∷ calls) u && not (is_gap length calls u)) (is_gap length (Replayed ∷ calls))
    (repair_floor (Replayed ∷ calls) + 1) (top_of length (Replayed ∷ calls) - repair_floor (Replayed ∷ calls))
    (λ u l h. grind (arith, common_steps, before_replay length calls u r)))

same_gaps : (length : ℕ) (calls : List RepairCall) (u : ℕ) → list_any is_replayed_in calls ≡ true → is_gap length (Replayed ∷ calls) u ≡ is_gap length calls u
unfolding is_gap top_of greatest_of repair_floor final_view finalization_held is_failed is_nullified
same_gaps length calls u r = grind (arith, common_steps, r)

-- a later one asks for none
replay_again : (length : ℕ) (calls : List RepairCall) → list_any is_replayed_in calls ≡ true → fetched_by length calls Replayed ≡ []
unfolding fetched_by gaps_of
replay_again length calls r =
    ap (map Fetch)
    (filter_twice (λ u. not (is_gap length calls u)) (is_gap length (Replayed ∷ calls)) (range_with_len (repair_floor (Replayed ∷ calls) + 1) (top_of length (Replayed ∷ calls) - repair_floor (Replayed ∷ calls)))
    ∙ none_left (λ u. is_gap length (Replayed ∷ calls) u && not (is_gap length calls u))
    (repair_floor (Replayed ∷ calls) + 1) (top_of length (Replayed ∷ calls) - repair_floor (Replayed ∷ calls))
    (λ u l h. grind (arith, common_steps, same_gaps length calls u r)))

pub replay_effects : (length : ℕ) (calls : List RepairCall) → list_any is_replayed_in calls ≡ false
    → effects_of length calls Replayed ≡ map Fetch (gaps_between length (Replayed ∷ calls) (repair_floor (Replayed ∷ calls)) (top_of length (Replayed ∷ calls)))
unfolding effects_of settled_by finalized_by raised_by repair_floor final_view finalization_held greatest_of
replay_effects length calls r = grind (arith, common_steps, replay_first length calls r)

pub replay_again_effects : (length : ℕ) (calls : List RepairCall) → list_any is_replayed_in calls ≡ true → effects_of length calls Replayed ≡ []
unfolding effects_of settled_by finalized_by raised_by repair_floor final_view finalization_held greatest_of
replay_again_effects length calls r = grind (arith, common_steps, replay_again length calls r)
