-- What is to be fetched behind a call of a repair state: the new gaps, of which none is settled.
use Rattle.std.proofs.Common.{◌≡◌, ◌∙◌, ◌+◌, ◌-◌, ◌==◌, ℕ, not, Bool, true, false, List, [], ◌∷◌, ◌++◌, filter, map, if◌then◌else◌, refl, arith, All}
use Rattle.std.proofs.lemmas.Grind.{common_steps}
use Rattle.std.proofs.lemmas.Bool.{eqb-true}
use Rattle.std.proofs.lemmas.Bool.Decides.{nat_tests}
use Rattle.std.proofs.lemmas.List.Elements.{All-nil, All-cons, All-append, All-contains, Contains-append_left, Contains-append_right, Contains-push}
use Rattle.std.proofs.lemmas.Map.Views.{any-filter_same}
use Rattle.std.specs.List.{list_any, range_with_len, Contains}
use Rattle.simplex_values.specs.declared.ask.Kind.TheVariants as kinds
use Rattle.simplex_wire.specs.declared.certificate.Certificate.TheVariants as certificates
use Rattle.model_rules.specs.declared.effect.Effect.{Effect}
use Rattle.model_rules.specs.declared.effect.Effect.TheVariants as effects
use Rattle.model_rules.specs.Repair.{RepairCall, Updated, Certified, Replayed, is_gap, gaps_of, is_nullified, is_settled, top_of, repair_floor, settled_by, finalized_by, raised_by, fetched_by, effects_of}
use Rattle.simplex_repair.proofs.Fresh.{gap_above}
use Rattle.simplex_repair.proofs.Held.{above_floor}
use Rattle.simplex_repair.proofs.Lacking.{gaps_listed}

-- ---- a gap is not settled

gap_open : (term : ℕ) (held : List RepairCall) (view : ℕ) → is_gap term held view ≡ true → is_nullified term held view ≡ false
unfolding is_gap
gap_open term held view gap = grind (arith, common_steps, gap)

pub gap_unsettled : (term : ℕ) (held : List RepairCall) (view : ℕ) → is_gap term held view ≡ true → is_settled term held view kinds.Nullification ≡ false
unfolding is_settled
gap_unsettled term held view gap =
    let open_at = gap_open term held view gap in
    let late = above_floor held view (gap_above term held view gap) in
    rw (late, open_at) refl

-- ---- what is to be fetched

-- the effect is no fetch, or of a view that is a gap now and was none
abbrev pub FetchesGap : ℕ → List RepairCall → RepairCall → Effect → Type 0
FetchesGap term held call (effects.Fetch view) = (is_gap term (call ∷ held) view ≡ true) × (is_gap term held view ≡ false)
FetchesGap term held call _ = Unit {0}

if_all : (P : Effect → Type 0) (test : Bool) (it : Effect) → P it → All P (if test then it ∷ [] else [])
if_all P true it p = All-cons P it [] p (All-nil P)
if_all P false it p = All-nil P

unless_all : (P : Effect → Type 0) (test : Bool) (it : Effect) → P it → All P (if test then [] else it ∷ [])
unless_all P true it p = All-nil P
unless_all P false it p = All-cons P it [] p (All-nil P)

settled_none : (term : ℕ) (held : List RepairCall) (call of : RepairCall) → All (FetchesGap term held call) (settled_by term held of)
unfolding settled_by
settled_none term held call (Updated (certificates.Nullification n)) = if_all (FetchesGap term held call) _ _ tt
settled_none term held call (Updated (certificates.Notarization n)) = if_all (FetchesGap term held call) _ _ tt
settled_none term held call (Updated (certificates.Finalization f)) = All-nil (FetchesGap term held call)
settled_none term held call (Certified n good) = if_all (FetchesGap term held call) _ _ tt
settled_none term held call Replayed = All-nil (FetchesGap term held call)

finalized_none : (term : ℕ) (held : List RepairCall) (call of : RepairCall) → All (FetchesGap term held call) (finalized_by held of)
unfolding finalized_by
finalized_none term held call (Updated (certificates.Finalization f)) = unless_all (FetchesGap term held call) _ _ tt
finalized_none term held call (Updated (certificates.Notarization n)) = All-nil (FetchesGap term held call)
finalized_none term held call (Updated (certificates.Nullification n)) = All-nil (FetchesGap term held call)
finalized_none term held call (Certified n good) = All-nil (FetchesGap term held call)
finalized_none term held call Replayed = All-nil (FetchesGap term held call)

raised_none : (term : ℕ) (held : List RepairCall) (call : RepairCall) → All (FetchesGap term held call) (raised_by held call)
unfolding raised_by
raised_none term held call = if_all (FetchesGap term held call) _ _ tt

gaps_fetched : (term : ℕ) (held : List RepairCall) (call : RepairCall) (views : List ℕ)
    → All (FetchesGap term held call) (map effects.Fetch (filter (λ view. not (is_gap term held view)) (filter (is_gap term (call ∷ held)) views)))
gaps_fetched term held call [] = All-nil (FetchesGap term held call)
gaps_fetched term held call (view ∷ views) =
    let P = FetchesGap term held call in
    let rest = gaps_fetched term held call views in
    elim (is_gap term (call ∷ held) view) as (λ b. is_gap term (call ∷ held) view ≡ b
    → All P (map effects.Fetch (filter (λ view. not (is_gap term held view)) (if b then view ∷ filter (is_gap term (call ∷ held)) views else filter (is_gap term (call ∷ held)) views)))) [
      | true ↦ λ is. elim (is_gap term held view) as (λ b. is_gap term held view ≡ b
          → All P (map effects.Fetch (if not b then view ∷ filter (λ view. not (is_gap term held view)) (filter (is_gap term (call ∷ held)) views) else filter (λ view. not (is_gap term held view)) (filter (is_gap term (call ∷ held)) views)))) [
            | true ↦ λ was. rest
            | false ↦ λ new. All-cons P (effects.Fetch view) _ (is, new) rest
          ] refl
      | false ↦ λ none. rest
    ] refl

pub effects_fetch_gaps : (term : ℕ) (held : List RepairCall) (call : RepairCall) → All (FetchesGap term held call) (effects_of term held call)
unfolding effects_of fetched_by gaps_of
effects_fetch_gaps term held call =
    let P = FetchesGap term held call in
    All-append P (settled_by term held call ++ finalized_by held call ++ raised_by held call) _
    (All-append P (settled_by term held call ++ finalized_by held call) (raised_by held call)
    (All-append P (settled_by term held call) (finalized_by held call) (settled_none term held call call) (finalized_none term held call call))
    (raised_none term held call))
    (gaps_fetched term held call (range_with_len (repair_floor (call ∷ held) + 1) (top_of term (call ∷ held) - repair_floor (call ∷ held))))

pub fetch_is_new_gap : (term : ℕ) (held : List RepairCall) (call : RepairCall) (view : ℕ) → Contains (effects_of term held call) (effects.Fetch view)
    → (is_gap term (call ∷ held) view ≡ true) × (is_gap term held view ≡ false)
fetch_is_new_gap term held call view has = All-contains (FetchesGap term held call) (effects_of term held call) (effects.Fetch view) (effects_fetch_gaps term held call) has

-- and each gap that was none before is fetched
listed_fetched : (views : List ℕ) (view : ℕ) → list_any (λ v. v == view) views ≡ true → Contains (map effects.Fetch views) (effects.Fetch view)
listed_fetched [] view listed = cc
listed_fetched (v ∷ views) view listed =
    elim (v == view) as (λ b. (v == view) ≡ b → Contains (effects.Fetch v ∷ map effects.Fetch views) (effects.Fetch view)) [
      | true ↦ λ same. rw (eqb-true v view same) (Contains-append_left (effects.Fetch view ∷ []) (map effects.Fetch views) (effects.Fetch view) (Contains-push [] (effects.Fetch view)))
      | false ↦ λ apart.
          let later : list_any (λ v. v == view) views ≡ true = grind (arith, common_steps, apart, listed) in
          Contains-append_right (effects.Fetch v ∷ []) (map effects.Fetch views) (effects.Fetch view) (listed_fetched views view later)
    ] refl

pub new_gap_fetched : (term : ℕ) (held : List RepairCall) (call : RepairCall) (view : ℕ) → (is_gap term (call ∷ held) view ≡ true) × (is_gap term held view ≡ false)
    → Contains (effects_of term held call) (effects.Fetch view)
unfolding effects_of fetched_by
new_gap_fetched term held call view new =
    let was : is_gap term held view ≡ false = new.1 in
    Contains-append_right (settled_by term held call ++ finalized_by held call ++ raised_by held call) _ (effects.Fetch view)
    (listed_fetched (filter (λ v. not (is_gap term held v)) (gaps_of term (call ∷ held))) view
    (any-filter_same (λ v. v == view) (λ v. not (is_gap term held v)) true (λ v same. grind (arith, common_steps, nat_tests, same, was)) (gaps_of term (call ∷ held))
    ∙ gaps_listed term (call ∷ held) view ∙ new.0))
