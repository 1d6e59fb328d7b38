-- What ends an ask for a gap: a verdict or an effect of a call that leaves no gap at the view.
use Rattle.std.proofs.Common.{◌≡◌, ◌∙◌, ◌<◌, ◌≤◌, ◌+◌, ◌-◌, ◌*◌, ◌/◌, ◌==◌, ◌&&◌, ◌||◌, ◌⊎◌, inl, inr, nat_lt, nat_le, max, ℕ, zero, suc, not, Bool, true, false, List, [], ◌∷◌, ◌++◌, length, filter, map, Option, Some, None, if◌then◌else◌, refl, sym, ap, arith}
use Rattle.std.proofs.lemmas.Grind.{common_steps}
use Rattle.std.proofs.lemmas.Bool.{and_from, eqb-true}
use Rattle.std.proofs.lemmas.Bool.Decides.{nat_tests}
use Rattle.std.proofs.lemmas.List.Elements.{filter_map-append}
use Rattle.std.proofs.lemmas.List.Folds.{list_all-append}
use Rattle.std.proofs.lemmas.List.Sums.{length-filter, count_by-le-length}
use Rattle.std.proofs.Math.Nat.{div-lt_iff_lt-mul}
use Rattle.std.specs.List.{list_all, filter_map}
use Rattle.std.specs.Option.{option_map_or, is_none}
use Rattle.simplex_values.specs.declared.ask.Ask.{Ask}
use Rattle.simplex_values.specs.declared.ask.Kind.{Kind}
use Rattle.simplex_values.specs.declared.ask.Kind.TheVariants as kinds
use Rattle.simplex_values.specs.Terms.{term_end, term_index}
use Rattle.simplex_values.specs.Covers.{covers}
use Rattle.simplex_wire.specs.declared.certificate.Finalization.{Finalization}
use Rattle.simplex_wire.specs.declared.certificate.Nullification.{Nullification}
use Rattle.simplex_wire.specs.declared.certificate.Certificate.TheVariants as certificates
use Rattle.model_rules.specs.declared.effect.Effect.{Effect}
use Rattle.model_rules.specs.declared.effect.Effect.TheVariants as effects
use Rattle.model_rules.specs.Lists.{greatest_of}
use Rattle.model_rules.specs.Known.{view_of}
use Rattle.model_rules.specs.Repair.{RepairCall, Updated, Certified, Replayed, good_view, is_gap, gaps_of, is_final, is_nullified, is_settled, is_key_settled, final_view, finalization_held, repair_floor, nullification_held, settled_by, finalized_by, raised_by, fetched_by, effects_of}
use Rattle.simplex_repair.proofs.Fresh.{gap_above}
use Rattle.simplex_repair.proofs.Terms.{term_rises}
use Rattle.model_resolver.specs.declared.retire.Retire.{Retire}
use Rattle.model_resolver.specs.declared.retire.Retire.TheVariants as retires
use Rattle.model_resolver.specs.Asks.{holds_ask, same_ask, same_kind}
use Rattle.model_resolver.specs.Retirement.{reaches}
use Rattle.model_resolver.specs.Fetcher.{is_done}
use Rattle.model_resolver.specs.Resolver.{backfill, retire_of, settled_count, verdict_of}
use Rattle.simplex_resolver.proofs.Numbers.{spares}

-- ---- a view whose nullification is settled is no gap

gap-open : (term : ℕ) (held : List RepairCall) (view : ℕ) → is_gap term held view ≡ true → is_nullified term held view ≡ false
unfolding is_gap
gap-open term held view gap = grind (arith, common_steps, gap)

final-low : (held : List RepairCall) (view : ℕ) → is_final held view ≡ true → view ≤ repair_floor held
unfolding is_final repair_floor final_view
final-low held view final =
    elim (finalization_held held) as (λ (o : Option Finalization). option_map_or (λ f. nat_le view (view_of f.proposal)) o false ≡ true → view ≤ max (option_map_or (λ f. view_of f.proposal) o 0) (greatest_of good_view held)) [
      | None ↦ λ final. cc
      | Some f ↦ λ final. grind (arith, common_steps, final)
    ] final

pub gap-unsettled : (term : ℕ) (held : List RepairCall) (view : ℕ) → is_gap term held view ≡ true → is_settled term held view kinds.Nullification ≡ false
unfolding is_settled
gap-unsettled term held view gap =
    elim (is_final held view) as (λ b. is_final held view ≡ b → (b || is_nullified term held view) ≡ false) [
      | true ↦ λ final. let low = final-low held view final in let above = gap_above term held view gap in absurd (omega arith)
      | false ↦ λ open_on. gap-open term held view gap
    ] refl

pub gap-key : (term : ℕ) (held : List RepairCall) (view : ℕ) → is_gap term held view ≡ true → is_key_settled term held view ≡ false
unfolding is_key_settled
gap-key term held view gap = grind (arith, common_steps, gap-unsettled term held view gap)

-- ---- a verdict that is done with

-- where as many pass as there are, each passes
all-pass : (p : Ask → Bool) → ((ask : Ask) → same_ask (backfill 0).ask ask ≡ true → p ask ≡ p (backfill 0).ask)
    → (asks : List Ask) → length (filter p asks) ≡ length asks → holds_ask asks (backfill 0).ask ≡ true → p (backfill 0).ask ≡ true
all-pass p same [] all held = cc
all-pass p same (ask ∷ asks) all held =
    let fewer : length (filter p asks) ≤ length asks = omega (arith, length-filter p asks, count_by-le-length p asks) in
    elim (p ask) as (λ b. p ask ≡ b → p (backfill 0).ask ≡ true) [
      | true ↦ λ yes. elim (same_ask (backfill 0).ask ask) as (λ b. same_ask (backfill 0).ask ask ≡ b → p (backfill 0).ask ≡ true) [
        | true ↦ λ is. sym (same ask is) ∙ yes
        | false ↦ λ other.
            let rest : length (filter p asks) ≡ length asks = grind (arith, common_steps, all, yes) in
            let later : holds_ask asks (backfill 0).ask ≡ true = grind (arith, common_steps, held, other) in
            all-pass p same asks rest later
      ] refl
      | false ↦ λ no. let short : length (filter p asks) ≡ length asks + 1 = grind (arith, common_steps, all, no) in absurd (omega arith)
    ] refl

kind-is : (ask : Ask) → same_ask (backfill 0).ask ask ≡ true → ask.kind ≡ kinds.Nullification
kind-is ask same = alike ask.kind (grind (arith, common_steps, same))
  where
    alike : (kind : Kind) → same_kind kinds.Nullification kind ≡ true → kind ≡ kinds.Nullification
    alike kinds.Nullification same = refl
    alike kinds.Notarization same = cc

none-left : (term : ℕ) (held : List RepairCall) (view : ℕ) (asks : List Ask) → is_gap term held view ≡ true → settled_count term held view asks ≡ length asks
    → holds_ask asks (backfill 0).ask ≡ false
unfolding settled_count
none-left term held view asks gap all =
    elim (holds_ask asks (backfill 0).ask) as (λ b. holds_ask asks (backfill 0).ask ≡ b → b ≡ false) [
      | true ↦ λ has.
          let settled : is_settled term held view kinds.Nullification ≡ true =
          all-pass (λ ask. is_settled term held view ask.kind) (λ ask is. ap (is_settled term held view) (kind-is ask is)) asks all has in
          let left = gap-unsettled term held view gap in cc
      | false ↦ λ none. refl
    ] refl

never-done : (all before after : ℕ) → (before == all) ≡ false → (after == all) ≡ false → is_done (verdict_of all before after) ≡ true → ⊥
unfolding verdict_of
never-done all before after some other done = grind (arith, common_steps, nat_tests, done, some, other)

done-settles : (all before after : ℕ) → is_done (verdict_of all before after) ≡ true → (before ≡ all) ⊎ (after ≡ all)
unfolding verdict_of
done-settles all before after done =
    elim (before == all) as (λ b. (before == all) ≡ b → (before ≡ all) ⊎ (after ≡ all)) [
      | true ↦ λ yes. inl (eqb-true before all yes)
      | false ↦ λ some. elim (after == all) as (λ b. (after == all) ≡ b → (before ≡ all) ⊎ (after ≡ all)) [
        | true ↦ λ yes. inr (eqb-true after all yes)
        | false ↦ λ other. absurd (never-done all before after some other done)
      ] refl
    ] refl

-- a verdict by what was settled before and is settled after: where it is done with, a view that is a gap throughout was not asked for
pub verdict-spares : (term : ℕ) (before after : List RepairCall) (view : ℕ) (asks : List Ask) → is_gap term before view ≡ true → is_gap term after view ≡ true
    → is_done (verdict_of (length asks) (settled_count term before view asks) (settled_count term after view asks)) ≡ true → holds_ask asks (backfill 0).ask ≡ false
verdict-spares term before after view asks was is done =
    elim (done-settles (length asks) (settled_count term before view asks) (settled_count term after view asks) done) [
      | inl all ↦ none-left term before view asks was all
      | inr all ↦ none-left term after view asks is all
    ]

-- ---- an effect that retires

-- up to a term's end each later view is of the term
in-term : (term a view : ℕ) → 0 < term → view ≤ term_index term a * term → term_index term view < term_index term a + 1
unfolding term_index
in-term term a view some le = (div-lt_iff_lt-mul {k = term} {x = view + (term - 1)} {y = (a + (term - 1)) / term + 1} some).1 (grind (arith, le, some))

covers-within : (term a view : ℕ) → a ≤ view → view ≤ term_end term a → covers term a view ≡ true
unfolding covers term_end term_index
covers-within zero a view le within = let none : view ≡ 0 = omega arith in let first : a ≡ 0 = omega arith in rw (none, first) refl
covers-within (suc term) a view le within =
    let up = term_rises (suc term) a view (omega arith) le in
    let low : view ≤ term_index (suc term) a * (suc term) = omega arith in
    let down = in-term (suc term) a view (omega arith) low in
    grind (arith, common_steps, nat_tests, up, down, le)

-- none of the retirements among these effects ends the ask for a gap of the view
abbrev SparesAll : ℕ → List Effect → Type 0
SparesAll view follows = list_all (λ retire. spares retire view) (filter_map retire_of follows) ≡ true

spared-append : (view : ℕ) (one other : List Effect) → SparesAll view one → SparesAll view other → SparesAll view (one ++ other)
spared-append view one other p q =
    let joined = filter_map-append retire_of one other in
    let both = list_all-append (λ retire. spares retire view) (filter_map retire_of one) (filter_map retire_of other) in
    ap (list_all (λ retire. spares retire view)) joined ∙ both ∙ and_from _ _ p q

spared-if : (view : ℕ) (test : Bool) (it : Effect) (retire : Retire) → retire_of it ≡ Some retire → (test ≡ true → spares retire view ≡ true) → SparesAll view (if test then it ∷ [] else [])
spared-if view true it retire is spared = let here = spared refl in grind (arith, common_steps, is, here)
spared-if view false it retire is spared = refl

spared-unless : (view : ℕ) (test : Bool) (it : Effect) (retire : Retire) → retire_of it ≡ Some retire → (test ≡ false → spares retire view ≡ true) → SparesAll view (if test then [] else it ∷ [])
spared-unless view true it retire is spared = refl
spared-unless view false it retire is spared = let here = spared refl in grind (arith, common_steps, is, here)

fetches-spare : (view : ℕ) (gaps : List ℕ) → SparesAll view (map effects.Fetch gaps)
fetches-spare view [] = refl
fetches-spare view (gap ∷ gaps) = fetches-spare view gaps

past-spares : (view start end : ℕ) (retire : Retire) → ((nat_le start view && nat_le view end) ≡ false) → reaches retire view ≡ (nat_le start view && nat_le view end) → spares retire view ≡ true
past-spares view start end retire past is = grind (arith, common_steps, past, is)

below-spares : (view bound : ℕ) (retire : Retire) → bound < view → reaches retire view ≡ nat_le view bound → spares retire view ≡ true
below-spares view bound retire below is = grind (arith, common_steps, nat_tests, below, is)

other-kind : (start end view : ℕ) → spares (retires.Settled kinds.Notarization start end) view ≡ true
other-kind start end view = grind (arith, common_steps)

uncovered : (term : ℕ) (held : List RepairCall) (n : Nullification) (view : ℕ) → is_gap term (Updated (certificates.Nullification n) ∷ held) view ≡ true
    → (nat_le n.round.view view && nat_le view (term_end term n.round.view)) ≡ false
unfolding is_nullified
uncovered term held n view gap =
    let left = gap-open term (Updated (certificates.Nullification n) ∷ held) view gap in
    let covered = covers-within term n.round.view view in
    grind (arith, common_steps, nat_tests, left, covered)

settled-spares : (term : ℕ) (held : List RepairCall) (call : RepairCall) (view : ℕ) → is_gap term (call ∷ held) view ≡ true → SparesAll view (settled_by term held call)
unfolding settled_by
settled-spares term held (Updated (certificates.Nullification n)) view gap =
    spared-if view (is_none (nullification_held held n.round.view)) _ (retires.Settled kinds.Nullification n.round.view (term_end term n.round.view)) refl
    (λ new. past-spares view n.round.view (term_end term n.round.view) (retires.Settled kinds.Nullification n.round.view (term_end term n.round.view)) (uncovered term held n view gap) refl)
settled-spares term held (Updated (certificates.Notarization n)) view gap =
    spared-if view _ _ (retires.Settled kinds.Notarization (view_of n.proposal) (view_of n.proposal)) refl (λ new. other-kind (view_of n.proposal) (view_of n.proposal) view)
settled-spares term held (Updated (certificates.Finalization f)) view gap = refl
settled-spares term held (Certified n good) view gap =
    spared-if view _ _ (retires.Settled kinds.Notarization (view_of n.proposal) (view_of n.proposal)) refl (λ new. other-kind (view_of n.proposal) (view_of n.proposal) view)
settled-spares term held Replayed view gap = refl

new-final : (held : List RepairCall) (f : Finalization) → is_final held (view_of f.proposal) ≡ false → view_of f.proposal ≤ repair_floor (Updated (certificates.Finalization f) ∷ held)
unfolding is_final repair_floor final_view finalization_held greatest_of
new-final held f new =
    elim (finalization_held held) as (λ (o : Option Finalization). option_map_or (λ h. nat_le (view_of f.proposal) (view_of h.proposal)) o false ≡ false
    → view_of f.proposal ≤ max (option_map_or (λ g. view_of g.proposal) (if option_map_or (λ h. nat_lt (view_of h.proposal) (view_of f.proposal)) o true then Some f else o) 0) (greatest_of good_view (Updated (certificates.Finalization f) ∷ held))) [
      | None ↦ λ new. omega arith
      | Some h ↦ λ new. grind (arith, common_steps, nat_tests, new)
    ] new

finalized-spares : (term : ℕ) (held : List RepairCall) (call : RepairCall) (view : ℕ) → is_gap term (call ∷ held) view ≡ true → SparesAll view (finalized_by held call)
unfolding finalized_by
finalized-spares term held (Updated (certificates.Finalization f)) view gap =
    spared-unless view (is_final held (view_of f.proposal)) _ (retires.Finalized (view_of f.proposal)) refl
    (λ new. let low = new-final held f new in let above = gap_above term (Updated (certificates.Finalization f) ∷ held) view gap in
    below-spares view (view_of f.proposal) (retires.Finalized (view_of f.proposal)) (omega arith) refl)
finalized-spares term held (Updated (certificates.Notarization n)) view gap = refl
finalized-spares term held (Updated (certificates.Nullification n)) view gap = refl
finalized-spares term held (Certified n good) view gap = refl
finalized-spares term held Replayed view gap = refl

raised-spares : (term : ℕ) (held : List RepairCall) (call : RepairCall) (view : ℕ) → is_gap term (call ∷ held) view ≡ true → SparesAll view (raised_by held call)
unfolding raised_by
raised-spares term held call view gap =
    spared-if view _ _ (retires.Floor (repair_floor (call ∷ held))) refl
    (λ raised. below-spares view (repair_floor (call ∷ held)) (retires.Floor (repair_floor (call ∷ held))) (gap_above term (call ∷ held) view gap) refl)

pub effects-spare : (term : ℕ) (held : List RepairCall) (call : RepairCall) (view : ℕ) → is_gap term (call ∷ held) view ≡ true → SparesAll view (effects_of term held call)
unfolding effects_of fetched_by
effects-spare term held call view gap =
    let one = spared-append view (settled_by term held call) (finalized_by held call) (settled-spares term held call view gap) (finalized-spares term held call view gap) in
    let two = spared-append view (settled_by term held call ++ finalized_by held call) (raised_by held call) one (raised-spares term held call view gap) in
    spared-append view (settled_by term held call ++ finalized_by held call ++ raised_by held call) (map effects.Fetch (filter (λ view. not (is_gap term held view)) (gaps_of term (call ∷ held))))
    two (fetches-spare view (filter (λ view. not (is_gap term held view)) (gaps_of term (call ∷ held))))
