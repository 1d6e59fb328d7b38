-- What a call of a repair state leaves unsettled: an ask that none of its effects ends.
use Rattle.std.proofs.Common.{◌≡◌, ◌∙◌, ◌<◌, ◌≤◌, ◌*◌, ◌==◌, ◌&&◌, ◌||◌, nat_lt, nat_le, ℕ, not, Bool, true, false, List, [], ◌∷◌, ◌++◌, Option, Some, None, if◌then◌else◌, refl, sym, ap, arith}
use Rattle.std.proofs.lemmas.Grind.{common_steps}
use Rattle.std.proofs.lemmas.Bool.{eqb-true}
use Rattle.std.proofs.lemmas.Bool.Decides.{nat_tests}
use Rattle.std.proofs.lemmas.List.Elements.{filter_map-append}
use Rattle.std.proofs.lemmas.List.Folds.{list_all-append}
use Rattle.std.specs.List.{list_all, list_any, filter_map}
use Rattle.std.specs.Option.{option_map_or, is_none, is_some}
use Rattle.simplex_values.specs.declared.ask.Ask.{Ask}
use Rattle.simplex_values.specs.declared.ask.Kind.{Kind}
use Rattle.simplex_values.specs.declared.ask.Kind.TheVariants as kinds
use Rattle.simplex_values.specs.declared.ask.Until.{Until}
use Rattle.simplex_values.specs.declared.ask.Until.TheVariants as untils
use Rattle.simplex_values.specs.Terms.{greatest_view, term_end, term_index}
use Rattle.simplex_values.specs.Covers.{covers}
use Rattle.simplex_wire.specs.declared.certificate.Finalization.{Finalization}
use Rattle.simplex_wire.specs.declared.certificate.Notarization.{Notarization}
use Rattle.simplex_wire.specs.declared.certificate.Nullification.{Nullification}
use Rattle.simplex_wire.specs.declared.certificate.Certificate.TheVariants as certificates
use Rattle.model_rules.specs.declared.effect.Effect.{Effect}
use Rattle.model_rules.specs.declared.effect.Effect.TheVariants as effects
use Rattle.model_rules.specs.Lists.{greatest_of, first_of}
use Rattle.model_rules.specs.Known.{view_of}
use Rattle.model_rules.specs.Repair.{RepairCall, Updated, Certified, Replayed, is_gap, is_final, is_failed, is_nullified, is_settled, is_replayed_in, is_first_above, top_of, final_view, finalization_held, notarization_held, repair_floor, nullification_held, settled_by, finalized_by, raised_by, fetched_by, effects_of}
use Rattle.simplex_repair.proofs.Fresh.{gap_above}
use Rattle.model_resolver.specs.declared.retire.Retire.{Retire}
use Rattle.model_resolver.specs.declared.retire.Retire.TheVariants as retires
use Rattle.model_resolver.specs.Retirement.{reaches, retires as ends}
use Rattle.model_resolver.specs.Resolver.{retire_of}

-- whether the ask for the view goes on
abbrev pub spares : ℕ → Ask → Retire → Bool
spares view ask retire = not (reaches retire view && ends retire ask)

-- none of these effects ends it
abbrev pub Spared : ℕ → Ask → List Effect → Type 0
Spared view ask follows = list_all (spares view ask) (filter_map retire_of follows) ≡ true

spared-append : (view : ℕ) (ask : Ask) (one other : List Effect) → Spared view ask (one ++ other) → Spared view ask one × Spared view ask other
spared-append view ask one other spared =
    let joined = filter_map-append retire_of one other in
    let both = list_all-append (spares view ask) (filter_map retire_of one) (filter_map retire_of other) in
    let all : (list_all (spares view ask) (filter_map retire_of one) && list_all (spares view ask) (filter_map retire_of other)) ≡ true = sym both ∙ ap (list_all (spares view ask)) (sym joined) ∙ spared in
    (grind (arith, common_steps, all), grind (arith, common_steps, all))

-- where the test passes the effect is there
spared-if : (view : ℕ) (ask : Ask) (test : Bool) (it : Effect) (retire : Retire) → retire_of it ≡ Some retire → Spared view ask (if test then it ∷ [] else [])
    → test ≡ true → spares view ask retire ≡ true
spared-if view ask true it retire is spared passed = grind (arith, common_steps, is, spared)
spared-if view ask false it retire is spared passed = cc

spared-unless : (view : ℕ) (ask : Ask) (test : Bool) (it : Effect) (retire : Retire) → retire_of it ≡ Some retire → Spared view ask (if test then [] else it ∷ [])
    → test ≡ false → spares view ask retire ≡ true
spared-unless view ask true it retire is spared failed = cc
spared-unless view ask false it retire is spared failed = grind (arith, common_steps, is, spared)

-- ---- nullifications

-- a view's term does not end before the view
index-high : (term q : ℕ) → 0 < term → q ≤ term_index term q * term
unfolding term_index
index-high term q some = grind (arith, some)

covered-low : (term a q : ℕ) → 0 < term → q ≤ greatest_view → covers term a q ≡ true → (nat_le a q && nat_le q (term_end term a)) ≡ true
unfolding covers term_end
covered-low term a q some small covered =
    let high = index-high term q some in
    let same : term_index term a ≡ term_index term q = grind (arith, common_steps, nat_tests, covered) in
    let above : q ≤ term_index term a * term = rw same high in
    grind (arith, common_steps, nat_tests, covered, above, small)

-- a nullification that is held covers what it covers
held-covers : (term : ℕ) (held : List RepairCall) (a q : ℕ) → is_some (nullification_held held a) ≡ true → covers term a q ≡ true → is_nullified term held q ≡ true
unfolding nullification_held is_nullified first_of
held-covers term [] a q has covered = cc
held-covers term (Updated (certificates.Nullification n) ∷ held) a q has covered = grind (arith, common_steps, nat_tests, has, covered, held-covers term held a q)
held-covers term (Updated (certificates.Notarization n) ∷ held) a q has covered = grind (arith, common_steps, nat_tests, has, covered, held-covers term held a q)
held-covers term (Updated (certificates.Finalization n) ∷ held) a q has covered = grind (arith, common_steps, nat_tests, has, covered, held-covers term held a q)
held-covers term (Certified n good ∷ held) a q has covered = grind (arith, common_steps, nat_tests, has, covered, held-covers term held a q)
held-covers term (Replayed ∷ held) a q has covered = grind (arith, common_steps, nat_tests, has, covered, held-covers term held a q)

kept-nullified : (term : ℕ) (held : List RepairCall) (n : Nullification) (q : ℕ) (until : Until) → 0 < term → q ≤ greatest_view → is_nullified term held q ≡ false
    → Spared q (record { kind = kinds.Nullification; until = until }) (settled_by term held (Updated (certificates.Nullification n))) → covers term n.round.view q ≡ false
unfolding settled_by
kept-nullified term held n q until some small open_at spared =
    elim (covers term n.round.view q) as (λ b. covers term n.round.view q ≡ b → b ≡ false) [
      | true ↦ λ covered.
          let within = covered-low term n.round.view q some small covered in
          elim (nullification_held held n.round.view) as (λ (o : Option Nullification). nullification_held held n.round.view ≡ o → true ≡ false) [
            | None ↦ λ none.
                let kept = spared-if q (record { kind = kinds.Nullification; until = until }) (is_none (nullification_held held n.round.view)) _
                (retires.Settled kinds.Nullification n.round.view (term_end term n.round.view)) refl spared (ap is_none none) in
                grind (arith, common_steps, kept, within)
            | Some m ↦ λ has. let no = held-covers term held n.round.view q (ap is_some has) covered in cc
          ] refl
      | false ↦ λ not_covered. refl
    ] refl

nullified-kept : (term : ℕ) (held : List RepairCall) (call : RepairCall) (q : ℕ) (until : Until) → 0 < term → q ≤ greatest_view → is_nullified term held q ≡ false
    → Spared q (record { kind = kinds.Nullification; until = until }) (settled_by term held call) → is_nullified term (call ∷ held) q ≡ false
unfolding is_nullified
nullified-kept term held (Updated (certificates.Nullification n)) q until some small open_at spared = grind (arith, common_steps, open_at, kept-nullified term held n q until some small open_at spared)
nullified-kept term held (Updated (certificates.Notarization n)) q until some small open_at spared = open_at
nullified-kept term held (Updated (certificates.Finalization f)) q until some small open_at spared = open_at
nullified-kept term held (Certified n good) q until some small open_at spared = open_at
nullified-kept term held Replayed q until some small open_at spared = open_at

-- ---- finalizations

ended-high : (q last : ℕ) (ask : Ask) → spares q ask (retires.Finalized last) ≡ true → nat_le q last ≡ false
ended-high q last ask spared = grind (arith, common_steps, spared)

final-kept : (held : List RepairCall) (call : RepairCall) (q : ℕ) (ask : Ask) → is_final held q ≡ false → Spared q ask (finalized_by held call) → is_final (call ∷ held) q ≡ false
unfolding is_final finalization_held finalized_by
final-kept held (Updated (certificates.Finalization f)) q ask open_at spared =
    let kept = λ (e : is_final held (view_of f.proposal) ≡ false). ended-high q (view_of f.proposal) ask
    (spared-unless q ask (is_final held (view_of f.proposal)) (effects.Finalized (view_of f.proposal)) (retires.Finalized (view_of f.proposal)) refl spared e) in
    elim (finalization_held held) as (λ (o : Option Finalization). option_map_or (λ h. nat_le q (view_of h.proposal)) o false ≡ false
    → (option_map_or (λ h. nat_le (view_of f.proposal) (view_of h.proposal)) o false ≡ false → nat_le q (view_of f.proposal) ≡ false)
    → option_map_or (λ g. nat_le q (view_of g.proposal)) (if option_map_or (λ h. nat_lt (view_of h.proposal) (view_of f.proposal)) o true then Some f else o) false ≡ false) [
      | None ↦ λ open_at kept. kept refl
      | Some h ↦ λ open_at kept. grind (arith, common_steps, nat_tests, open_at, kept)
    ] open_at kept
final-kept held (Updated (certificates.Notarization n)) q ask open_at spared = open_at
final-kept held (Updated (certificates.Nullification n)) q ask open_at spared = open_at
final-kept held (Certified n good) q ask open_at spared = open_at
final-kept held Replayed q ask open_at spared = open_at

-- ---- notarizations

-- no notarization of the view is held, and the view did not fail
abbrev Lacks : List RepairCall → ℕ → Type 0
Lacks held q = (is_some (notarization_held held q) ≡ false) × (is_failed held q ≡ false)

not-ended : (q : ℕ) (until : Until) → spares q (record { kind = kinds.Notarization; until = until }) (retires.Settled kinds.Notarization q q) ≡ true → true ≡ false
not-ended q until spared = grind (arith, common_steps, nat_tests, spared)

other-view : (view q : ℕ) (until : Until) (test : Bool) → (view ≡ q → test ≡ true)
    → Spared q (record { kind = kinds.Notarization; until = until }) (if test then effects.Settled kinds.Notarization view view ∷ [] else []) → (view == q) ≡ false
other-view view q until test there spared =
    elim (view == q) as (λ b. (view == q) ≡ b → b ≡ false) [
      | true ↦ λ same.
          let is : view ≡ q = eqb-true view q same in
          let kept = spared-if q (record { kind = kinds.Notarization; until = until }) test (effects.Settled kinds.Notarization view view) (retires.Settled kinds.Notarization view view) refl spared (there is) in
          not-ended q until (rw is at kept)
      | false ↦ λ apart. refl
    ] refl

none-some : (o : Option Notarization) → is_some o ≡ false → is_none o ≡ true
none-some None none = refl
none-some (Some n) none = cc

none-at : (held : List RepairCall) (view q : ℕ) → is_some (notarization_held held q) ≡ false → view ≡ q → is_none (notarization_held held view) ≡ true
none-at held view q none is = rw is (none-some (notarization_held held q) none)

lacks-kept : (term : ℕ) (held : List RepairCall) (call : RepairCall) (q : ℕ) (until : Until) → Lacks held q
    → Spared q (record { kind = kinds.Notarization; until = until }) (settled_by term held call) → Lacks (call ∷ held) q
unfolding settled_by notarization_held first_of is_failed
lacks-kept term held (Updated (certificates.Notarization n)) q until lacks spared =
    let apart = other-view (view_of n.proposal) q until (is_none (notarization_held held (view_of n.proposal))) (none-at held (view_of n.proposal) q lacks.0) spared in
    (grind (arith, common_steps, nat_tests, apart, lacks.0), lacks.1)
lacks-kept term held (Certified n good) q until lacks spared =
    let apart = other-view (view_of n.proposal) q until (is_none (notarization_held held (view_of n.proposal)) || (not good && not (is_failed held (view_of n.proposal))))
    (λ is. let none = none-at held (view_of n.proposal) q lacks.0 is in grind (arith, common_steps, none)) spared in (
      grind (arith, common_steps, nat_tests, apart, lacks.0),
      elim good as (λ good. is_failed (Certified n good ∷ held) q ≡ false) [
        | true ↦ lacks.1
        | false ↦ grind (arith, common_steps, nat_tests, apart, lacks.1)
      ],
    )
lacks-kept term held (Updated (certificates.Nullification n)) q until lacks spared = (grind (arith, common_steps, lacks.0), lacks.1)
lacks-kept term held (Updated (certificates.Finalization f)) q until lacks spared = (grind (arith, common_steps, lacks.0), lacks.1)
lacks-kept term held Replayed q until lacks spared = (grind (arith, common_steps, lacks.0), lacks.1)

-- ---- what is not settled, and that no effect ends, is not settled

parted : (term : ℕ) (held : List RepairCall) (call : RepairCall) (q : ℕ) (ask : Ask) → Spared q ask (effects_of term held call)
    → Spared q ask (settled_by term held call) × Spared q ask (finalized_by held call) × Spared q ask (raised_by held call)
unfolding effects_of
parted term held call q ask spared =
    let all = spared-append q ask (settled_by term held call ++ finalized_by held call ++ raised_by held call) (fetched_by term held call) spared in
    let two = spared-append q ask (settled_by term held call ++ finalized_by held call) (raised_by held call) all.0 in
    let one = spared-append q ask (settled_by term held call) (finalized_by held call) two.0 in
    (one.0, one.1, two.1)

pub unsettled-kept : (term : ℕ) (held : List RepairCall) (call : RepairCall) (q : ℕ) (kind : Kind) (until : Until) → 0 < term → q ≤ greatest_view → is_settled term held q kind ≡ false
    → Spared q (record { kind = kind; until = until }) (effects_of term held call) → is_settled term (call ∷ held) q kind ≡ false
unfolding is_settled
unsettled-kept term held call q kinds.Nullification until some small open_at spared =
    let parts = parted term held call q _ spared in
    let final : is_final held q ≡ false = grind (arith, common_steps, open_at) in
    let nullified : is_nullified term held q ≡ false = grind (arith, common_steps, open_at) in
    let still_final = final-kept held call q _ final parts.1 in
    let still_nullified = nullified-kept term held call q until some small nullified parts.0 in
    grind (arith, common_steps, still_final, still_nullified)
unsettled-kept term held call q kinds.Notarization until some small open_at spared =
    let parts = parted term held call q _ spared in
    let final : is_final held q ≡ false = grind (arith, common_steps, open_at) in
    let lacks : Lacks held q = (grind (arith, common_steps, open_at), grind (arith, common_steps, open_at)) in
    let still_final = final-kept held call q _ final parts.1 in
    let still_lacks = lacks-kept term held call q until lacks parts.0 in
    grind (arith, common_steps, still_final, still_lacks.0, still_lacks.1)

-- ---- a gap that no effect ends is a gap

final-rises : (held : List RepairCall) (call : RepairCall) → final_view held ≤ final_view (call ∷ held)
unfolding final_view finalization_held
final-rises held (Updated (certificates.Finalization f)) =
    elim (finalization_held held) as (λ (o : Option Finalization). option_map_or (λ h. view_of h.proposal) o 0
    ≤ option_map_or (λ h. view_of h.proposal) (if option_map_or (λ h. nat_lt (view_of h.proposal) (view_of f.proposal)) o true then Some f else o) 0) [
      | None ↦ omega arith
      | Some h ↦ grind (arith, common_steps, nat_tests)
    ]
final-rises held (Updated (certificates.Notarization n)) = omega arith
final-rises held (Updated (certificates.Nullification n)) = omega arith
final-rises held (Certified n good) = omega arith
final-rises held Replayed = omega arith

floor-rises : (held : List RepairCall) (call : RepairCall) → repair_floor held ≤ repair_floor (call ∷ held)
unfolding repair_floor greatest_of
floor-rises held call = let rises = final-rises held call in omega arith

above-raised : (held : List RepairCall) (call : RepairCall) (q : ℕ) (kind : Kind) → repair_floor held < q
    → Spared q (record { kind = kind; until = untils.Floor }) (raised_by held call) → repair_floor (call ∷ held) < q
unfolding raised_by
above-raised held call q kind above spared =
    let rises = floor-rises held call in
    elim (nat_lt (repair_floor held) (repair_floor (call ∷ held))) as (λ b. nat_lt (repair_floor held) (repair_floor (call ∷ held)) ≡ b → repair_floor (call ∷ held) < q) [
      | true ↦ λ raised.
          let kept = spared-if q (record { kind = kind; until = untils.Floor }) _ (effects.Raised (repair_floor (call ∷ held))) (retires.Floor (repair_floor (call ∷ held))) refl spared raised in
          grind (arith, common_steps, nat_tests, kept)
      | false ↦ λ stays. grind (arith, common_steps, nat_tests, stays, above, rises)
    ] refl

first-stays : (term low high q : ℕ) → low ≤ high → high < q → is_first_above term low q ≡ true → is_first_above term high q ≡ true
unfolding is_first_above
first-stays term low high q le lt first = grind (arith, common_steps, nat_tests, first, le, lt)

replayed-stays : (held : List RepairCall) (call : RepairCall) → list_any is_replayed_in held ≡ true → list_any is_replayed_in (call ∷ held) ≡ true
replayed-stays held call was = grind (arith, common_steps, was)

failed-stays : (held : List RepairCall) (call : RepairCall) (q : ℕ) → is_failed held q ≡ true → is_failed (call ∷ held) q ≡ true
unfolding is_failed
failed-stays held call q was = grind (arith, common_steps, was)

top-rises : (term : ℕ) (held : List RepairCall) (call : RepairCall) → top_of term held ≤ top_of term (call ∷ held)
unfolding top_of greatest_of
top-rises term held call = omega arith

pub gap-kept : (term : ℕ) (held : List RepairCall) (call : RepairCall) (q : ℕ) → 0 < term → q ≤ greatest_view → is_gap term held q ≡ true
    → Spared q (record { kind = kinds.Nullification; until = untils.Floor }) (effects_of term held call) → is_gap term (call ∷ held) q ≡ true
unfolding is_gap
gap-kept term held call q some small gap spared =
    let parts = parted term held call q _ spared in
    let low : repair_floor held < q = gap_above term held q gap in
    let open_at : is_nullified term held q ≡ false = grind (arith, common_steps, gap) in
    let still_open = nullified-kept term held call q untils.Floor some small open_at parts.0 in
    let above = above-raised held call q kinds.Nullification low parts.2 in
    let rises = floor-rises held call in
    let top = top-rises term held call in
    grind (
      arith,
      common_steps,
      nat_tests,
      gap,
      above,
      still_open,
      top,
      replayed-stays held call,
      failed-stays held call q,
      first-stays term (repair_floor held) (repair_floor (call ∷ held)) q rises above,
    )
