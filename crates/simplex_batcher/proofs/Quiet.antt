-- A round that has nothing to check or assemble has nothing in the next calls either.
use Rattle.std.proofs.Common.{◌≡◌, ℕ, refl, sym, ap, ◌∙◌, Option, Some, None, subst}
use Rattle.std.specs.Option.{option_map, option_map_or}
use Rattle.simplex_round.specs.Known as low
use Rattle.simplex_round.specs.Assembly.{Scheme, first_work, after_work, constructed, batch_of}
use Rattle.simplex_round.specs.Calls.{TryConstruct, known_after, after_call}
use Rattle.model_steps.specs.Batcher.{Made, Doing, RoundHistory, constructing, called, known_in, with_batch}
use Rattle.simplex_messages.specs.declared.step.StepOut.{StepOut}
use Rattle.simplex_batcher.specs.Rounds.{round_of}
use Rattle.simplex_batcher.specs.Holding.{Holds}
use Rattle.simplex_batcher.specs.Working.{constructing_at}
use Rattle.simplex_batcher.proofs.Placing.{same-some, set-here}
use Rattle.simplex_batcher.proofs.Holding.{holds-set}

-- the round of the view, if there is one, has nothing to check or assemble
abbrev pub Quiet : Made → ℕ → Doing → Type 0
Quiet made view doing =
    (h : RoundHistory) → doing.standing.rounds view ≡ Some h → constructed h.made made.scheme (known_in h) ≡ None

no-work : (made : low.Made) (scheme : Scheme) (known : low.Known) → constructed made scheme known ≡ None → first_work made scheme known ≡ None
unfolding constructed
no-work made scheme known none =
    elim (first_work made scheme known) as (λ o. option_map batch_of o ≡ None → o ≡ None) [
      | None ↦ λ e. refl
      | Some work ↦ λ e. cc
    ] none

-- the call leaves it as it was
quiet-known : (made : Made) (h : RoundHistory) → constructed h.made made.scheme (known_in h) ≡ None
    → known_in (called (TryConstruct made.scheme) h) ≡ known_in h
unfolding known_after after_call after_work
quiet-known made h none = rw (no-work h.made made.scheme (known_in h) none) refl

quiet-round : (made : Made) (h : RoundHistory) → constructed h.made made.scheme (known_in h) ≡ None
    → round_of (called (TryConstruct made.scheme) h) ≡ round_of h
unfolding round_of
quiet-round made h none = ap (λ (known : low.Known). record { made = h.made; known = known }) (quiet-known made h none)

-- so the round in hand may stand for one more call
pub quiet-holds : (made : Made) (view : ℕ) (before doing : Doing) (round : low.Standing) (work : StepOut)
    → Holds (Some round) work view before doing → Quiet made view doing → Holds (Some round) work view before (constructing_at made view doing)
unfolding constructing_at constructing
quiet-holds made view before doing round work holds quiet =
    elim (doing.standing.rounds view) as (λ (o : Option RoundHistory). doing.standing.rounds view ≡ o
    → Holds (Some round) work view before (option_map_or (λ it. constructing made view it doing) o doing)) [
      | None ↦ λ is. holds
      | Some h ↦ λ is.
          let same : round ≡ round_of h = same-some _ _ (holds.round_is ∙ ap (option_map round_of) is) in
          let none = quiet h is in
          holds-set (Some round) work work view before doing (constructing made view h doing) round (called (TryConstruct made.scheme) h) holds
          (same ∙ sym (quiet-round made h none)) (rw none refl) (rw none refl) (rw none holds.does)
    ] refl

pub quiet-stays : (made : Made) (view : ℕ) (doing : Doing) → Quiet made view doing → Quiet made view (constructing_at made view doing)
unfolding constructing_at constructing
quiet-stays made view doing quiet h at =
    elim (doing.standing.rounds view) as (λ (o : Option RoundHistory). doing.standing.rounds view ≡ o
    → (option_map_or (λ it. constructing made view it doing) o doing).standing.rounds view ≡ Some h → constructed h.made made.scheme (known_in h) ≡ None) [
      | None ↦ λ is at. quiet h at
      | Some old ↦ λ is at.
          let none = quiet old is in
          let one : Some (called (TryConstruct made.scheme) old) ≡ Some h =
          sym (set-here view (called (TryConstruct made.scheme) old) (with_batch (constructed old.made made.scheme (known_in old)) doing).standing.rounds) ∙ at in
          let same : called (TryConstruct made.scheme) old ≡ h = same-some _ _ one in
          subst (λ (it : RoundHistory). constructed it.made made.scheme (known_in it) ≡ None) same (rw (quiet-known made old none) none)
    ] refl at

-- what a call answered of the round in hand
pub quiet-now : (made : Made) (view : ℕ) (before doing : Doing) (round : low.Standing) (work : StepOut)
    → Holds (Some round) work view before doing
    → ((h : RoundHistory) → round ≡ round_of h → constructed h.made made.scheme (known_in h) ≡ None) → Quiet made view doing
quiet-now made view before doing round work holds none h is =
    none h (same-some _ _ (holds.round_is ∙ ap (option_map round_of) is))
