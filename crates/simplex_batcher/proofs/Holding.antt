-- A view that is worked with its round in hand.
use Rattle.std.proofs.Common.{◌≡◌, ℕ, zero, suc, ◌==◌, Bool, false, refl, sym, ap, ◌∙◌, List, Option, Some, None, inl, inr, arith}
use Rattle.std.specs.Option.{option_map, option_map_or}
use Rattle.std.proofs.lemmas.Grind.{common_steps}
use Rattle.std.proofs.lemmas.Bool.{cases_eq}
use Rattle.std.proofs.lemmas.Bool.Decides.{nat_tests}
use Rattle.simplex_wire.specs.declared.scheme.Scheme as scheme
use Rattle.simplex_round.specs.Known as low
use Rattle.model_steps.specs.Batcher.{Made, Standing, Doing, RoundHistory, constructing, constructing_times}
use Rattle.simplex_batcher.specs.declared.actor.Actor.{Actor}
use Rattle.simplex_batcher.specs.declared.rounds.Rounds.{Rounds}
use Rattle.simplex_messages.specs.declared.step.StepOut.{StepOut}
use Rattle.simplex_batcher.specs.Rounds.{round_at, round_of}
use Rattle.simplex_batcher.specs.Stands.{IsAt, Stands, work_of}
use Rattle.simplex_batcher.specs.Holding.{Holds, StaysBeside}
use Rattle.simplex_batcher.specs.Working.{forwarded_at, constructing_at, worked_near}
use Rattle.simplex_batcher.proofs.Placing.{set, set-here}

set-apart : {A : Type 0} → (view : ℕ) (one : A) (others : ℕ → Option A) (q : ℕ) → (q == view) ≡ false → set view one others q ≡ others q
set-apart view one others q apart = rw apart refl

-- the round changed, and the step did more
pub holds-set : (round : Option low.Standing) (work worked : StepOut) (view : ℕ) (before doing next : Doing) (now : low.Standing) (history : RoundHistory)
    → Holds round work view before doing → now ≡ round_of history
    → next.standing ≡ record doing.standing { rounds = set view history doing.standing.rounds }
    → next.dirty ≡ doing.dirty → worked ≡ work_of next
    → Holds (Some now) worked view before next
holds-set round work worked view before doing next now history h is standing dirty does = record {
  round_is = ap (λ (x : low.Standing). Some x) is ∙ ap (option_map round_of) (sym (set-here view history doing.standing.rounds)) ∙ ap (λ (s : Standing). option_map round_of (s.rounds view)) (sym standing);
  others_are = λ q apart. ap (λ (s : Standing). s.rounds q) standing ∙ set-apart view history doing.standing.rounds q apart ∙ h.others_are q apart;
  rest_is = ap (λ (s : Standing). record s { rounds = before.standing.rounds }) standing ∙ h.rest_is;
  does = does;
  marks = dirty ∙ h.marks;
}

-- the view is begun
pub holds-start : (round : Option low.Standing) (work : StepOut) (view : ℕ) (doing : Doing)
    → round ≡ option_map round_of (doing.standing.rounds view) → work ≡ work_of doing → Holds round work view doing doing
holds-start round work view doing is does = record {
  round_is = is;
  others_are = λ q apart. refl;
  rest_is = refl;
  does = does;
  marks = refl;
}

-- the view has no round
pub none-of : (o : Option RoundHistory) → None ≡ option_map round_of o → o ≡ None
none-of None e = refl
none-of (Some h) e = cc

none-times : (n : ℕ) (made : Made) (view : ℕ) (doing : Doing) → doing.standing.rounds view ≡ None → constructing_times n made view doing ≡ doing
unfolding constructing_times
none-times zero made view doing none = refl
none-times (suc n) made view doing none =
    let one : option_map_or (λ round. constructing made view round doing) (doing.standing.rounds view) doing ≡ doing = rw none refl in
    ap (constructing_times n made view) one ∙ none-times n made view doing none

pub none-forwarded : (made : Made) (view : ℕ) (doing : Doing) → doing.standing.rounds view ≡ None → forwarded_at made view doing ≡ doing
unfolding forwarded_at
none-forwarded made view doing none = rw none refl

pub none-near : (made : Made) (view : ℕ) (doing : Doing) → doing.standing.rounds view ≡ None → worked_near made view doing ≡ doing
unfolding worked_near
none-near made view doing none =
    ap (constructing_times 3 made view) (none-forwarded made view doing none) ∙ none-times 3 made view doing none

-- the three kinds, one after the other
pub near-is : (made : Made) (view : ℕ) (doing : Doing)
    → worked_near made view doing ≡ constructing_at made view (constructing_at made view (constructing_at made view (forwarded_at made view doing)))
unfolding worked_near constructing_times constructing_at
near-is made view doing = refl

-- where the batcher stood as the view was begun, it stands once the view's round is put back
pub held-stands : {S : Type 0} {g : scheme.Ghosts S} (actor : Actor S g) (made : Made) (before doing : Doing) (view : ℕ) (rounds : Rounds) (work : StepOut) (dirty : List ℕ)
    → IsAt actor made before.standing → dirty ≡ before.dirty
    → rounds.current ≡ actor.rounds.current → StaysBeside (round_at actor.rounds) (round_at rounds) view → Holds (round_at rounds view) work view before doing
    → Stands (record actor { rounds = rounds }) work dirty made doing
held-stands actor made before doing view rounds work dirty s marks current stays h = record {
  stands = record {
    made_is = s.made_is;
    current_is = ap (λ (x : Standing). x.current) h.rest_is ∙ s.current_is ∙ sym current;
    leader_is = ap (λ (x : Standing). x.leader) h.rest_is ∙ s.leader_is;
    finalized_is = ap (λ (x : Standing). x.finalized) h.rest_is ∙ s.finalized_is;
    hinted_is = ap (λ (x : Standing). x.hinted) h.rest_is ∙ s.hinted_is;
    seen_is = λ q. s.seen_is q ∙ ap (λ (x : Standing). x.seen q) (sym h.rest_is);
    round_is = λ q. elim (cases_eq q view) [
      | inl same ↦ rw same h.round_is
      | inr apart ↦
          let beside : (q == view) ≡ false = grind (arith, common_steps, nat_tests) in
          stays q beside ∙ s.round_is q ∙ ap (option_map round_of) (sym (h.others_are q beside))
    ];
  };
  does = h.does;
  marks = marks ∙ sym h.marks;
}
