-- A vote that is heard by the round of its view.
use Rattle.std.proofs.Common.{◌≡◌, ℕ, ◌==◌, true, false, refl, sym, ap, ◌∙◌, Option, Some, None, unwrap_or, arith}
use Rattle.std.specs.Option.{is_some, option_map}
use Rattle.std.proofs.lemmas.Grind.{common_steps}
use Rattle.std.proofs.lemmas.Bool.Decides.{nat_tests}
use Rattle.simplex_wire.specs.declared.vote.Vote.{Vote}
use Rattle.simplex_round.specs.Acceptance.{has_nullify}
use Rattle.simplex_round.specs.Calls.{AddNetwork}
use Rattle.simplex_round.specs.Known as low
use Rattle.model_steps.specs.Batcher.{Made, Standing, Doing, RoundHistory, called, known_in, new_round, round_for, vote_view, some_passes, leader_nullified, with_heard}
use Rattle.simplex_batcher.specs.Rounds.{round_of}
use Rattle.simplex_batcher.specs.Working.{bare_round, heard_at, lead_of}
use Rattle.simplex_batcher.proofs.Placing.{Stand, set, placed}

-- the view has a round, which changes
pub changed-some : (old new : ℕ → Option low.Standing) (made : Made) (standing : Standing) (view : ℕ) (change : RoundHistory → RoundHistory)
    → Stand old standing.rounds → is_some (old view) ≡ true
    → ((h : RoundHistory) → old view ≡ Some (round_of h) → (q : ℕ) → new q ≡ set view (round_of (change h)) old q)
    → Stand new (set view (change (bare_round made standing view)) standing.rounds)
changed-some old new made standing view change s there takes =
    elim (standing.rounds view) as (λ (o : Option RoundHistory). standing.rounds view ≡ o → Stand new (set view (change (unwrap_or o (new_round made standing view))) standing.rounds)) [
      | None ↦ λ is. absurd (let bad : true ≡ false = sym there ∙ ap is_some (s view ∙ ap (option_map round_of) is) in cc)
      | Some h ↦ λ is. placed old new standing.rounds view (round_of (change h)) (change h) s refl (takes h (s view ∙ ap (option_map round_of) is))
    ] refl

-- what it answers
pub answer-some : {R : Type 0} (old : ℕ → Option low.Standing) (made : Made) (standing : Standing) (view : ℕ) (rule : RoundHistory → R) (answer : R)
    → Stand old standing.rounds → is_some (old view) ≡ true
    → ((h : RoundHistory) → old view ≡ Some (round_of h) → answer ≡ rule h)
    → answer ≡ rule (bare_round made standing view)
answer-some old made standing view rule answer s there answers =
    elim (standing.rounds view) as (λ (o : Option RoundHistory). standing.rounds view ≡ o → answer ≡ rule (unwrap_or o (new_round made standing view))) [
      | None ↦ λ is. absurd (let bad : true ≡ false = sym there ∙ ap is_some (s view ∙ ap (option_map round_of) is) in cc)
      | Some h ↦ λ is. answers h (s view ∙ ap (option_map round_of) is)
    ] refl

-- the view has no round
pub none-at : {A : Type 0} (o : Option A) → is_some o ≡ false → o ≡ None
none-at None e = refl
none-at (Some x) e = cc

pub bare-new : (old : ℕ → Option low.Standing) (made : Made) (standing : Standing) (view : ℕ)
    → Stand old standing.rounds → is_some (old view) ≡ false → bare_round made standing view ≡ new_round made standing view
bare-new old made standing view s none =
    elim (standing.rounds view) as (λ (o : Option RoundHistory). standing.rounds view ≡ o → unwrap_or o (new_round made standing view) ≡ new_round made standing view) [
      | None ↦ λ is. refl
      | Some h ↦ λ is. absurd (let bad : true ≡ false = sym (ap is_some (s view ∙ ap (option_map round_of) is)) ∙ none in cc)
    ] refl

-- a vote of the current view tells whether the leader's nullify is accepted now
pub nullified-here : (made : Made) (doing : Doing) (sender : ℕ) (vote : Vote) → vote_view vote ≡ doing.standing.current
    → some_passes (has_nullify (known_in (called (AddNetwork sender vote) (round_for made doing.standing (vote_view vote))))) (lead_of made doing.standing (vote_view vote))
    ≡ leader_nullified (heard_at made sender vote doing).standing
unfolding lead_of leader_nullified heard_at with_heard
nullified-here made doing sender vote same =
    let here : (doing.standing.current == vote_view vote) ≡ true = grind (arith, common_steps, nat_tests) in
    let there : (vote_view vote == doing.standing.current) ≡ true = grind (arith, common_steps, nat_tests) in
    rw (here, there) refl
