-- A voter's place, by what it was given.
use Rattle.std.proofs.Common.{◌≡◌, refl, ap, ℕ, false, List, ◌∷◌}
use Rattle.simplex_values.specs.declared.answer.Answer.{Answer}
use Rattle.simplex_messages.specs.declared.step.Stop.{Stop}
use Rattle.simplex_messages.specs.declared.voter.VoterInput.{VoterInput}
use Rattle.model_steps.specs.Voter.{Standing, takes_answer, answered}
use Rattle.model_steps.specs.VoterLife.{VoterMade, Given, Started, Stepped, Answered, place_of, step_given}
use Rattle.simplex_voter.specs.Turned.{step_left}

-- where two histories lead to one place, so do they with one more item
pub place-more : (made : VoterMade) (given past : List Given) (next : Given) → place_of made given ≡ place_of made past
    → place_of made (next ∷ given) ≡ place_of made (next ∷ past)
unfolding place_of
place-more made given past (Started now stop) e = rw e refl
place-more made given past (Stepped input now stop) e = rw e refl
place-more made given past (Answered number answer) e = rw e refl

-- and what a step gives there is the same
pub step-at : (made : VoterMade) (given past : List Given) (input : VoterInput) (now : ℕ) (stop : Stop) → place_of made given ≡ place_of made past
    → step_given made given input now stop ≡ step_given made past input now stop
unfolding step_given
step-at made given past input now stop e = rw e refl

-- and what it leaves of the journal
pub left-at : (made : VoterMade) (given past : List Given) (input : VoterInput) (now : ℕ) (stop turned : Stop) → place_of made given ≡ place_of made past
    → step_left made given input now stop turned ≡ step_left made past input now stop turned
unfolding step_left
left-at made given past input now stop turned e = rw e refl

answered-not : (number : ℕ) (answer : Answer) (standing : Standing) → takes_answer standing number answer ≡ false → answered number answer standing ≡ standing
unfolding answered
answered-not number answer standing e = rw e refl

-- an answer that is not taken leads nowhere else
pub place-refused : (made : VoterMade) (given : List Given) (number : ℕ) (answer : Answer) → takes_answer (place_of made given).standing number answer ≡ false
    → place_of made (Answered number answer ∷ given) ≡ place_of made given
unfolding place_of
place-refused made given number answer e =
    let before = place_of made given in
    ap (λ standing. record { standing = standing; sections = before.sections }) (answered-not number answer before.standing e)
