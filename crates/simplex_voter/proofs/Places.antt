-- Where a voter is after a start or a step, and what that gives.
use Rattle.std.proofs.Common.{◌≡◌, ℕ, true, false, List, [], ◌∷◌, Option, Some, None, refl, ap, ◌∙◌}
use Rattle.std.specs.Option.{is_some}
use Rattle.simplex_journal.specs.Journal.{crashed, replayed}
use Rattle.simplex_messages.specs.declared.step.Stop.{Stop}
use Rattle.simplex_messages.specs.declared.step.Stop.TheVariants as stops
use Rattle.simplex_messages.specs.declared.step.Outcome.TheVariants as outcomes
use Rattle.simplex_messages.specs.declared.voter.VoterInput.{VoterInput}
use Rattle.simplex_messages.specs.Step.{no_out}
use Rattle.model_steps.specs.Desk.{Doing}
use Rattle.model_steps.specs.Performed.{performed, kept_by}
use Rattle.model_steps.specs.Voter.{stepped}
use Rattle.model_steps.specs.VoterLife.{VoterMade, Given, Started, Stepped, place_of, rest, unreadable, unread, start_performed, start_at, start_given, step_given, idle}
use Rattle.simplex_voter.specs.Actor.{floor_calls}
use Rattle.simplex_voter.specs.Performing.{past_reading}
use Rattle.simplex_voter.proofs.Restoring.{begins-so}

-- ---- a step

module _ (made : VoterMade) (past : List Given) (input : VoterInput) (now : ℕ) (stop : Stop) where
  abbrev done : Option Doing
  done = stepped made.rules now (place_of made past).standing input

  pub stepped-place : (doing : Doing) → done ≡ Some doing
      → place_of made (Stepped input now stop ∷ past)
      ≡ record { standing = rest doing (place_of made past).standing.answers; sections = (performed stop doing (place_of made past).sections).sections }
  unfolding place_of
  stepped-place doing is = rw is refl

  pub idle-place : done ≡ None → place_of made (Stepped input now stop ∷ past) ≡ place_of made past
  unfolding place_of
  idle-place none = rw none refl

  pub stepped-given : (doing : Doing) → done ≡ Some doing → step_given made past input now stop ≡ performed stop doing (place_of made past).sections
  unfolding step_given
  stepped-given doing is = rw is refl

  pub idle-given : done ≡ None → step_given made past input now stop ≡ idle (place_of made past).sections
  unfolding step_given
  idle-given none = rw none refl

pub none-held : {A : Type 0} (done : Option A) → false ≡ is_some done → done ≡ None
none-held None h = refl
none-held (Some x) h = absurd cc

-- ---- a start

read-performed : (stop : Stop) (made : VoterMade) (doing : Doing) → unreadable stop ≡ false → start_performed stop made.floor doing made.sections ≡ performed (past_reading stop) doing made.sections
unfolding start_performed
read-performed stops.None made doing h = refl
read-performed (stops.Cut call keep) made doing h = refl
read-performed (stops.Fail call keep) made doing h = rw h refl

unread-performed : (stop : Stop) (made : VoterMade) (doing : Doing) → unreadable stop ≡ true → start_performed stop made.floor doing made.sections ≡ unread made.floor doing (kept_by stop) made.sections
unfolding start_performed
unread-performed stops.None made doing h = absurd cc
unread-performed (stops.Cut call keep) made doing h = absurd cc
unread-performed (stops.Fail call keep) made doing h = rw h refl

module _ (made : VoterMade) (now : ℕ) (stop : Stop) where
  abbrev pub begins_with : Doing
  begins_with = start_at made now made.sections

  pub start-place : unreadable stop ≡ false
      → place_of made (Started now stop ∷ []) ≡ record { standing = rest begins_with []; sections = (performed (past_reading stop) begins_with made.sections).sections }
  unfolding place_of
  start-place h = rw (h, read-performed stop made begins_with h) refl

  pub start-gives : unreadable stop ≡ false → start_given made [] now stop ≡ performed (past_reading stop) begins_with made.sections
  unfolding start_given place_of
  start-gives h = read-performed stop made begins_with h

  pub unread-place : unreadable stop ≡ true
      → place_of made (Started now stop ∷ []) ≡ record { standing = (place_of made []).standing; sections = crashed (kept_by stop) made.sections }
  unfolding place_of
  unread-place h = rw (h, unread-performed stop made begins_with h) refl

  pub unread-gives : unreadable stop ≡ true
      → start_given made [] now stop ≡ record { outcome = outcomes.Journal; out = record no_out { calls = floor_calls made.floor }; sections = crashed (kept_by stop) made.sections }
  unfolding start_given place_of
  unread-gives h =
      unread-performed stop made begins_with h
      ∙ ap (λ calls. record { outcome = outcomes.Journal; out = record no_out { calls = calls }; sections = crashed (kept_by stop) made.sections })
      (begins-so made.rules now made.floor (replayed made.sections))
