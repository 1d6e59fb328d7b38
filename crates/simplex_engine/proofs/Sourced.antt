-- What the sources of a crew's steps hold.
use Rattle.std.proofs.Common.{◌≡◌, refl, ℕ, Bool, List}
use Rattle.std.specs.Prelude.{not}
use Rattle.std.specs.Option.{is_some}
use Rattle.simplex_wire.specs.declared.scheme.Scheme as scheme
use Rattle.simplex_types.specs.declared.elector.Elector as elector
use Rattle.simplex_journal.specs.declared.journal.Journal as journal
use Rattle.simplex_mailbox.specs.Mail.{holds_nothing}
use Rattle.simplex_messages.specs.declared.voter.VoterInput.{VoterInput}
use Rattle.simplex_messages.specs.declared.voter.VoterInput.TheVariants as inputs
use Rattle.simplex_transcript.specs.declared.event.StepSource.TheVariants as sources
use Rattle.model_resolver.specs.Views.{is_reached}
use Rattle.model_resolver.specs.Resolver.{holds_handled, deadline_after}
use Rattle.simplex_resolver.specs.Stands as resolver
use Rattle.model_steps.specs.Voter.{acted}
use Rattle.model_steps.specs.VoterLife.{VoterMade, Given, place_of}
use Rattle.simplex_voter.specs.Actor as voter
use Rattle.simplex_engine.specs.declared.crew.Crew.{Crew}
use Rattle.simplex_engine.specs.Holding.{holds}
use Rattle.simplex_engine.specs.Parts.{parts_of}
use Rattle.simplex_engine.specs.Stands.{CrewStands, CrewAnswersAs, TellsAs}
use Rattle.simplex_engine.proofs.Voters.{either-answers}

-- whether the voter has something to do with an input that takes something
abbrev pub acts_on : VoterInput → ℕ → VoterMade → List Given → Bool
acts_on input now made past = is_some (acted made.rules now (place_of made past).standing input)

module _ {S L J : Type 0} {s : scheme.Ghosts S} {l : elector.Ghosts L} {j : journal.Ghosts J} where
  pub batcher-holds : (told : Bool) (crew : Crew S L J s l j) (empty : Bool) (now : ℕ) → empty ≡ holds_nothing crew.boxes.batcher
      → CrewAnswersAs told crew (λ made past. holds made past sources.Batcher now) (not empty)
  unfolding CrewStands parts_of holds
  batcher-holds told crew empty now e = λ made past h. rw (e, h.to_batcher) refl

  pub voter-holds : (told : Bool) (crew : Crew S L J s l j) (empty : Bool) (now : ℕ) → empty ≡ holds_nothing crew.boxes.voter
      → CrewAnswersAs told crew (λ made past. holds made past sources.Voter now) (not empty)
  unfolding CrewStands parts_of holds
  voter-holds told crew empty now e = λ made past h. rw (e, h.to_voter) refl

  pub resolver-holds : (told : Bool) (crew : Crew S L J s l j) (empty : Bool) (now : ℕ) → empty ≡ holds_nothing crew.boxes.resolver
      → CrewAnswersAs told crew (λ made past. holds made past sources.Resolver now) (not empty)
  unfolding CrewStands parts_of holds
  resolver-holds told crew empty now e = λ made past h. rw (e, h.to_resolver) refl

  -- what the voter tells of it
  abbrev pub VoterTells : Crew S L J s l j → VoterInput → ℕ → Bool → Type 0
  VoterTells crew input now held =
      voter.Answers crew.voter (acts_on input now) held

  acts : (told : Bool) (crew : Crew S L J s l j) (input : VoterInput) (now : ℕ) (held : Bool) → VoterTells crew input now held
      → TellsAs told crew (λ parts. acts_on input now parts.voter parts.given) held
  acts told crew input now held tells = λ parts h.
      rw (← h.voter.place) (either-answers told crew (acts_on input now) held tells _ _ h.voter.stands)

  pub timer-holds : (told : Bool) (crew : Crew S L J s l j) (held : Bool) (now : ℕ) → VoterTells crew inputs.Timer now held
      → CrewAnswersAs told crew (λ made past. holds made past sources.Timer now) held
  unfolding CrewStands parts_of holds
  timer-holds told crew held now tells = λ made past h. acts told crew inputs.Timer now held tells (parts_of made past) h

  pub propose-holds : (told : Bool) (crew : Crew S L J s l j) (held : Bool) (now : ℕ) → VoterTells crew inputs.Propose now held
      → CrewAnswersAs told crew (λ made past. holds made past sources.Propose now) held
  unfolding CrewStands parts_of holds
  propose-holds told crew held now tells = λ made past h. acts told crew inputs.Propose now held tells (parts_of made past) h

  pub verify-holds : (told : Bool) (crew : Crew S L J s l j) (held : Bool) (now : ℕ) → VoterTells crew inputs.Verify now held
      → CrewAnswersAs told crew (λ made past. holds made past sources.Verify now) held
  unfolding CrewStands parts_of holds
  verify-holds told crew held now tells = λ made past h. acts told crew inputs.Verify now held tells (parts_of made past) h

  pub certify-holds : (told : Bool) (crew : Crew S L J s l j) (held : Bool) (now : ℕ) → VoterTells crew inputs.Certify now held
      → CrewAnswersAs told crew (λ made past. holds made past sources.Certify now) held
  unfolding CrewStands parts_of holds
  certify-holds told crew held now tells = λ made past h. acts told crew inputs.Certify now held tells (parts_of made past) h

  pub handler-holds : (told : Bool) (crew : Crew S L J s l j) (held : Bool) (now : ℕ)
      → resolver.Answers crew.resolver (λ made past. holds_handled made past) held
      → CrewAnswersAs told crew (λ made past. holds made past sources.Handler now) held
  unfolding CrewStands parts_of holds
  handler-holds told crew held now tells = λ made past h. tells _ _ h.resolver

  pub fetch-holds : (told : Bool) (crew : Crew S L J s l j) (held : Bool) (now : ℕ)
      → TellsAs told crew (λ parts. is_reached now (deadline_after parts.resolver parts.asked)) held
      → CrewAnswersAs told crew (λ made past. holds made past sources.Fetch now) held
  unfolding CrewStands parts_of holds
  fetch-holds told crew held now tells = λ made past h. tells (parts_of made past) h
