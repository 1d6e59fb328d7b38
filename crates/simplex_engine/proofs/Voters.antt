-- What holds of a voter over a journal that tells its order, and over any.
use Rattle.std.proofs.Common.{◌≡◌, ap, ◌∙◌, ℕ, Bool, true, false, List, [], ◌∷◌, Some}
use Rattle.simplex_wire.specs.declared.scheme.Scheme as scheme
use Rattle.simplex_types.specs.declared.elector.Elector as elector
use Rattle.simplex_journal.specs.declared.journal.Journal as journal
use Rattle.simplex_journal.specs.Order.{no_order}
use Rattle.model_steps.specs.VoterLife.{VoterMade, Given, Place, place_of}
use Rattle.model_steps.specs.Engine.{EngineMade}
use Rattle.simplex_voter.specs.Actor as voter
use Rattle.simplex_voter.specs.declared.actor.Actor.{Actor}
use Rattle.simplex_engine.specs.declared.crew.Crew.{Crew}
use Rattle.simplex_engine.specs.declared.unstarted.Unstarted.{Unstarted}
use Rattle.simplex_engine.specs.Stands.{VoterStands, TellsAs, Waits}
use Rattle.simplex_voter.proofs.LivesOver.{held-over, known-over}

module _ {S L J : Type 0} {s : scheme.Ghosts S} {l : elector.Ghosts L} {j : journal.Ghosts J} where
  pub either-takes : (told : Bool) (old : Crew S L J s l j) (new : Actor S L J s l j) (given : Given)
      → voter.Takes old.voter new given → voter.TakesOver old.voter new given
      → (made : VoterMade) (past : List Given) → VoterStands told old.voter made past → VoterStands told new made (given ∷ past)
  either-takes true old new given takes over = takes
  either-takes false old new given takes over = over

  pub either-answers : {R : Type 0} (told : Bool) (crew : Crew S L J s l j) (rule : VoterMade → List Given → R) (answer : R)
      → voter.Answers crew.voter rule answer → (made : VoterMade) (past : List Given) → VoterStands told crew.voter made past → answer ≡ rule made past
  either-answers told crew rule answer over = λ made past stands. over made past (known-over told crew.voter made past stands)

  -- what the crew's voter answers by a rule that reads its place
  pub voter-tells : {R : Type 0} (told : Bool) (crew : Crew S L J s l j) (rule : Place → R) (answer : R)
      → voter.Answers crew.voter (λ made past. rule (place_of made past)) answer → TellsAs told crew (λ parts. rule (place_of parts.voter parts.given)) answer
  voter-tells told crew rule answer answers = λ parts h.
      rw (← h.voter.place) (either-answers told crew (λ made past. rule (place_of made past)) answer answers _ _ h.voter.stands)

  -- what the journal of a crew holds
  pub crew-sections : (crew : Crew S L J s l j) → TellsAs false crew (λ parts. (place_of parts.voter parts.given).sections) (j.sections (voter.journal_of crew.voter))
  crew-sections crew = λ parts h. held-over _ _ _ h.voter.stands ∙ ap (λ (place : Place). place.sections) h.voter.place

  -- a voter that was just made
  pub either-new : (told : Bool) (actor : Actor S L J s l j) (unstarted : Unstarted S L J s l j) (made : EngineMade) (start : ℕ) → Waits told unstarted made
      → (j.order unstarted.journal ≡ Some no_order
      → voter.StandsFor actor (voter.voter_made s.attests s.member l.elects l.cuts unstarted.config start (j.sections unstarted.journal)) [])
      → voter.StandsOver actor (voter.voter_made s.attests s.member l.elects l.cuts unstarted.config start (j.sections unstarted.journal)) []
      → VoterStands told actor (made.voter start) []
  either-new true actor unstarted made start waits stands over = rw (waits.voter start) (stands waits.order)
  either-new false actor unstarted made start waits stands over = rw (waits.voter start) over
