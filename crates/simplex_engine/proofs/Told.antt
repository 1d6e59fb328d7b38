-- What is known over a journal that tells that no call of it will fail is known over any.
use Rattle.std.proofs.Common.{◌≡◌, List, Bool, true, false, refl, sym, subst}
use Rattle.simplex_wire.specs.declared.scheme.Scheme as scheme
use Rattle.simplex_types.specs.declared.elector.Elector as elector
use Rattle.simplex_journal.specs.declared.journal.Journal as journal
use Rattle.model_steps.specs.Engine.{EngineMade, Did, runs}
use Rattle.simplex_voter.proofs.LivesOver.{known-over}
use Rattle.simplex_engine.specs.declared.crew.Crew.{Crew}
use Rattle.simplex_engine.specs.declared.stage.Stage.{Stage}
use Rattle.simplex_engine.specs.declared.stage.Stage.TheVariants as stages
use Rattle.simplex_engine.specs.declared.unstarted.Unstarted.{Unstarted}
use Rattle.simplex_engine.specs.declared.engine.Engine.{Engine}
use Rattle.simplex_engine.specs.Parts.{Parts}
use Rattle.simplex_engine.specs.Stands.{Placed, Holds, CrewStands, Waits, StageStands, StandsFor, StandsOver, Answers, is_at_work}

module _ {S L J : Type 0} {s : scheme.Ghosts S} {l : elector.Ghosts L} {j : journal.Ghosts J} where
  crew-over : (crew : Crew S L J s l j) (made : EngineMade) (past : List Did) → CrewStands true crew made past → CrewStands false crew made past
  unfolding CrewStands
  crew-over crew made past h =
      record {
        voter = record { given = h.voter.given; stands = known-over true crew.voter _ _ h.voter.stands; place = h.voter.place };
        batcher = h.batcher;
        resolver = h.resolver;
        to_batcher = h.to_batcher;
        to_voter = h.to_voter;
        to_resolver = h.to_resolver;
        blocked = h.blocked;
      }

  waits-over : (unstarted : Unstarted S L J s l j) (made : EngineMade) → Waits true unstarted made → Waits false unstarted made
  waits-over unstarted made h = record { order = tt; voter = h.voter; batcher = h.batcher; resolver = h.resolver; boxes = h.boxes }

  stage-over : (stage : Stage S L J s l j) (made : EngineMade) (past : List Did) → StageStands true stage made past → StageStands false stage made past
  stage-over (stages.Waiting unstarted) made past h = (h.0, waits-over unstarted made h.1)
  stage-over (stages.Running crew) made past h = (h.0, crew-over crew made past h.1)
  stage-over (stages.Stopped crew) made past h = (h.0, h.1, crew-over crew made past h.2)
  stage-over stages.Failed made past h = h

  pub told-over : (engine : Engine S L J s l j) (made : EngineMade) (past : List Did) → StandsFor engine made past → StandsOver engine made past
  unfolding StandsFor StandsOver
  told-over engine made past h = stage-over engine.stage made past h

  -- what an engine answers over any journal, it answers over one that tells its order
  pub answered-told : {R : Type 0} (engine : Engine S L J s l j) (rule : EngineMade → List Did → R) (answer : R) → Answers engine rule answer
      → (made : EngineMade) (past : List Did) → StandsFor engine made past → answer ≡ rule made past
  answered-told engine rule answer answers = λ made past stands. answers made past (told-over engine made past stands)

  -- ---- the actors of an engine that runs

  pub crew-of : (told : Bool) (stage : Stage S L J s l j) (crew : Crew S L J s l j) (made : EngineMade) (past : List Did) → stage ≡ stages.Running crew
      → StageStands told stage made past → CrewStands told crew made past
  crew-of told stage crew made past is h = (subst (λ (stage : Stage S L J s l j). StageStands told stage made past) is h).1

  pub at-work : (stage : Stage S L J s l j) (made : EngineMade) (past : List Did) → StageStands false stage made past → is_at_work stage ≡ runs past
  unfolding runs
  at-work (stages.Waiting unstarted) made past h = rw h.0 refl
  at-work (stages.Running crew) made past h = sym h.0
  at-work (stages.Stopped crew) made past h = sym h.0
  at-work stages.Failed made past h = absurd h
