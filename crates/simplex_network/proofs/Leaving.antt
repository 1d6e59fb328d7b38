-- The journal that an engine leaves, and what a crash leaves of it.
use Rattle.std.proofs.Common.{◌≡◌, ◌∙◌, List, true, ap, subst}
use Rattle.std.specs.Prelude.{Some}
use Rattle.simplex_wire.specs.declared.scheme.Scheme as scheme
use Rattle.simplex_types.specs.declared.elector.Elector as elector
use Rattle.simplex_journal.specs.declared.journal.Journal as journal
use Rattle.simplex_journal.specs.Journal.{Section, crashed}
use Rattle.simplex_journal.specs.Order.{no_order, Stands}
use Rattle.model_steps.specs.Engine.{EngineMade, Did, sections_of}
use Rattle.simplex_voter.specs.Actor as voter
use Rattle.simplex_engine.specs.declared.engine.Engine.{Engine}
use Rattle.simplex_engine.specs.declared.stage.Stage.{Stage}
use Rattle.simplex_engine.specs.declared.stage.Stage.TheVariants as stages
use Rattle.simplex_engine.specs.Stands.{StandsFor, StageStands, CrewStands, journal_at, journal_of}
use Rattle.simplex_network.specs.NodeEngine.{NodeJournal, NodeEngine, EngineStands, JournalStands, sections_held, order_held}

module _ {S L J : Type 0} {s : scheme.Ghosts S} {l : elector.Ghosts L} {j : journal.Ghosts J} where
  stage-quiet : (stage : Stage S L J s l j) (made : EngineMade) (past : List Did) (journal : J) → StageStands true stage made past
      → journal_at stage ≡ Some journal → j.order journal ≡ Some no_order
  unfolding CrewStands voter.StandsFor
  stage-quiet (stages.Waiting unstarted) made past journal stands is =
      let same : unstarted.journal ≡ journal = cc in subst (λ (x : J). j.order x ≡ Some no_order) same stands.1.order
  stage-quiet (stages.Running crew) made past journal stands is =
      let same : voter.journal_of crew.voter ≡ journal = cc in subst (λ (x : J). j.order x ≡ Some no_order) same stands.1.voter.stands.order_is
  stage-quiet (stages.Stopped crew) made past journal stands is =
      let same : voter.journal_of crew.voter ≡ journal = cc in subst (λ (x : J). j.order x ≡ Some no_order) same stands.2.voter.stands.order_is
  stage-quiet stages.Failed made past journal stands is = absurd stands

  -- it tells that no call of it will fail
  pub engine-quiet : (engine : Engine S L J s l j) (made : EngineMade) (past : List Did) (journal : J) → StandsFor engine made past
      → journal_of engine ≡ Some journal → j.order journal ≡ Some no_order
  unfolding StandsFor
  engine-quiet engine made past journal stands is = stage-quiet engine.stage made past journal stands is

-- it holds what the engine's history says
pub engine-leaves : (engine : NodeEngine) (journal : NodeJournal)
    → ((made : EngineMade) (past : List Did) → EngineStands engine made past → sections_held journal ≡ sections_of made past) → journal_of engine ≡ Some journal
    → (made : EngineMade) (past : List Did) → EngineStands engine made past → JournalStands journal (sections_of made past)
engine-leaves engine journal told whole = λ made past stands. record {
  holds = told made past stands;
  quiet = engine-quiet engine made past journal stands whole;
}

-- a crash leaves what is said of its sections, and no order
pub crashed-journal : (old new : NodeJournal) (sections : List Section) → JournalStands old sections → sections_held new ≡ crashed 0 (sections_held old)
    → Stands (order_held old) (order_held new) → JournalStands new (crashed 0 sections)
crashed-journal old new sections stood left order = record {
  holds = left ∙ ap (λ s. crashed 0 s) stood.holds;
  quiet = rw stood.quiet at order;
}
