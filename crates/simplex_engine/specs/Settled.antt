-- What becomes of an engine's stage, where the actors lie in it.
use Rattle.std.specs.Prelude.{ℕ, Result, Ok, Err}
use Rattle.simplex_wire.specs.declared.scheme.Scheme as scheme
use Rattle.simplex_types.specs.declared.elector.Elector as elector
use Rattle.simplex_journal.specs.declared.journal.Journal as journal
use Rattle.simplex_messages.specs.declared.step.Outcome.{Outcome}
use Rattle.simplex_messages.specs.declared.step.Outcome.TheVariants as outcomes
use Rattle.simplex_engine.specs.declared.stage.Stage.{Stage}
use Rattle.simplex_engine.specs.declared.stage.Stage.TheVariants as stages
use Rattle.simplex_engine.specs.declared.input.Polled.{Polled}
use Rattle.simplex_engine.specs.declared.error.PollError.{PollError}
use Rattle.simplex_engine.specs.declared.error.PollError.TheVariants as errors

module _ {S L J : Type 0} {s : scheme.Ghosts S} {l : elector.Ghosts L} {j : journal.Ghosts J} where
  -- actors at work that were broken off
  abbrev pub halted : Stage S L J s l j → Stage S L J s l j
  halted (stages.Waiting unstarted) = stages.Waiting unstarted
  halted (stages.Running crew) = stages.Stopped crew
  halted (stages.Stopped crew) = stages.Stopped crew
  halted stages.Failed = stages.Failed

  -- the stage after a poll that ended so
  abbrev pub ended_at : Stage S L J s l j → Outcome → Stage S L J s l j
  ended_at stage outcomes.Done = stage
  ended_at stage outcomes.Idle = stage
  ended_at stage outcomes.Refused = stage
  ended_at stage outcomes.Journal = halted stage
  ended_at stage outcomes.Cut = halted stage

  -- the same, where a poll may be refused
  abbrev pub settled_in : Stage S L J s l j → Result Polled PollError → Stage S L J s l j
  settled_in stage (Ok polled) = ended_at stage polled.outcome
  settled_in stage (Err errors.Memory) = stages.Failed
  settled_in stage (Err errors.Failed) = stage
  settled_in stage (Err errors.Stopped) = stage
  settled_in stage (Err errors.NotPending) = stage

-- the clock after a poll at this one: a refused poll leaves it
abbrev pub clock_after : ℕ → Result Polled PollError → ℕ → ℕ
clock_after before (Ok polled) now = now
clock_after before (Err error) now = before
