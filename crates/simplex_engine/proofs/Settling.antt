-- Actors that lie where they were polled are settled as those that were taken out and put back.
use Rattle.std.proofs.Common.{◌≡◌, refl, Result, Ok, Err}
use Rattle.simplex_wire.specs.declared.scheme.Scheme as scheme
use Rattle.simplex_types.specs.declared.elector.Elector as elector
use Rattle.simplex_journal.specs.declared.journal.Journal as journal
use Rattle.simplex_messages.specs.declared.step.Outcome.{Outcome}
use Rattle.simplex_messages.specs.declared.step.Outcome.TheVariants as outcomes
use Rattle.simplex_engine.specs.declared.crew.Crew.{Crew}
use Rattle.simplex_engine.specs.declared.stage.Stage.TheVariants as stages
use Rattle.simplex_engine.specs.declared.input.Polled.{Polled}
use Rattle.simplex_engine.specs.declared.error.PollError.{PollError}
use Rattle.simplex_engine.specs.declared.error.PollError.TheVariants as errors
use Rattle.simplex_engine.specs.Settled.{ended_at, settled_in}
use Rattle.simplex_engine.specs.Stands.{settled, settled_with}

module _ {S L J : Type 0} {s : scheme.Ghosts S} {l : elector.Ghosts L} {j : journal.Ghosts J} where
  ends-where : (crew : Crew S L J s l j) (outcome : Outcome) → ended_at (stages.Running crew) outcome ≡ settled crew outcome
  ends-where crew outcomes.Done = refl
  ends-where crew outcomes.Idle = refl
  ends-where crew outcomes.Refused = refl
  ends-where crew outcomes.Journal = refl
  ends-where crew outcomes.Cut = refl

  pub settles-in : (crew : Crew S L J s l j) (result : Result Polled PollError) → settled_in (stages.Running crew) result ≡ settled_with crew result
  settles-in crew (Ok polled) = ends-where crew polled.outcome
  settles-in crew (Err errors.Memory) = refl
  settles-in crew (Err errors.Failed) = refl
  settles-in crew (Err errors.Stopped) = refl
  settles-in crew (Err errors.NotPending) = refl
