-- Which steps of an engine are its voter's.
use Rattle.std.specs.Prelude.{ℕ, ◌≡◌, false, List, [], filter, Some, None}
use Rattle.simplex_messages.specs.declared.handed.Handed.TheVariants as handed
use Rattle.simplex_messages.specs.declared.step.Stop.{Stop}
use Rattle.simplex_messages.specs.declared.voter.VoterInput.{VoterInput}
use Rattle.simplex_messages.specs.declared.voter.VoterInput.TheVariants as inputs
use Rattle.simplex_transcript.specs.declared.event.StepSource.{StepSource}
use Rattle.simplex_transcript.specs.declared.event.StepSource.TheVariants as sources
use Rattle.model_steps.specs.Performed.{is_of_journal}
use Rattle.model_steps.specs.VoterLife.{Stepped, step_given}
use Rattle.model_steps.specs.Engine.{EngineMade, Did, Taken, Took, given_to_voter, voter_in, voter_past, is_start}

-- its voter took nothing, and nothing is the voter's of what came of it
pub record IsQuiet (did : Did) : Type 0 where
  pub given : given_to_voter did ≡ None
  pub start : is_start did.taken ≡ false
  pub asked : did.out.asked ≡ []
  pub dropped : did.out.dropped ≡ []
  pub journal : filter is_of_journal did.out.calls ≡ []

-- what was taken from the source is this input of the voter
abbrev pub IsInput : StepSource → Taken → VoterInput → Type 0
IsInput source taken (inputs.Mail message) =
    (source ≡ sources.Voter) × (taken ≡ Took sources.Voter (Some (handed.Voter message)))
IsInput source taken inputs.Timer = (source ≡ sources.Timer) × (taken ≡ Took sources.Timer None)
IsInput source taken inputs.Propose = (source ≡ sources.Propose) × (taken ≡ Took sources.Propose None)
IsInput source taken inputs.Verify = (source ≡ sources.Verify) × (taken ≡ Took sources.Verify None)
IsInput source taken inputs.Certify = (source ≡ sources.Certify) × (taken ≡ Took sources.Certify None)

-- its voter stepped on an input, and this came of it
pub record IsVoters (made : EngineMade) (past : List Did) (source : StepSource)
    (now : ℕ) (stop : Stop) (did : Did) : Type 0 where
  pub input : VoterInput
  pub of : IsInput source did.taken input
  pub given : given_to_voter did ≡ Some (Stepped input now stop)
  pub start : is_start did.taken ≡ false
  pub out : did.out ≡ (step_given (voter_in made past) (voter_past past) input now stop).out
  pub outcome : did.outcome ≡ (step_given (voter_in made past) (voter_past past) input now stop).outcome
