-- That own votes name the setup's epoch.
use Rattle.std.specs.Prelude.{ℕ, ◌≡◌, List}
use Rattle.simplex_wire.specs.declared.artifact.Artifact.{Artifact}
use Rattle.simplex_wire.specs.declared.artifact.Artifact.TheVariants as artifacts
use Rattle.simplex_messages.specs.declared.batcher.BatcherInput.{BatcherInput}
use Rattle.simplex_messages.specs.declared.batcher.BatcherInput.TheVariants as input
use Rattle.simplex_messages.specs.declared.batcher.Message.TheVariants as batcher
use Rattle.simplex_messages.specs.declared.voter.Message.TheVariants as voter
use Rattle.simplex_messages.specs.declared.handed.Handed.{Handed}
use Rattle.simplex_messages.specs.declared.handed.Handed.TheVariants as handed
use Rattle.simplex_messages.specs.declared.call.Call.{Call}
use Rattle.simplex_messages.specs.declared.call.Call.TheVariants as calls
use Rattle.model_steps.specs.Batcher.{Timed, vote_epoch}
use Rattle.simplex_transcript.specs.declared.setup.Setup.{Setup}
use Rattle.model_run.specs.Life.{Noted}
use Rattle.law_run.specs.Sayings.{Each}

-- an own vote that is appended names it
abbrev pub RecordNames : ℕ → Artifact → Type 0
RecordNames epoch (artifacts.Notarize v) = v.proposal.round.epoch ≡ epoch
RecordNames epoch (artifacts.Nullify v) = v.round.epoch ≡ epoch
RecordNames epoch (artifacts.Finalize v) = v.proposal.round.epoch ≡ epoch
RecordNames epoch _ = Unit {0}

abbrev pub CallNames : ℕ → Call → Type 0
CallNames epoch (calls.Append section artifact) = RecordNames epoch artifact
CallNames epoch _ = Unit {0}

-- so it is with each of the run
abbrev pub OwnName : Setup → List Noted → Type 0
OwnName setup noted = Each (λ (n : Noted). Each (CallNames setup.epoch) n.entry.calls) noted

-- of what a batcher takes the own votes name it, and of what it hands on the proposals
abbrev pub InputNames : ℕ → BatcherInput → Type 0
InputNames epoch (input.Mail (batcher.Constructed vote)) = vote_epoch vote ≡ epoch
InputNames epoch _ = Unit {0}

abbrev pub IsMailOf : ℕ → Timed → Type 0
IsMailOf epoch given = InputNames epoch given.input

abbrev pub IsProposalOf : ℕ → Handed → Type 0
IsProposalOf epoch (handed.Voter (voter.Proposal p)) = p.round.epoch ≡ epoch
IsProposalOf epoch _ = Unit {0}
