-- A member that votes in the next epoch.
use Rattle.std.specs.Prelude.{◌+◌, ◌-◌, ◌^◌, nat_lt, List, [], ◌∷◌, Option, Some, None, if◌then◌else◌}
use Rattle.simplex_values.specs.declared.proposal.Proposal.{Proposal}
use Rattle.simplex_values.specs.declared.proposal.Subject.{Subject}
use Rattle.simplex_values.specs.declared.proposal.Subject.TheVariants as subjects
use Rattle.simplex_values.specs.declared.round.Round.{Round}
use Rattle.simplex_wire.specs.declared.attestation.Attestation.{Attestation}
use Rattle.simplex_wire.specs.Fields.{subject_round}
use Rattle.model_faults.specs.declared.sent.Sent.{Sent}
use Rattle.model_faults.specs.Heard.{Heard, subject_heard, votes_to_all}

abbrev pub in_next_epoch : Round → Round
in_next_epoch round = record round { epoch = round.epoch + 1 }

abbrev pub proposal_in_next_epoch : Proposal → Proposal
proposal_in_next_epoch proposal = record proposal { round = in_next_epoch proposal.round }

-- the same in the next epoch
abbrev pub subject_in_next_epoch : Subject → Subject
subject_in_next_epoch (subjects.Notarize proposal) = subjects.Notarize (proposal_in_next_epoch proposal)
subject_in_next_epoch (subjects.Nullify round) = subjects.Nullify (in_next_epoch round)
subject_in_next_epoch (subjects.Finalize proposal) = subjects.Finalize (proposal_in_next_epoch proposal)

-- each vote is answered with the same of the next epoch; the last epoch has no next one, and there nothing is sent
abbrev pub reconfigurer_subjects : Option Subject → List Subject
reconfigurer_subjects (Some subject) =
    if nat_lt (subject_round subject).epoch (2 ^ 64 - 1) then subject_in_next_epoch subject ∷ [] else []
reconfigurer_subjects None = []

unfoldable pub reconfigurer_sends : (Subject → Option Attestation) → Heard → List Sent
reconfigurer_sends attests heard = votes_to_all attests (reconfigurer_subjects (subject_heard heard))
