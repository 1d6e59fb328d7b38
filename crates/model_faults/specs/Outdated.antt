-- A member that votes for what was proposed some views before.
use Rattle.std.specs.Prelude.{ℕ, ◌-◌, ◌==◌, List, [], ◌∷◌, Option, Some, None, option_map, option_to_list, if◌then◌else◌}
use Rattle.simplex_values.specs.declared.proposal.Proposal.{Proposal}
use Rattle.simplex_values.specs.declared.proposal.Subject.{Subject}
use Rattle.simplex_values.specs.declared.proposal.Subject.TheVariants as subjects
use Rattle.simplex_wire.specs.declared.attestation.Attestation.{Attestation}
use Rattle.model_faults.specs.declared.sent.Sent.{Sent}
use Rattle.model_faults.specs.Heard.{Heard, subject_heard, votes_to_all}

-- the proposal of a notarize or finalize
abbrev pub proposal_in : Option Subject → Option Proposal
proposal_in (Some (subjects.Notarize proposal)) = Some proposal
proposal_in (Some (subjects.Finalize proposal)) = Some proposal
proposal_in _ = None

abbrev pub if_view : ℕ → Option Proposal → Option Proposal → Option Proposal
if_view view None stored = stored
if_view view (Some proposal) stored = if proposal.round.view == view then Some proposal else stored

-- the last proposal of this view that was heard
unfoldable pub stored_at : List Heard → ℕ → Option Proposal
stored_at [] view = None
stored_at (heard ∷ before) view = if_view view (proposal_in (subject_heard heard)) (stored_at before view)

-- a vote of the kind that was heard, for what stands so many views before, where something does
abbrev pub outdated_subject : ℕ → List Heard → Option Subject → Option Subject
outdated_subject delta heard (Some (subjects.Notarize proposal)) =
    option_map (λ old. subjects.Notarize old) (stored_at heard (proposal.round.view - delta))
outdated_subject delta heard (Some (subjects.Finalize proposal)) =
    option_map (λ old. subjects.Finalize old) (stored_at heard (proposal.round.view - delta))
outdated_subject delta heard _ = None

-- what was just heard is stored before it is answered
unfoldable pub outdated_sends : (Subject → Option Attestation) → (delta : ℕ) → List Heard → Heard → List Sent
outdated_sends attests delta before heard =
    votes_to_all attests (option_to_list (outdated_subject delta (heard ∷ before) (subject_heard heard)))
