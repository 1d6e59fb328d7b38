-- A member that nullifies a view and finalizes its proposal.
use Rattle.std.specs.Prelude.{List, [], ◌∷◌, Option, Some}
use Rattle.simplex_values.specs.declared.proposal.Subject.{Subject}
use Rattle.simplex_values.specs.declared.proposal.Subject.TheVariants as subjects
use Rattle.simplex_wire.specs.declared.attestation.Attestation.{Attestation}
use Rattle.model_faults.specs.declared.sent.Sent.{Sent}
use Rattle.model_faults.specs.Heard.{Heard, subject_heard, votes_to_all}

-- a notarize is answered with a nullify of its round and a finalize of its proposal
abbrev pub nuller_subjects : Option Subject → List Subject
nuller_subjects (Some (subjects.Notarize proposal)) = subjects.Nullify proposal.round ∷ subjects.Finalize proposal ∷ []
nuller_subjects _ = []

unfoldable pub nuller_sends : (Subject → Option Attestation) → Heard → List Sent
nuller_sends attests heard = votes_to_all attests (nuller_subjects (subject_heard heard))
