-- A member that nullifies each view, and does nothing else.
use Rattle.std.specs.Prelude.{List, [], ◌∷◌, Option, Some}
use Rattle.simplex_values.specs.declared.proposal.Subject.{Subject}
use Rattle.simplex_values.specs.declared.proposal.Subject.TheVariants as subjects
use Rattle.simplex_wire.specs.declared.attestation.Attestation.{Attestation}
use Rattle.model_faults.specs.declared.sent.Sent.{Sent}
use Rattle.model_faults.specs.Heard.{Heard, subject_heard, votes_to_all}

-- a notarize is answered with a nullify of its round
abbrev pub nullify_only_subjects : Option Subject → List Subject
nullify_only_subjects (Some (subjects.Notarize proposal)) = subjects.Nullify proposal.round ∷ []
nullify_only_subjects _ = []

unfoldable pub nullify_only_sends : (Subject → Option Attestation) → Heard → List Sent
nullify_only_sends attests heard = votes_to_all attests (nullify_only_subjects (subject_heard heard))
