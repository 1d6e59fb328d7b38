-- A member that votes under another member's number.
use Rattle.std.specs.Prelude.{ℕ, ◌==◌, List, [], ◌∷◌, option_map, Option, Some, if◌then◌else◌}
use Rattle.simplex_values.specs.declared.proposal.Subject.{Subject}
use Rattle.simplex_values.specs.declared.proposal.Subject.TheVariants as subjects
use Rattle.simplex_wire.specs.declared.attestation.Attestation.{Attestation}
use Rattle.model_faults.specs.declared.sent.Sent.{Sent}
use Rattle.model_faults.specs.Heard.{Heard, subject_heard, votes_to_all}

-- member 0's number, or 1 in place of it
abbrev pub another_number : ℕ → ℕ
another_number member = if member == 0 then 1 else 0

-- the own signature, under another number
abbrev pub as_another : Attestation → Attestation
as_another a = record a { signer = another_number a.signer }

-- a notarize or finalize is answered with the same
abbrev pub impersonator_subjects : Option Subject → List Subject
impersonator_subjects (Some (subjects.Notarize proposal)) = subjects.Notarize proposal ∷ []
impersonator_subjects (Some (subjects.Finalize proposal)) = subjects.Finalize proposal ∷ []
impersonator_subjects _ = []

unfoldable pub impersonator_sends : (Subject → Option Attestation) → Heard → List Sent
impersonator_sends attests heard =
    votes_to_all (λ subject. option_map as_another (attests subject)) (impersonator_subjects (subject_heard heard))
