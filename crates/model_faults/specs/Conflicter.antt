-- A member that votes for two proposals.
use Rattle.std.specs.Prelude.{ℕ, ◌+◌, List, [], ◌∷◌, ◌++◌, Option, Some}
use Rattle.std.specs.Int.{w64, to_be_bytes}
use Rattle.simplex_values.specs.declared.proposal.Proposal.{Proposal}
use Rattle.simplex_values.specs.declared.proposal.Subject.{Subject}
use Rattle.simplex_values.specs.declared.proposal.Subject.TheVariants as subjects
use Rattle.simplex_wire.specs.declared.attestation.Attestation.{Attestation}
use Rattle.model_faults.specs.declared.sent.Sent.{Sent}
use Rattle.model_faults.specs.Heard.{Heard, subject_heard, votes_to_all}
use Rattle.model_faults.specs.Words.{Words}

-- four words, the highest byte of each first
unfoldable pub drawn_payload : Words → ℕ → List ℕ
drawn_payload words place =
    to_be_bytes w64 (words place) ++ to_be_bytes w64 (words (place + 1))
    ++ to_be_bytes w64 (words (place + 2)) ++ to_be_bytes w64 (words (place + 3))

abbrev pub with_payload : Proposal → List ℕ → Proposal
with_payload proposal payload = record proposal { payload = payload }

-- a notarize or finalize is answered with the same for a drawn payload, and then with the same
abbrev pub conflicter_subjects : List ℕ → Option Subject → List Subject
conflicter_subjects payload (Some (subjects.Notarize proposal)) =
    subjects.Notarize (with_payload proposal payload) ∷ subjects.Notarize proposal ∷ []
conflicter_subjects payload (Some (subjects.Finalize proposal)) =
    subjects.Finalize (with_payload proposal payload) ∷ subjects.Finalize proposal ∷ []
conflicter_subjects payload _ = []

-- how many words such an answer takes
abbrev pub words_for : Option Subject → ℕ
words_for (Some (subjects.Notarize proposal)) = 4
words_for (Some (subjects.Finalize proposal)) = 4
words_for _ = 0

-- how many words the answers so far took
unfoldable pub conflicter_drew : List Heard → ℕ
conflicter_drew [] = 0
conflicter_drew (heard ∷ before) = conflicter_drew before + words_for (subject_heard heard)

unfoldable pub conflicter_sends : (Subject → Option Attestation) → Words → List Heard → Heard → List Sent
conflicter_sends attests words before heard =
    votes_to_all attests (conflicter_subjects (drawn_payload words (conflicter_drew before)) (subject_heard heard))
