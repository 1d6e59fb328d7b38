-- A faulty member that answers, and bytes that are a forgery.
use Rattle.std.specs.Prelude.{ℕ, ◌≡◌, List, [], length, replicate, Some, Ok}
use Rattle.simplex_values.specs.declared.proposal.Proposal.{Proposal}
use Rattle.simplex_values.specs.declared.proposal.Subject.TheVariants as subjects
use Rattle.simplex_wire.specs.declared.vote.Vote.{Vote}
use Rattle.simplex_wire.specs.declared.vote.Vote.TheVariants as votes
use Rattle.simplex_wire.specs.Message as format
use Rattle.simplex_types.specs.Keyed.{signature_of}
use Rattle.simplex_transcript.specs.declared.event.Event.{Event}
use Rattle.simplex_transcript.specs.declared.setup.Setup.{Setup}
use Rattle.simplex_transcript.specs.declared.setup.MemberKind.TheVariants as kinds
use Rattle.model_run.specs.Entries.{made_of}
use Rattle.model_run.specs.Forged.{signed, first_forged}
use Rattle.model_run.specs.Life.{Noted}
use Rattle.model_run.specs.Setting.{at_epoch_genesis}
use Rattle.model_run.specs.Samples.{with_last, at, last, injects}
use Rattle.law_run.specs.EventForging.{IsNext}

-- three honest members, and a fourth that only nullifies
abbrev pub with_nullifier : Setup
with_nullifier = with_last kinds.NullifyOnly

abbrev pub first_proposal : Proposal
first_proposal = record { round = record { epoch = 0; view = 1 }; parent = 0; payload = replicate 32 0 }

-- a notarize of it under this number, with this signature
abbrev pub notarize_by : ℕ → List ℕ → Vote
notarize_by member signature = votes.Notarize
    (record { proposal = first_proposal; attestation = record { signer = member; signature = signature } })

-- bytes that are injected for the fourth member, to its own node: a notarize that is not signed
abbrev pub tells_itself : Event
tells_itself = injects 3 last (format.vote.spelling (notarize_by 3 (replicate 32 0)))

-- and to the first member: a notarize that the first member did not send, with the first member's own signature
abbrev pub signed_by_first : List ℕ
signed_by_first = signature_of with_nullifier.key_base 0 (subjects.Notarize first_proposal)

abbrev pub forges : Event
forges = injects 3 at (format.vote.spelling (notarize_by 0 signed_by_first))

-- the event makes one packet behind these entries, as the law's premises have it
abbrev pub Answers : List Noted → Event → Type 0
Answers before event = (noted : Noted) × IsNext (at_epoch_genesis with_nullifier) before event noted
    × (length noted.entry.packets ≡ 1)

-- the event makes an entry behind no entry, and what is forged in it is the first member's notarize
abbrev pub IsForgery : Event → Type 0
IsForgery event =
    (noted : Noted) × (made_of (at_epoch_genesis with_nullifier) [] event ≡ Ok noted)
    × (first_forged with_nullifier [] noted.entry
    ≡ Some (signed (subjects.Notarize first_proposal) (record { signer = 0; signature = signed_by_first })))
