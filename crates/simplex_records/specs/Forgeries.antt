-- What is told of an attestation that is forged.
use Rattle.std.specs.Prelude.{◌&&◌, Bool, not, List, find, Option}
use Rattle.std.specs.Option.{option_map}
use Rattle.simplex_types.specs.Keyed.{keyed_verifies}
use Rattle.simplex_transcript.specs.declared.entry.Packet.{Packet}
use Rattle.simplex_transcript.specs.declared.setup.Setup.{Setup}
use Rattle.model_run.specs.Kinds.{is_honest}
use Rattle.model_run.specs.Life.{Noted}
use Rattle.model_run.specs.Forged.{Signed, is_forged, signed_by_faulty}
use Rattle.simplex_records.specs.declared.forgery.Forgery.{Forgery}
use Rattle.simplex_records.specs.declared.sent_votes.SentVotes.{SentVotes}
use Rattle.simplex_records.specs.Votes.{has_vote}

-- whose it is, and what it is on
abbrev pub forgery_of : Signed → Forgery
forgery_of s = record { member = s.attestation.signer; subject = s.subject }

-- the first of these attestations that passes the test
abbrev pub first_of : (Signed → Bool) → List Signed → Option Forgery
first_of test all = option_map forgery_of (find test all)

-- the first in the packets that is forged, behind these entries
unfoldable pub first_forgery : Setup → List Noted → List Packet → Option Forgery
first_forgery setup before packets = first_of (is_forged setup before) (signed_by_faulty setup packets)

-- the same test by what is kept
unfoldable pub is_unsent : SentVotes → Setup → Signed → Bool
is_unsent votes setup s =
    is_honest setup s.attestation.signer
    && keyed_verifies votes.scheme.key_base votes.scheme.participants s.subject s.attestation
    && not (has_vote votes.members.items s.attestation.signer s.subject)

-- the first of these attestations that is forged by what is kept
abbrev pub first_unsent : SentVotes → Setup → List Signed → Option Forgery
first_unsent votes setup all = first_of (is_unsent votes setup) all
