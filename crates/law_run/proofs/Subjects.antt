-- What the members without an engine vote on keeps to its types, where what they heard is of bytes.
use Rattle.std.proofs.Common.{◌≡◌, ℕ, ◌+◌, ◌-◌, ◌/◌, ◌%◌, ◌^◌, ◌<◌, ◌==◌, ◌&&◌, nat_lt, not, Bool, true, false, List, [], ◌∷◌, ◌++◌, Option, Some, None, Result, Ok, Err, IfSome, option_map, option_to_list, refl, arith, ltb-true, if◌then◌else◌}
use Rattle.std.specs.Option.{option_map_or}
use Rattle.std.specs.Result.{result_ok}
use Rattle.std.specs.Int.{w64, to_be_bytes}
use Rattle.std.proofs.lemmas.Nat.{mod_below}
use Rattle.sha2.proofs.Facts256.{length-sha256}
use Rattle.simplex_values.specs.declared.plan.Channel.{Channel}
use Rattle.simplex_values.specs.declared.plan.Channel.TheVariants as channels
use Rattle.simplex_values.specs.declared.proposal.Proposal.{Proposal}
use Rattle.simplex_values.specs.declared.proposal.Subject.{Subject}
use Rattle.simplex_values.specs.declared.proposal.Subject.TheVariants as subjects
use Rattle.simplex_values.specs.declared.round.Round.{Round}
use Rattle.simplex_wire.specs.declared.certificate.Certificate.{Certificate}
use Rattle.simplex_wire.specs.declared.certificate.Certificate.TheVariants as certificates
use Rattle.simplex_wire.specs.declared.error.DecodeError.{DecodeError}
use Rattle.simplex_wire.specs.declared.vote.Vote.{Vote}
use Rattle.simplex_wire.specs.Fields.{vote_subject, subject_round}
use Rattle.simplex_wire.specs.Fits.{IsBytes, IsRaw, FitsProposal, FitsVote, FitsCertificate}
use Rattle.simplex_wire.specs.Format.{whole}
use Rattle.simplex_wire.specs.Message as format
use Rattle.simplex_wire.proofs.Certificates.{certificate_is}
use Rattle.simplex_wire.proofs.Formats.{whole_takes}
use Rattle.simplex_wire.proofs.Messages.{vote_is}
use Rattle.model_faults.specs.Conflicter.{drawn_payload, conflicter_subjects}
use Rattle.model_faults.specs.Equivocator.{Made, answered, if_answered, leads_next, was_heard, next_round}
use Rattle.model_faults.specs.Equivocator as equivocator
use Rattle.model_faults.specs.Heard.{Heard, subject_heard, certificate_heard}
use Rattle.model_faults.specs.NullifyOnly.{nullify_only_subjects}
use Rattle.model_faults.specs.Nuller.{nuller_subjects}
use Rattle.model_faults.specs.Outdated.{stored_at, if_view, outdated_subject}
use Rattle.model_faults.specs.Outdated as outdated
use Rattle.model_faults.specs.Payload.{payload_digest}
use Rattle.model_faults.specs.Reconfigurer.{subject_in_next_epoch, reconfigurer_subjects}
use Rattle.model_faults.specs.Words.{Words}
use Rattle.law_member.specs.Wire.{Fits}
use Rattle.law_run.specs.Sayings.{Each}
use Rattle.law_run.proofs.Packets.{vote_fits}
use Rattle.law_run.proofs.Good.{AllBytes, bytes-append, to_bytes, sha_bytes}

-- ---- what was heard

-- what was heard is of bytes
abbrev pub IsHeardBytes : Heard → Type 0
IsHeardBytes heard = IsBytes heard.bytes

subject_on : (c : Channel) (bytes : List ℕ) → IsBytes bytes → IfSome (subject_heard (record { channel = c; bytes = bytes })) Fits
unfolding subject_heard
subject_on channels.Vote bytes b = at (whole format.vote bytes) refl
  where
    at : (r : Result Vote DecodeError) → whole format.vote bytes ≡ r → IfSome (option_map vote_subject (result_ok r)) Fits
    at (Ok v) e = vote_fits v (whole_takes format.vote FitsVote vote_is bytes v b e).1
    at (Err error) e = tt
subject_on channels.Certificate bytes b = tt
subject_on channels.Resolver bytes b = tt

pub subject_fits : (heard : Heard) → IsHeardBytes heard → IfSome (subject_heard heard) Fits
subject_fits heard b = subject_on heard.channel heard.bytes b

certificate_on : (c : Channel) (bytes : List ℕ) → IsBytes bytes → IfSome (certificate_heard (record { channel = c; bytes = bytes })) FitsCertificate
unfolding certificate_heard
certificate_on channels.Certificate bytes b = at (whole format.certificate bytes) refl
  where
    at : (r : Result Certificate DecodeError) → whole format.certificate bytes ≡ r → IfSome (result_ok r) FitsCertificate
    at (Ok c) e = (whole_takes format.certificate FitsCertificate certificate_is bytes c b e).1
    at (Err error) e = tt
certificate_on channels.Vote bytes b = tt
certificate_on channels.Resolver bytes b = tt

-- ---- what is voted on

pub nuller_fits : (o : Option Subject) → IfSome o Fits → Each Fits (nuller_subjects o)
nuller_fits (Some (subjects.Notarize p)) f = (f.0, (f, tt))
nuller_fits (Some (subjects.Nullify r)) f = tt
nuller_fits (Some (subjects.Finalize p)) f = tt
nuller_fits None f = tt

pub nullify_only_fits : (o : Option Subject) → IfSome o Fits → Each Fits (nullify_only_subjects o)
nullify_only_fits (Some (subjects.Notarize p)) f = (f.0, tt)
nullify_only_fits (Some (subjects.Nullify r)) f = tt
nullify_only_fits (Some (subjects.Finalize p)) f = tt
nullify_only_fits None f = tt

-- a payload of four words

word_bytes : (n : ℕ) → AllBytes (to_be_bytes w64 n)
word_bytes n = (
  byte (n / 256 ^ 7),
  (byte (n / 256 ^ 6), (byte (n / 256 ^ 5), (byte (n / 256 ^ 4), (byte (n / 256 ^ 3), (byte (n / 256 ^ 2), (byte (n / 256 ^ 1), (byte n, tt))))))),
)
  where
    byte : (k : ℕ) → k % 256 < 256
    byte k = mod_below k 256 (omega arith)

four_bytes : (a b c d : ℕ) → AllBytes (to_be_bytes w64 a ++ to_be_bytes w64 b ++ to_be_bytes w64 c ++ to_be_bytes w64 d)
four_bytes a b c d =
    bytes-append (to_be_bytes w64 a ++ to_be_bytes w64 b ++ to_be_bytes w64 c) (to_be_bytes w64 d)
    (bytes-append (to_be_bytes w64 a ++ to_be_bytes w64 b) (to_be_bytes w64 c) (bytes-append (to_be_bytes w64 a) (to_be_bytes w64 b) (word_bytes a) (word_bytes b)) (word_bytes c))
    (word_bytes d)

drawn_raw : (words : Words) (place : ℕ) → IsRaw 32 (drawn_payload words place)
unfolding drawn_payload
drawn_raw words place = record { len = refl; each = to_bytes (drawn_payload words place) (four_bytes (words place) (words (place + 1)) (words (place + 2)) (words (place + 3))) }

conflicter_each : (payload : List ℕ) (o : Option Subject) → IsRaw 32 payload → IfSome o Fits → Each Fits (conflicter_subjects payload o)
conflicter_each payload (Some (subjects.Notarize p)) r f = ((f.0, (f.1.0, r)), (f, tt))
conflicter_each payload (Some (subjects.Finalize p)) r f = ((f.0, (f.1.0, r)), (f, tt))
conflicter_each payload (Some (subjects.Nullify round)) r f = tt
conflicter_each payload None r f = tt

pub conflicter_fits : (words : Words) (place : ℕ) (o : Option Subject) → IfSome o Fits → Each Fits (conflicter_subjects (drawn_payload words place) o)
conflicter_fits words place o f = conflicter_each (drawn_payload words place) o (drawn_raw words place) f

-- the next epoch

next_fits : (epoch : ℕ) → epoch < 2 ^ 64 - 1 → epoch + 1 < 2 ^ 64
next_fits epoch lt = omega (arith, lt)

subject_next : (s : Subject) → (subject_round s).epoch < 2 ^ 64 - 1 → Fits s → Fits (subject_in_next_epoch s)
subject_next (subjects.Notarize p) lt f = ((next_fits p.round.epoch lt, f.0.1), f.1)
subject_next (subjects.Nullify r) lt f = (next_fits r.epoch lt, f.1)
subject_next (subjects.Finalize p) lt f = ((next_fits p.round.epoch lt, f.0.1), f.1)

pub reconfigurer_fits : (o : Option Subject) → IfSome o Fits → Each Fits (reconfigurer_subjects o)
reconfigurer_fits None f = tt
reconfigurer_fits (Some s) f = at (nat_lt (subject_round s).epoch (2 ^ 64 - 1)) refl
  where
    at : (b : Bool) → nat_lt (subject_round s).epoch (2 ^ 64 - 1) ≡ b → Each Fits (if b then subject_in_next_epoch s ∷ [] else [])
    at true e = (subject_next s (ltb-true (subject_round s).epoch (2 ^ 64 - 1) e) f, tt)
    at false e = tt

-- what was proposed before

proposal_fits : (o : Option Subject) → IfSome o Fits → IfSome (outdated.proposal_in o) FitsProposal
proposal_fits (Some (subjects.Notarize p)) f = f
proposal_fits (Some (subjects.Finalize p)) f = f
proposal_fits (Some (subjects.Nullify r)) f = tt
proposal_fits None f = tt

view_fits : (view : ℕ) (o stored : Option Proposal) → IfSome o FitsProposal → IfSome stored FitsProposal → IfSome (if_view view o stored) FitsProposal
view_fits view None stored f g = g
view_fits view (Some p) stored f g = at (p.round.view == view)
  where
    at : (b : Bool) → IfSome (if b then Some p else stored) FitsProposal
    at true = f
    at false = g

stored_fits : (past : List Heard) (view : ℕ) → Each IsHeardBytes past → IfSome (stored_at past view) FitsProposal
unfolding stored_at
stored_fits [] view b = tt
stored_fits (heard ∷ past) view b =
    view_fits view (outdated.proposal_in (subject_heard heard)) (stored_at past view) (proposal_fits (subject_heard heard) (subject_fits heard b.0)) (stored_fits past view b.1)

notarize_each : (o : Option Proposal) → IfSome o FitsProposal → Each Fits (option_to_list (option_map (λ old. subjects.Notarize old) o))
notarize_each (Some p) f = (f, tt)
notarize_each None f = tt

finalize_each : (o : Option Proposal) → IfSome o FitsProposal → Each Fits (option_to_list (option_map (λ old. subjects.Finalize old) o))
finalize_each (Some p) f = (f, tt)
finalize_each None f = tt

pub outdated_fits : (delta : ℕ) (past : List Heard) (o : Option Subject) → Each IsHeardBytes past → Each Fits (option_to_list (outdated_subject delta past o))
outdated_fits delta past (Some (subjects.Notarize p)) b = notarize_each (stored_at past (p.round.view - delta)) (stored_fits past (p.round.view - delta) b)
outdated_fits delta past (Some (subjects.Finalize p)) b = finalize_each (stored_at past (p.round.view - delta)) (stored_fits past (p.round.view - delta) b)
outdated_fits delta past (Some (subjects.Nullify r)) b = tt
outdated_fits delta past None b = tt

-- two payloads on one parent

digest_raw : (round : Round) (parent : List ℕ) (word : ℕ) → IsRaw 32 (payload_digest round parent word)
digest_raw round parent word = record { len = length-sha256 _; each = sha_bytes _ }

-- the view of what is answered has a next one
was_low : (made : Made) (view : ℕ) → leads_next made view ≡ true → view + 1 < 2 ^ 64
was_low made view e = at (nat_lt view (2 ^ 64 - 1)) refl e
  where
    low : view < 2 ^ 64 - 1 → view + 1 < 2 ^ 64
    low lt = omega (arith, lt)

    at : (b : Bool) → nat_lt view (2 ^ 64 - 1) ≡ b
        → (b && nat_lt 1 made.members && option_map_or (λ me. made.leader (next_round made view) == me) made.me false) ≡ true → view + 1 < 2 ^ 64
    at true h k = low (ltb-true view (2 ^ 64 - 1) h)
    at false h k = cc

-- the view of what is answered, and of the next one
abbrev pub HasNext : Proposal → Type 0
HasNext p = (p.round.view < 2 ^ 64) × (p.round.view + 1 < 2 ^ 64)

certified_fits : (o : Option Certificate) → IfSome o FitsCertificate → IfSome (equivocator.proposal_in o) FitsProposal
certified_fits (Some (certificates.Notarization c)) f = f.0
certified_fits (Some (certificates.Finalization c)) f = f.0
certified_fits (Some (certificates.Nullification c)) f = tt
certified_fits None f = tt

next_of : (made : Made) (past : List Heard) (o : Option Proposal) → IfSome o FitsProposal → IfSome (if_answered made past o) HasNext
next_of made past None f = tt
next_of made past (Some p) f = at (leads_next made p.round.view) (not (was_heard past p.round.view)) refl
  where
    at : (a b : Bool) → leads_next made p.round.view ≡ a → IfSome (if a && b then Some p else None) HasNext
    at true true e = (f.0.1, was_low made p.round.view e)
    at true false e = tt
    at false b e = tt

pub answered_fits : (made : Made) (past : List Heard) (heard : Heard) → IsHeardBytes heard → IfSome (answered made past heard) HasNext
unfolding answered
answered_fits made past heard b =
    next_of made past (equivocator.proposal_in (certificate_heard heard)) (certified_fits (certificate_heard heard) (certificate_on heard.channel heard.bytes b))

pub equivocator_fits : (made : Made) (parent : Proposal) (word : ℕ) → made.epoch < 2 ^ 64 → HasNext parent
    → Fits (subjects.Notarize (record { round = next_round made parent.round.view; parent = parent.round.view; payload = payload_digest (next_round made parent.round.view) parent.payload word }))
equivocator_fits made parent word epoch next = ((epoch, next.1), (next.0, digest_raw (next_round made parent.round.view) parent.payload word))
