-- A member that only nullifies answers a notarize, and injected bytes can be a forgery.
use Rattle.std.proofs.Common.{◌≡◌, ℕ, zero, suc, ◌<◌, ◌^◌, ◌&&◌, nat_lt, Bool, true, List, [], ◌∷◌, ◌++◌, length, replicate, find, Some, None, Ok, refl, sym, ap, ◌∙◌, subst, arith, ltb-true, map, option_map, if◌then◌else◌}
use Rattle.std.specs.List.{list_all}
use Rattle.std.specs.Result.{result_ok}
use Rattle.std.proofs.lemmas.Slice.Eq.{bytes_eq-Decides}
use Rattle.simplex_values.specs.declared.plan.Channel.TheVariants as channels
use Rattle.simplex_values.specs.declared.proposal.Subject.TheVariants as subjects
use Rattle.simplex_wire.specs.Fits.{IsBytes, IsRaw, FitsVote}
use Rattle.simplex_wire.specs.Format.{whole}
use Rattle.simplex_wire.specs.Message as format
use Rattle.simplex_wire.specs.Number.{varint_by}
use Rattle.simplex_wire.proofs.Formats.{whole_again}
use Rattle.simplex_wire.proofs.Messages.{vote_is}
use Rattle.simplex_types.specs.Keyed.{signature_of, keyed_attests, keyed_verifies}
use Rattle.simplex_transcript.specs.declared.entry.Packet.{Packet}
use Rattle.simplex_transcript.specs.declared.entry.Took.TheVariants as tooks
use Rattle.model_run.specs.Entries.{sent_by, noted_packets, made_of, entry_of}
use Rattle.model_run.specs.Forged.{Signed, signed, signed_in_vote, signed_in, is_forged, signed_by_faulty, first_forged, unless, unless_forged}
use Rattle.model_run.specs.Hearing.{heard_of}
use Rattle.model_run.specs.Life.{Noted}
use Rattle.model_run.specs.Members.{members_of}
use Rattle.model_run.specs.Mocks.{Sent, attests_of, heard_by}
use Rattle.simplex_values.specs.declared.plan.Recipients.TheVariants as recipients
use Rattle.simplex_wire.specs.Fields.{vote_subject}
use Rattle.model_run.specs.SentVotes.{has_sent}
use Rattle.law_member.specs.Wire.{Fits}
use Rattle.law_run.specs.Sayings.{Each}
use Rattle.law_run.specs.Fitting.{IsOfBytes}
use Rattle.model_run.specs.Requests.{packet_at, packet_for}
use Rattle.model_run.specs.Setting.{at_epoch_genesis}
use Rattle.model_run.specs.Samples.{at, last, first, hears_first}
use Rattle.model_run.specs.Setups.{first_bad}
use Rattle.model_run.specs.SentVotes as sent
use Rattle.model_faults.specs.Heard.{subject_heard, own_vote, votes_to_all}
use Rattle.model_faults.specs.NullifyOnly.{nullify_only_subjects, nullify_only_sends}
use Rattle.law_run.specs.Histories.{IsRun}
use Rattle.law_run.proofs.Members.{faulty_listed}
use Rattle.law_run.proofs.Good.{both, signature_raw}
use Rattle.law_run.specs.ForgingSamples.{with_nullifier, first_proposal, notarize_by, tells_itself, signed_by_first, forges, Answers, IsForgery}
use Rattle.law_run.proofs.Owned.{own_passes}
use Rattle.law_run.specs.Passing.{PassesFrom}
use Rattle.law_run.proofs.ForgingPassing.{passing_entry}

-- ---- bytes

abbrev small : ℕ → Bool
small b = nat_lt b 256

no_bytes : IsBytes []
no_bytes i = omega arith

more_bytes : (b : ℕ) (bytes : List ℕ) → b < 256 → IsBytes bytes → IsBytes (b ∷ bytes)
more_bytes b bytes lt h zero = lt
more_bytes b bytes lt h (suc i) = h i

-- numbers below 256 before bytes
behind : (front bytes : List ℕ) → list_all small front ≡ true → IsBytes bytes → IsBytes (front ++ bytes)
behind [] bytes e h = h
behind (b ∷ front) bytes e h = (let parts = both (small b) (list_all small front) e in more_bytes b (front ++ bytes) (ltb-true b 256 parts.0) (behind front bytes parts.1 h))

blank : IsRaw 32 (replicate 32 0)
blank = record { len = refl; each = behind (replicate 32 0) [] refl no_bytes }

notarize_bytes : IsBytes (format.vote.spelling (notarize_by 3 (replicate 32 0)))
unfolding format.vote format.notarize format.proposal format.round format.attestation varint_by
notarize_bytes = behind (format.vote.spelling (notarize_by 3 (replicate 32 0))) [] refl no_bytes

-- ---- what is read of a notarize's bytes is that one

first_fits : Fits (subjects.Notarize first_proposal)
first_fits = ((omega arith, omega arith), (omega arith, blank))

read_again : (member : ℕ) (signature : List ℕ) → member < 2 ^ 32 → IsRaw 32 signature → whole format.vote (format.vote.spelling (notarize_by member signature)) ≡ Ok (notarize_by member signature)
read_again member signature lt raw = whole_again format.vote FitsVote vote_is (notarize_by member signature) (first_fits, (lt, raw))

own_read : whole format.vote (format.vote.spelling (notarize_by 3 (replicate 32 0))) ≡ Ok (notarize_by 3 (replicate 32 0))
own_read = read_again 3 (replicate 32 0) (omega arith) blank

-- ---- a member that only nullifies hears its own notarize

abbrev told : Packet
told = record { from = last; channel = channels.Vote; to = last ∷ []; bytes = format.vote.spelling (notarize_by 3 (replicate 32 0)) }

abbrev pub telling : Noted
telling = noted_packets [] tells_itself last None (told ∷ [])

told_made : made_of (at_epoch_genesis with_nullifier) [] tells_itself ≡ Ok telling
unfolding made_of
told_made = refl

told_passes : Each (PassesFrom with_nullifier []) (told ∷ [])
told_passes = (
  (λ f. own_passes with_nullifier [] 3 told.bytes (faulty_listed with_nullifier 3 f) (record { vote = notarize_by 3 (replicate 32 0); spelled = refl; own = (refl, (omega arith, blank)); fits = first_fits })),
  tt,
)

told_taken : entry_of (at_epoch_genesis with_nullifier) [] tells_itself ≡ Ok telling
unfolding entry_of unless_forged
told_taken = ap (unless_forged with_nullifier []) told_made ∙ ap (λ o. unless o telling) (passing_entry with_nullifier [] telling.entry told_passes)

-- its answer
abbrev nullified : List Sent
nullified = votes_to_all (attests_of with_nullifier 3) (nullify_only_subjects (subject_heard (heard_of told)))

abbrev answering : Noted
answering = noted_packets (telling ∷ []) (hears_first last) last (Some (tooks.Packet first)) (map (sent_by with_nullifier last) nullified)

answer_made : made_of (at_epoch_genesis with_nullifier) (telling ∷ []) (hears_first last) ≡ Ok answering
unfolding made_of heard_by nullify_only_sends packet_for packet_at
answer_made = refl

abbrev answer_bytes : List ℕ
answer_bytes = 1 ∷ 0 ∷ 1 ∷ 3 ∷ signature_of with_nullifier.key_base 3 (subjects.Nullify first_proposal.round)

-- it nullifies the view of the proposal
subject_told : subject_heard (heard_of told) ≡ Some (subjects.Notarize first_proposal)
unfolding subject_heard
subject_told = ap (λ r. option_map vote_subject (result_ok r)) own_read

abbrev one_sent : Sent
one_sent = record { channel = channels.Vote; recipients = recipients.All; bytes = answer_bytes }

one_answer : nullified ≡ one_sent ∷ []
unfolding votes_to_all own_vote keyed_attests format.vote format.nullify format.round format.attestation varint_by
one_answer = ap (λ o. votes_to_all (attests_of with_nullifier 3) (nullify_only_subjects o)) subject_told

typed_answers : (list : List Sent) → list ≡ one_sent ∷ [] → Each IsOfBytes (map (sent_by with_nullifier last) list)
typed_answers list e =
    subst (λ (xs : List Sent). Each IsOfBytes (map (sent_by with_nullifier last) xs)) (sym e)
    (behind (1 ∷ 0 ∷ 1 ∷ 3 ∷ []) (signature_of with_nullifier.key_base 3 (subjects.Nullify first_proposal.round)) refl (signature_raw with_nullifier.key_base 3 (subjects.Nullify first_proposal.round)).each, tt)

limits_kept : first_bad with_nullifier ≡ None
unfolding first_bad
limits_kept = refl

pub answers : Answers (telling ∷ []) (hears_first last)
unfolding IsRun
answers = (
  answering,
  record {
    limits = limits_kept;
    ran = (tells_itself, told_taken, tt);
    made = answer_made;
    typed = (record { handed = tt; calls = tt; bytes = typed_answers nullified one_answer }, (record { handed = tt; calls = tt; bytes = (notarize_bytes, tt) }, tt));
  },
  ap (λ (xs : List Sent). length (map (sent_by with_nullifier last) xs)) one_answer,
)

-- ---- bytes that are a forgery

signature_first : IsRaw 32 signed_by_first
signature_first = signature_raw with_nullifier.key_base 0 (subjects.Notarize first_proposal)

abbrev shown : Packet
shown = record { from = last; channel = channels.Vote; to = at ∷ []; bytes = format.vote.spelling (notarize_by 0 signed_by_first) }

abbrev showing : Noted
showing = noted_packets [] forges last None (shown ∷ [])

abbrev its_own : Signed
its_own = signed (subjects.Notarize first_proposal) (record { signer = 0; signature = signed_by_first })

shown_made : made_of (at_epoch_genesis with_nullifier) [] forges ≡ Ok showing
unfolding made_of
shown_made = refl

first_verifies : keyed_verifies with_nullifier.key_base (members_of with_nullifier) (subjects.Notarize first_proposal) (record { signer = 0; signature = signed_by_first }) ≡ true
unfolding keyed_verifies
first_verifies = (bytes_eq-Decides signed_by_first signed_by_first).1 refl

is_a_forgery : is_forged with_nullifier [] its_own ≡ true
unfolding is_forged has_sent sent.sent_votes
is_a_forgery = ap (λ (b : Bool). b && true) first_verifies

shown_signed : signed_by_faulty with_nullifier (shown ∷ []) ≡ its_own ∷ []
unfolding signed_in
shown_signed = ap (λ r. signed_in_vote r ++ []) (read_again 0 signed_by_first (omega arith) signature_first)

pub injected_forges : IsForgery forges
unfolding first_forged
injected_forges = (
  showing,
  shown_made,
  ap (find (is_forged with_nullifier [])) shown_signed ∙ ap (λ (b : Bool). if b then Some its_own else None) is_a_forgery,
)
