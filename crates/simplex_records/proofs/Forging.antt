-- What is forged, packet by packet.
use Rattle.std.proofs.Common.{◌≡◌, ℕ, List, [], ◌∷◌, ◌++◌, Bool, true, false, refl, sym, ap, ◌∙◌, if◌then◌else◌, Option, Some, None, drop, get_or, length, ◌<◌, ◌+◌}
use Rattle.std.specs.Prelude.{◌&&◌, not, map, filter, flat_map, find}
use Rattle.std.specs.Option.{option_map, option_or}
use Rattle.std.proofs.lemmas.List.{append-nil}
use Rattle.simplex_values.specs.declared.proposal.Subject.{Subject}
use Rattle.simplex_wire.specs.declared.attestation.Attestation.{Attestation}
use Rattle.std.proofs.lemmas.List.Folds.{find-append}
use Rattle.simplex_types.specs.Keyed.{keyed_verifies}
use Rattle.simplex_transcript.specs.declared.entry.Packet.{Packet}
use Rattle.simplex_transcript.specs.declared.setup.Setup.{Setup}
use Rattle.model_run.specs.Kinds.{members_of, is_honest, are_honest, is_faulty_member}
use Rattle.model_run.specs.Life.{Noted}
use Rattle.model_run.specs.SentVotes.{has_sent}
use Rattle.model_run.specs.Forged.{Signed, signed, is_forged, signed_in, signed_by_faulty}
use Rattle.model_run.proofs.Honest.{no_faulty}
use Rattle.simplex_records.specs.declared.sent_votes.SentVotes.{SentVotes}
use Rattle.simplex_records.specs.Votes.{has_vote, IndexStands, VotesStand}
use Rattle.simplex_records.specs.Forgeries.{forgery_of, first_of, first_forgery, is_unsent}
use Rattle.simplex_records.proofs.Lists.{next-left}

-- ---- the first of two lists

either : (a b : Option Signed) → option_map forgery_of (option_or a b) ≡ option_or (option_map forgery_of a) (option_map forgery_of b)
either None b = refl
either (Some s) b = refl

pub first-append : (test : Signed → Bool) (xs ys : List Signed) → first_of test (xs ++ ys) ≡ option_or (first_of test xs) (first_of test ys)
first-append test xs ys = ap (λ o. option_map forgery_of o) (find-append test xs ys) ∙ either (find test xs) (find test ys)

first_if : (test : Signed → Bool) (packet : Packet) (packets : List Packet) (b : Bool)
    → first_of test (flat_map (λ (p : Packet). signed_in p.channel p.bytes) (if b then packet ∷ packets else packets))
    ≡ option_or (first_of test (flat_map (λ (p : Packet). signed_in p.channel p.bytes) (if b then packet ∷ [] else []))) (first_of test (flat_map (λ (p : Packet). signed_in p.channel p.bytes) packets))
first_if test packet packets true =
    first-append test (signed_in packet.channel packet.bytes) (flat_map (λ (p : Packet). signed_in p.channel p.bytes) packets)
    ∙ ap (λ xs. option_or (first_of test xs) (first_of test (flat_map (λ (p : Packet). signed_in p.channel p.bytes) packets))) (sym (append-nil (signed_in packet.channel packet.bytes)))
first_if test packet packets false = refl

-- one packet more
pub first-more : (test : Signed → Bool) (setup : Setup) (packet : Packet) (packets : List Packet)
    → first_of test (signed_by_faulty setup (packet ∷ packets))
    ≡ option_or (first_of test (signed_by_faulty setup (packet ∷ []))) (first_of test (signed_by_faulty setup packets))
first-more test setup packet packets =
    first_if test packet (filter (λ (p : Packet). is_faulty_member setup p.from.member) packets) (is_faulty_member setup packet.from.member)

-- a loop's step over packets, and over attestations
pub packets-left : (test : Signed → Bool) (setup : Setup) (packets : List Packet) (i : ℕ) (packet : Packet) → i < length packets → packet ≡ get_or packets i packet
    → first_of test (signed_by_faulty setup (drop i packets))
    ≡ option_or (first_of test (signed_by_faulty setup (packet ∷ []))) (first_of test (signed_by_faulty setup (drop (i + 1) packets)))
packets-left test setup packets i packet lt is =
    ap (λ ps. first_of test (signed_by_faulty setup ps)) (next-left packets i packet lt is) ∙ first-more test setup packet (drop (i + 1) packets)

pub attestations-left : (test : Signed → Bool) (subject : Subject) (attestations : List Attestation) (i : ℕ) (attestation : Attestation)
    → i < length attestations → attestation ≡ get_or attestations i attestation
    → first_of test (map (signed subject) (drop i attestations))
    ≡ option_or (first_of test (signed subject attestation ∷ [])) (first_of test (map (signed subject) (drop (i + 1) attestations)))
attestations-left test subject attestations i attestation lt is =
    ap (λ rest. first_of test (map (signed subject) rest)) (next-left attestations i attestation lt is)
    ∙ first-append test (signed subject attestation ∷ []) (map (signed subject) (drop (i + 1) attestations))

single_if : (xs : List Packet) (b : Bool) (packet : Packet) → b ≡ true
    → flat_map (λ (p : Packet). signed_in p.channel p.bytes) (if b then packet ∷ [] else []) ≡ signed_in packet.channel packet.bytes
single_if xs true packet e = append-nil (signed_in packet.channel packet.bytes)
single_if xs false packet e = cc

-- a faulty member's packet
pub faulty-signed : (setup : Setup) (packet : Packet) → is_faulty_member setup packet.from.member ≡ true
    → signed_by_faulty setup (packet ∷ []) ≡ signed_in packet.channel packet.bytes
faulty-signed setup packet e = single_if [] (is_faulty_member setup packet.from.member) packet e

-- ---- by what is kept

pub same_first : (p q : Signed → Bool) → ((s : Signed) → p s ≡ q s) → (xs : List Signed) → find p xs ≡ find q xs
same_first p q e [] = refl
same_first p q e (x ∷ xs) = rw (e x) (ap (λ o. if q x then Some x else o) (same_first p q e xs))

unsent_by : (votes : SentVotes) (setup : Setup) (before : List Noted) (s : Signed) (b : Bool) → IndexStands votes setup before → is_honest setup s.attestation.signer ≡ b
    → (b && keyed_verifies votes.scheme.key_base votes.scheme.participants s.subject s.attestation && not (has_vote votes.members.items s.attestation.signer s.subject))
    ≡ (b && keyed_verifies setup.key_base (members_of setup) s.subject s.attestation && not (has_sent before s.attestation.signer s.subject))
unsent_by votes setup before s true stand e = rw (stand.base, stand.members, stand.sent s.attestation.signer s.subject e) refl
unsent_by votes setup before s false stand e = refl

unsent-forged : (votes : SentVotes) (setup : Setup) (before : List Noted) (s : Signed) → IndexStands votes setup before → is_unsent votes setup s ≡ is_forged setup before s
unfolding is_unsent is_forged
unsent-forged votes setup before s stand = unsent_by votes setup before s (is_honest setup s.attestation.signer) stand refl

pub forgery-found : (votes : SentVotes) (setup : Setup) (before : List Noted) (packets : List Packet) → VotesStand (Some votes) setup before
    → first_of (is_unsent votes setup) (signed_by_faulty setup packets) ≡ first_forgery setup before packets
unfolding first_forgery VotesStand
forgery-found votes setup before packets stand =
    ap (λ o. option_map forgery_of o) (same_first (is_unsent votes setup) (is_forged setup before) (λ s. unsent-forged votes setup before s stand) (signed_by_faulty setup packets))

none_by_faulty : (setup : Setup) (packets : List Packet) → are_honest setup ≡ true → filter (λ (p : Packet). is_faulty_member setup p.from.member) packets ≡ []
none_by_faulty setup [] h = refl
none_by_faulty setup (packet ∷ packets) h = rw (no_faulty setup packet.from.member h) (none_by_faulty setup packets h)

-- where no member is faulty, nothing is forged
pub nothing-forged : (setup : Setup) (before : List Noted) (packets : List Packet) → VotesStand None setup before → None ≡ first_forgery setup before packets
unfolding first_forgery VotesStand
nothing-forged setup before packets honest = rw (none_by_faulty setup packets honest) refl
