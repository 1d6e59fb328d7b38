-- How long the spellings of messages are.
use Rattle.std.proofs.Common.{ℕ, suc, zero, ◌≡◌, ◌<◌, ◌≤◌, ◌+◌, ◌*◌, ◌/◌, ◌%◌, ◌^◌, Bool, true, false, List, [], ◌∷◌, length, nat_lt, if◌then◌else◌, refl, arith, length-append}
use Rattle.std.specs.List.{flat_map, AllByRecursion}
use Rattle.std.proofs.lemmas.Grind.{common_steps}
use Rattle.std.proofs.Math.Nat.{div-lt_iff_lt-mul, pow-suc}
use Rattle.simplex_values.specs.declared.round.Round.{Round}
use Rattle.simplex_values.specs.declared.proposal.Proposal.{Proposal}
use Rattle.simplex_wire.specs.declared.attestation.Attestation.{Attestation}
use Rattle.simplex_wire.specs.declared.vote.Vote.{Vote}
use Rattle.simplex_wire.specs.declared.vote.Vote.TheVariants as votes
use Rattle.simplex_wire.specs.declared.certificate.Certificate.{Certificate}
use Rattle.simplex_wire.specs.declared.certificate.Certificate.TheVariants as certificates
use Rattle.simplex_wire.specs.declared.resolver.ResolverBody.TheVariants.{Request, Response, Error}
use Rattle.simplex_wire.specs.Number.{varint_by, varint}
use Rattle.simplex_wire.specs.Message.{round, proposal, attestation, notarize, nullify, finalize, vote, signatures, notarization, nullification, finalization, certificate}
use Rattle.simplex_wire.specs.Fields.{certificate_signatures}
use Rattle.simplex_wire.specs.ResolverMessage.{resolver_message, body, wide}
use Rattle.simplex_wire.specs.Fits.{FitsRound, FitsProposal, FitsAttestation, FitsVote, FitsCertificate}
use Rattle.simplex_report.specs.Limit.{longest_payload}

one_or_more : (k n j : ℕ) (b : Bool) → (b ≡ false → length (varint_by k (n / 128)) ≤ j) → length (if b then n ∷ [] else (n % 128 + 128) ∷ varint_by k (n / 128)) ≤ suc j
one_or_more k n j true rest = omega arith
one_or_more k n j false rest = let h : length (varint_by k (n / 128)) ≤ j = rest refl in omega arith

-- a number below a power of 128 takes so many bytes
length-varint_by : (k n j : ℕ) → n < 128 ^ suc j → length (varint_by k n) ≤ suc j
unfolding varint_by
length-varint_by zero n j below = omega arith
length-varint_by (suc k) n zero below =
    let small : nat_lt n 128 ≡ true = grind (arith, common_steps) in
    rw small (omega arith)
length-varint_by (suc k) n (suc j) below =
    one_or_more k n (suc j) (nat_lt n 128)
    (λ big. length-varint_by k (n / 128) j ((div-lt_iff_lt-mul {k = 128} {x = n} {y = 128 ^ suc j} (omega arith)).1 (let h : n < 128 ^ suc j * 128 = rw (← pow-suc 128 (suc j)) below in h)))

length-varint64 : (n : ℕ) → n < 2 ^ 64 → length (varint n) ≤ 10
length-varint64 n below = length-varint_by 9 n 9 (omega arith)

length-varint32 : (n : ℕ) → n < 2 ^ 32 → length (varint n) ≤ 5
length-varint32 n below = length-varint_by 9 n 4 (omega arith)

length-round : (r : Round) → FitsRound r → length (round.spelling r) ≤ 20
unfolding round
length-round r fits =
    let epoch : length (varint r.epoch) ≤ 10 = length-varint64 r.epoch fits.0 in
    let view : length (varint r.view) ≤ 10 = length-varint64 r.view fits.1 in
    simp length-append (omega arith)

length-proposal : (p : Proposal) → FitsProposal p → length (proposal.spelling p) ≤ 62
unfolding proposal
length-proposal p fits =
    let at : length (round.spelling p.round) ≤ 20 = length-round p.round fits.0 in
    let parent : length (varint p.parent) ≤ 10 = length-varint64 p.parent fits.1.0 in
    let payload : length p.payload ≡ 32 = fits.1.1.len in
    simp length-append (omega arith)

length-attestation : (a : Attestation) → FitsAttestation a → length (attestation.spelling a) ≤ 37
unfolding attestation
length-attestation a fits =
    let signer : length (varint a.signer) ≤ 5 = length-varint32 a.signer fits.0 in
    let signature : length a.signature ≡ 32 = fits.1.len in
    simp length-append (omega arith)

length-attestations : (list : List Attestation) → AllByRecursion FitsAttestation list → length (flat_map attestation.spelling list) ≤ 37 * length list
length-attestations [] fits = omega arith
length-attestations (a ∷ list) fits =
    let first : length (attestation.spelling a) ≤ 37 = length-attestation a fits.0 in
    let rest : length (flat_map attestation.spelling list) ≤ 37 * length list = length-attestations list fits.1 in
    simp length-append (omega arith)

length-signatures : (n : ℕ) (list : List Attestation) → n ≤ 1024 → length list ≤ n → AllByRecursion FitsAttestation list → length (signatures.spelling list) ≤ 5 + 37 * n
unfolding signatures
length-signatures n list most within fits =
    let count : length (varint (length list)) ≤ 5 = length-varint32 (length list) (omega arith) in
    let rest : length (flat_map attestation.spelling list) ≤ 37 * length list = length-attestations list fits in
    simp length-append (omega arith)

-- a certificate of at most n attestations
length-certificate : (n : ℕ) (c : Certificate) → n ≤ 1024 → length (certificate_signatures c) ≤ n → FitsCertificate c → length (certificate.spelling c) ≤ 68 + 37 * n
unfolding certificate notarization nullification finalization
length-certificate n (certificates.Notarization c) most within fits =
    let about : length (proposal.spelling c.proposal) ≤ 62 = length-proposal c.proposal fits.0 in
    let signed : length (signatures.spelling c.certificate) ≤ 5 + 37 * n = length-signatures n c.certificate most within fits.1.1 in
    simp length-append (omega arith)
length-certificate n (certificates.Nullification c) most within fits =
    let about : length (round.spelling c.round) ≤ 20 = length-round c.round fits.0 in
    let signed : length (signatures.spelling c.certificate) ≤ 5 + 37 * n = length-signatures n c.certificate most within fits.1.1 in
    simp length-append (omega arith)
length-certificate n (certificates.Finalization c) most within fits =
    let about : length (proposal.spelling c.proposal) ≤ 62 = length-proposal c.proposal fits.0 in
    let signed : length (signatures.spelling c.certificate) ≤ 5 + 37 * n = length-signatures n c.certificate most within fits.1.1 in
    simp length-append (omega arith)

-- each certificate is within the limit
pub certificate_within : (n : ℕ) (c : Certificate) → n ≤ 1024 → length (certificate_signatures c) ≤ n → FitsCertificate c → length (certificate.spelling c) ≤ longest_payload n
certificate_within n c most within fits = let h : length (certificate.spelling c) ≤ 68 + 37 * n = length-certificate n c most within fits in omega arith

-- each vote is
pub vote_within : (n : ℕ) (v : Vote) → 0 < n → FitsVote v → length (vote.spelling v) ≤ longest_payload n
unfolding vote notarize nullify finalize
vote_within n (votes.Notarize v) some fits =
    let about : length (proposal.spelling v.proposal) ≤ 62 = length-proposal v.proposal fits.0 in
    let signed : length (attestation.spelling v.attestation) ≤ 37 = length-attestation v.attestation fits.1 in
    simp length-append (omega arith)
vote_within n (votes.Nullify v) some fits =
    let about : length (round.spelling v.round) ≤ 20 = length-round v.round fits.0 in
    let signed : length (attestation.spelling v.attestation) ≤ 37 = length-attestation v.attestation fits.1 in
    simp length-append (omega arith)
vote_within n (votes.Finalize v) some fits =
    let about : length (proposal.spelling v.proposal) ≤ 62 = length-proposal v.proposal fits.0 in
    let signed : length (attestation.spelling v.attestation) ≤ 37 = length-attestation v.attestation fits.1 in
    simp length-append (omega arith)

length-wide : (m : ℕ) → length (wide.spelling m) ≡ 8
length-wide m = refl

-- each request is, and each error
pub request_within : (n id view : ℕ) → length (resolver_message.spelling (record { id = id; body = Request view })) ≤ longest_payload n
unfolding resolver_message body
request_within n id view =
    let head : length (wide.spelling id) ≡ 8 = length-wide id in
    let asked : length (wide.spelling view) ≡ 8 = length-wide view in
    simp length-append (omega arith)

pub error_within : (n id : ℕ) → length (resolver_message.spelling (record { id = id; body = Error })) ≤ longest_payload n
unfolding resolver_message body
error_within n id =
    let head : length (wide.spelling id) ≡ 8 = length-wide id in
    simp length-append (omega arith)

-- each response with a certificate is: none is longer
pub response_within : (n id : ℕ) (c : Certificate) → n ≤ 1024 → length (certificate_signatures c) ≤ n → FitsCertificate c → length (resolver_message.spelling (record { id = id; body = Response (certificate.spelling c) })) ≤ longest_payload n
unfolding resolver_message body
response_within n id c most within fits =
    let head : length (wide.spelling id) ≡ 8 = length-wide id in
    let bytes : length (certificate.spelling c) ≤ 68 + 37 * n = length-certificate n c most within fits in
    let count : length (varint (length (certificate.spelling c))) ≤ 5 = length-varint32 (length (certificate.spelling c)) (omega arith) in
    simp length-append (omega arith)
