-- What a backed certificate is, and what makes one.
use Rattle.std.proofs.Common.{◌≡◌, ℕ, zero, suc, ◌+◌, ◌/◌, ◌^◌, ◌<◌, ◌≤◌, ◌&&◌, nat_lt, nat_le, Bool, true, false, List, [], ◌∷◌, ◌++◌, length, Ok, All, refl, sym, ◌∙◌, subst, arith, leb-true, ltb-true}
use Rattle.std.specs.Prelude.{slice_index}
use Rattle.std.specs.List.{list_all, AllByRecursion}
use Rattle.std.specs.Str.{bytes_eq}
use Rattle.std.specs.Int.{w32, to_be_bytes}
use Rattle.std.proofs.lemmas.Nat.{mod_below}
use Rattle.std.proofs.lemmas.List.Elements.{All-nil, All-cons, All-head, All-tail, All-weaker}
use Rattle.std.proofs.lemmas.Slice.Eq.{bytes_eq-Decides}
use Rattle.sha2.specs.Sha256.{sha256, digest_bytes, final_hash, initial_hash_256}
use Rattle.sha2.proofs.Facts256.{length-sha256}
use Rattle.simplex_values.specs.Quorum.{quorum_of}
use Rattle.simplex_values.specs.declared.proposal.Subject.{Subject}
use Rattle.simplex_wire.specs.declared.attestation.Attestation.{Attestation}
use Rattle.simplex_wire.specs.declared.certificate.Certificate.{Certificate}
use Rattle.simplex_wire.specs.declared.certificate.Certificate.TheVariants as certificates
use Rattle.simplex_wire.specs.Certified.{is_certified}
use Rattle.simplex_wire.specs.Fields.{certificate_subject, certificate_signatures}
use Rattle.simplex_wire.specs.Fits.{IsBytes, IsRaw, FitsAttestation, FitsSignatures, FitsCertificate}
use Rattle.simplex_wire.specs.Format.{whole}
use Rattle.simplex_wire.specs.Message as format
use Rattle.simplex_wire.specs.Signatures.{rises_from}
use Rattle.simplex_wire.proofs.Bytes.{ok_is}
use Rattle.simplex_wire.proofs.Formats.{whole_again}
use Rattle.simplex_wire.proofs.Certificates.{certificate_is}
use Rattle.simplex_types.specs.Keyed.{signature_of, keyed_verifies}
use Rattle.simplex_transcript.specs.declared.setup.Setup.{Setup}
use Rattle.model_run.specs.Members.{members_of}
use Rattle.law_member.specs.Wire.{Fits}
use Rattle.law_run.proofs.Backers.{Backers}
use Rattle.law_run.specs.Backed.{IsVerifying}
use Rattle.law_run.proofs.Backers.{IsBackedIn}

-- the certificate verifies, its numbers keep to their types, and it is backed
pub record IsGood (backers : Backers) (c : Certificate) : Type 0 where
  pub verifies : IsVerifying backers.setting.setup c
  pub fits : FitsCertificate c
  pub backed : IsBackedIn backers c

-- there are members, and not too many
pub record IsSized (setup : Setup) : Type 0 where
  pub some : 0 < members_of setup
  pub few : members_of setup < 2 ^ 32
  pub fewer : members_of setup < 2 ^ 16

-- ---- what a quorum's signatures are

pub both : (a b : Bool) → (a && b) ≡ true → (a ≡ true) × (b ≡ true)
both true b e = (refl, e)
both false b e = cc

pub record Certified (verifies : Attestation → Bool) (n : ℕ) (list : List Attestation) : Type 0 where
  pub quorum : quorum_of n ≤ length list
  pub rises : rises_from 0 list ≡ true
  pub each : list_all (λ (a : Attestation). nat_lt a.signer n && verifies a) list ≡ true

pub certified_parts : (verifies : Attestation → Bool) (n : ℕ) (list : List Attestation) → is_certified verifies n list ≡ true → Certified verifies n list
unfolding is_certified
certified_parts verifies n list e =
    let outer = both (nat_le (quorum_of n) (length list) && rises_from 0 list) (list_all (λ (a : Attestation). nat_lt a.signer n && verifies a) list) e in
    let inner = both (nat_le (quorum_of n) (length list)) (rises_from 0 list) outer.0 in
    record { quorum = leb-true (quorum_of n) (length list) inner.0; rises = inner.1; each = outer.1 }

pub each_verifies : (verifies : Attestation → Bool) (n : ℕ) (list : List Attestation) → list_all (λ (a : Attestation). nat_lt a.signer n && verifies a) list ≡ true
    → All (λ (a : Attestation). (a.signer < n) × (verifies a ≡ true)) list
each_verifies verifies n [] e = All-nil (λ (a : Attestation). (a.signer < n) × (verifies a ≡ true))
each_verifies verifies n (a ∷ list) e =
    let outer = both (nat_lt a.signer n && verifies a) (list_all (λ (x : Attestation). nat_lt x.signer n && verifies x) list) e in
    let inner = both (nat_lt a.signer n) (verifies a) outer.0 in
    All-cons (λ (x : Attestation). (x.signer < n) × (verifies x ≡ true)) a list (ltb-true a.signer n inner.0, inner.1) (each_verifies verifies n list outer.1)

few_signatures : (least n : ℕ) (list : List Attestation) → least ≤ n → rises_from least list ≡ true → All (λ (a : Attestation). a.signer < n) list → least + length list ≤ n
few_signatures least n [] le e each = omega (arith, le)
few_signatures least n (a ∷ list) le e each =
    let parts = both (nat_le least a.signer) (rises_from (a.signer + 1) list) e in
    let up = leb-true least a.signer parts.0 in
    let below = All-head (λ (x : Attestation). x.signer < n) a list each in
    let more = few_signatures (a.signer + 1) n list (omega (arith, below)) parts.1 (All-tail (λ (x : Attestation). x.signer < n) a list each) in
    omega (arith, up, more)

-- ---- digests

abbrev pub AllBytes : List ℕ → Type 0
AllBytes [] = Unit {0}
AllBytes (b ∷ bytes) = (b < 256) × AllBytes bytes

pub bytes-append : (xs ys : List ℕ) → AllBytes xs → AllBytes ys → AllBytes (xs ++ ys)
bytes-append [] ys h k = k
bytes-append (x ∷ xs) ys h k = (h.0, bytes-append xs ys h.1 k)

pub to_bytes : (xs : List ℕ) → AllBytes xs → IsBytes xs
to_bytes [] h i = omega arith
to_bytes (x ∷ xs) h zero = h.0
to_bytes (x ∷ xs) h (suc i) = to_bytes xs h.1 i

word_bytes : (n : ℕ) → AllBytes (to_be_bytes w32 n)
word_bytes n =
    (mod_below (n / 256 ^ 3) 256 (omega arith), (mod_below (n / 256 ^ 2) 256 (omega arith), (mod_below (n / 256 ^ 1) 256 (omega arith), (mod_below n 256 (omega arith), tt))))

digest_all : (h : List ℕ) (n : ℕ) → AllBytes (digest_bytes h n)
unfolding digest_bytes
digest_all h zero = tt
digest_all h (suc n) = bytes-append (digest_bytes h n) (to_be_bytes w32 (slice_index h n)) (digest_all h n) (word_bytes (slice_index h n))

pub sha_bytes : (m : List ℕ) → IsBytes (sha256 m)
unfolding sha256
sha_bytes m = to_bytes (digest_bytes (final_hash initial_hash_256 m) 8) (digest_all (final_hash initial_hash_256 m) 8)

pub signature_raw : (base member : ℕ) (subject : Subject) → IsRaw 32 (signature_of base member subject)
unfolding signature_of
signature_raw base member subject = record { len = length-sha256 _; each = sha_bytes _ }

verified_raw : (base n : ℕ) (subject : Subject) (a : Attestation) → keyed_verifies base n subject a ≡ true → IsRaw 32 a.signature
unfolding keyed_verifies
verified_raw base n subject a e =
    let parts = both (nat_lt a.signer n) (bytes_eq a.signature (signature_of base a.signer subject)) e in
    subst (IsRaw 32) (sym ((bytes_eq-Decides a.signature (signature_of base a.signer subject)).0 parts.1)) (signature_raw base a.signer subject)

-- ---- what fits

certificate_fits : (c : Certificate) → Fits (certificate_subject c) → FitsSignatures (certificate_signatures c) → FitsCertificate c
certificate_fits (certificates.Notarization c) s l = (s, l)
certificate_fits (certificates.Nullification c) s l = (s, l)
certificate_fits (certificates.Finalization c) s l = (s, l)

each_fits : (base n : ℕ) (subject : Subject) (list : List Attestation) → n < 2 ^ 32 → All (λ (a : Attestation). (a.signer < n) × (keyed_verifies base n subject a ≡ true)) list
    → AllByRecursion FitsAttestation list
each_fits base n subject [] few each = tt
each_fits base n subject (a ∷ list) few each =
    let P = λ (x : Attestation). (x.signer < n) × (keyed_verifies base n subject x ≡ true) in
    let first = All-head P a list each in
    ((omega (arith, few, first.0), verified_raw base n subject a first.1), each_fits base n subject list few (All-tail P a list each))

-- a certificate that verifies has at most one signature of each member
pub signatures_few : (setup : Setup) (c : Certificate) → IsVerifying setup c → length (certificate_signatures c) ≤ members_of setup
signatures_few setup c v =
    let n = members_of setup in
    let verifies = keyed_verifies setup.key_base n (certificate_subject c) in
    let list = certificate_signatures c in
    let parts = certified_parts verifies n list v in
    let each = each_verifies verifies n list parts.each in
    let below = All-weaker (λ (a : Attestation). (a.signer < n) × (verifies a ≡ true)) (λ (a : Attestation). a.signer < n) (λ a h. h.0) list each in
    let count = few_signatures 0 n list (omega arith) parts.rises below in
    omega (arith, count)

-- a certificate that verifies fits where its subject does
pub verified_fits : (setup : Setup) (c : Certificate) → IsSized setup → IsVerifying setup c → Fits (certificate_subject c) → FitsCertificate c
verified_fits setup c sized v f =
    let n = members_of setup in
    let verifies = keyed_verifies setup.key_base n (certificate_subject c) in
    let list = certificate_signatures c in
    let parts = certified_parts verifies n list v in
    let each = each_verifies verifies n list parts.each in
    let below = All-weaker (λ (a : Attestation). (a.signer < n) × (verifies a ≡ true)) (λ (a : Attestation). a.signer < n) (λ a h. h.0) list each in
    let count = few_signatures 0 n list (omega arith) parts.rises below in
    certificate_fits c f (record { rises = parts.rises; count = fewer n (length list) sized.few count }, each_fits setup.key_base n (certificate_subject c) list sized.few each)
  where
    fewer : (n k : ℕ) → n < 2 ^ 32 → 0 + k ≤ n → k < 2 ^ 32
    fewer n k few le = omega (arith, few, le)

-- what is read of a good certificate's bytes is that one
pub good_again : (backers : Backers) (c x : Certificate) → IsGood backers c → whole format.certificate (format.certificate.spelling c) ≡ Ok x → IsGood backers x
good_again backers c x g e = subst (IsGood backers) (ok_is c x (sym (whole_again format.certificate FitsCertificate certificate_is c g.fits) ∙ e)) g
