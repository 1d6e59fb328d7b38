-- What is read of a message to a resolver that was spelled with a backed certificate, or with none.
use Rattle.std.proofs.Common.{◌≡◌, ℕ, zero, suc, ◌+◌, ◌*◌, ◌/◌, ◌%◌, ◌^◌, ◌<◌, ◌≤◌, nat_lt, Bool, true, false, List, [], ◌∷◌, ◌++◌, length, drop, Contains, Result, Ok, Err, refl, sym, ap, ◌∙◌, subst, inl, inr, arith, length-append, if◌then◌else◌}
use Rattle.std.specs.List.{flat_map, AllByRecursion}
use Rattle.std.specs.Int.{w64, to_be_bytes, from_be_bytes}
use Rattle.std.proofs.lemmas.Nat.{be_bytes_8, mod_below}
use Rattle.std.proofs.lemmas.List.{append-nil, drop_at}
use Rattle.simplex_values.specs.declared.plan.Channel.TheVariants as channels
use Rattle.simplex_wire.specs.declared.attestation.Attestation.{Attestation}
use Rattle.simplex_wire.specs.declared.certificate.Certificate.{Certificate}
use Rattle.simplex_wire.specs.declared.certificate.Certificate.TheVariants as certificates
use Rattle.simplex_wire.specs.declared.error.DecodeError.{DecodeError}
use Rattle.simplex_wire.specs.declared.resolver.ResolverBody.{ResolverBody}
use Rattle.simplex_wire.specs.declared.resolver.ResolverBody.TheVariants as bodies
use Rattle.simplex_wire.specs.declared.resolver.ResolverMessage.{ResolverMessage}
use Rattle.simplex_wire.specs.Fields.{certificate_signatures}
use Rattle.simplex_wire.specs.Fits.{IsBytes, FitsAttestation, FitsCertificate}
use Rattle.simplex_wire.specs.Format.{whole}
use Rattle.simplex_wire.specs.Message as format
use Rattle.simplex_wire.specs.Number.{varint_by, varint}
use Rattle.simplex_wire.specs.ResolverMessage.{counted, body_spelling, resolver_message, FitsBody, FitsResolverMessage}
use Rattle.simplex_wire.specs.ResolverMessage as wire
use Rattle.simplex_wire.proofs.Bytes.{IsBytes-drop}
use Rattle.simplex_wire.proofs.Formats.{whole_takes, whole_again, alone}
use Rattle.simplex_wire.proofs.Certificates.{certificate_is}
use Rattle.simplex_wire.proofs.Resolvers.{counted_is, resolver_message_is}
use Rattle.model_run.specs.Members.{members_of}
use Rattle.law_agreement.proofs.ListFacts.{not_in_empty, Contains-cons_cases}
use Rattle.law_run.specs.Sayings.{InBody, IsAnswer}
use Rattle.law_run.specs.Backed.{read_certificate, in_body, in_response, certificate_on}
use Rattle.law_run.proofs.Backers.{Backers}
use Rattle.law_run.proofs.Good.{IsGood, IsSized, AllBytes, to_bytes, signatures_few}

-- ---- how long a certificate's bytes are

number_long : (k n : ℕ) → length (varint_by k n) ≤ k + 1
unfolding varint_by
number_long zero n = omega arith
number_long (suc k) n = at (nat_lt n 128) (number_long k (n / 128))
  where
    at : (b : Bool) → length (varint_by k (n / 128)) ≤ k + 1 → length (if b then n ∷ [] else (n % 128 + 128) ∷ varint_by k (n / 128)) ≤ suc k + 1
    at true more = omega arith
    at false more = omega (arith, more)

-- at most forty-two bytes for each signature
list_long : (list : List Attestation) → AllByRecursion FitsAttestation list → length (flat_map format.attestation.spelling list) ≤ 42 * length list
unfolding format.attestation
list_long [] fits = omega arith
list_long (a ∷ list) fits =
    let more = list_long list fits.1 in
    let number = number_long 9 a.signer in
    let raw = fits.0.1 in
    let first = length-append (varint a.signer) a.signature in
    let all = length-append (varint a.signer ++ a.signature) (flat_map format.attestation.spelling list) in
    omega (arith, more, number, raw.len, first, all)

signatures_long : (list : List Attestation) → AllByRecursion FitsAttestation list → length (format.signatures.spelling list) ≤ 10 + 42 * length list
unfolding format.signatures
signatures_long list fits =
    let more = list_long list fits in
    let count = number_long 9 (length list) in
    let all = length-append (varint (length list)) (flat_map format.attestation.spelling list) in
    omega (arith, more, count, all)

round_long : (epoch view : ℕ) → length (varint epoch ++ varint view) ≤ 20
round_long epoch view = (let e = number_long 9 epoch in let v = number_long 9 view in let all = length-append (varint epoch) (varint view) in omega (arith, e, v, all))

proposal_long : (epoch view parent : ℕ) (payload : List ℕ) → length payload ≡ 32 → length ((varint epoch ++ varint view) ++ (varint parent ++ payload)) ≤ 62
proposal_long epoch view parent payload raw =
    let r = round_long epoch view in
    let p = number_long 9 parent in
    let inner = length-append (varint parent) payload in
    let all = length-append (varint epoch ++ varint view) (varint parent ++ payload) in
    omega (arith, r, p, inner, all, raw)

joined_long : (xs ys : List ℕ) (n k : ℕ) → length xs ≤ 62 → length ys ≤ 10 + 42 * k → k < 2 ^ 16 → length (n ∷ (xs ++ ys)) < 2 ^ 32
joined_long xs ys n k x y few = (let all = length-append xs ys in omega (arith, x, y, few, all))

few_bytes : (c : Certificate) → FitsCertificate c → length (certificate_signatures c) < 2 ^ 16 → length (format.certificate.spelling c) < 2 ^ 32
unfolding format.certificate format.notarization format.nullification format.finalization format.proposal format.round
few_bytes (certificates.Notarization c) fits few =
    let p = c.proposal in
    joined_long ((varint p.round.epoch ++ varint p.round.view) ++ (varint p.parent ++ p.payload)) (format.signatures.spelling c.certificate) 0 (length c.certificate)
    (let raw = fits.0.1.1 in proposal_long p.round.epoch p.round.view p.parent p.payload raw.len) (signatures_long c.certificate fits.1.1) few
few_bytes (certificates.Nullification c) fits few =
    let r = round_long c.round.epoch c.round.view in
    joined_long (varint c.round.epoch ++ varint c.round.view) (format.signatures.spelling c.certificate) 1 (length c.certificate) (omega (arith, r)) (signatures_long c.certificate fits.1.1) few
few_bytes (certificates.Finalization c) fits few =
    let p = c.proposal in
    joined_long ((varint p.round.epoch ++ varint p.round.view) ++ (varint p.parent ++ p.payload)) (format.signatures.spelling c.certificate) 2 (length c.certificate)
    (let raw = fits.0.1.1 in proposal_long p.round.epoch p.round.view p.parent p.payload raw.len) (signatures_long c.certificate fits.1.1) few

good_few : (backers : Backers) (c : Certificate) → IsSized backers.setting.setup → IsGood backers c → length (format.certificate.spelling c) < 2 ^ 32
good_few backers c sized g = few_bytes c g.fits (below (length (certificate_signatures c)) (members_of backers.setting.setup) (signatures_few backers.setting.setup c g.verifies) sized.fewer)
  where
    below : (k n : ℕ) → k ≤ n → n < 2 ^ 16 → k < 2 ^ 16
    below k n le lt = omega (arith, le, lt)

-- ---- the two bodies of one spelling

after_id : (a b : ℕ) (xs ys : List ℕ) → to_be_bytes w64 a ++ xs ≡ to_be_bytes w64 b ++ ys → xs ≡ ys
after_id a b xs ys e = ap (drop 8) e

rest_bytes : (xs ys : List ℕ) → IsBytes (xs ++ ys) → IsBytes ys
rest_bytes xs ys h = subst IsBytes (drop_at xs ys (length xs) refl) (IsBytes-drop (length xs) (xs ++ ys) h)

module _ (backers : Backers) (sized : IsSized backers.setting.setup) (c : Certificate) where
  -- a certificate that is read of a good one's bytes is that one
  read_good : (d : Certificate) → IsGood backers d → Contains (read_certificate (whole format.certificate (format.certificate.spelling d))) c → IsGood backers c
  read_good d g k =
      elim (Contains-cons_cases d [] c (subst (λ r. Contains (read_certificate r) c) (whole_again format.certificate FitsCertificate certificate_is d g.fits) k)) [
        | inl same ↦ subst (IsGood backers) same g
        | inr r ↦ absurd (not_in_empty c r)
      ]

  same_body : (mine read : ResolverBody) → IsBytes (body_spelling mine) → FitsBody read → body_spelling mine ≡ body_spelling read → InBody (IsGood backers) mine → Contains (in_body read) c → IsGood backers c
  same_body mine (bodies.Request view) b fits e g k = absurd (not_in_empty c k)
  same_body mine bodies.Error b fits e g k = absurd (not_in_empty c k)
  same_body (bodies.Request view) (bodies.Response ys) b fits e g k = absurd (tags (ap (drop_all 0) e))
    where
      drop_all : ℕ → List ℕ → ℕ
      drop_all d [] = d
      drop_all d (x ∷ xs) = x

      tags : ◌≡◌ {A = ℕ} 0 1 → ⊥
      tags h = omega (arith, h)
  same_body bodies.Error (bodies.Response ys) b fits e g k = absurd (tags (ap (drop_all 0) e))
    where
      drop_all : ℕ → List ℕ → ℕ
      drop_all d [] = d
      drop_all d (x ∷ xs) = x

      tags : ◌≡◌ {A = ℕ} 2 1 → ⊥
      tags h = omega (arith, h)
  same_body (bodies.Response xs) (bodies.Response ys) b fits e g k =
      let P = λ (bytes : List ℕ). IsBytes bytes × (length bytes < 2 ^ 32) in
      let spelled : counted.spelling xs ≡ counted.spelling ys = ap (drop 1) e in
      let bytes : IsBytes xs = rest_bytes (varint (length xs)) xs (IsBytes-drop 1 (1 ∷ counted.spelling xs) b) in
      let few : length xs < 2 ^ 32 = subst (λ zs. length zs < 2 ^ 32) (sym g.1) (good_few backers g.0 sized g.2) in
      let same : ys ≡ xs = (alone counted P counted_is ys xs [] fits (bytes, few) (spelled ∙ sym (append-nil (counted.spelling ys)))).0 in
      read_good g.0 g.2 (subst (λ zs. Contains (read_certificate (whole format.certificate zs)) c) (same ∙ g.1) k)

  pub answer_good : (bytes : List ℕ) → IsBytes bytes → IsAnswer (IsGood backers) bytes → Contains (certificate_on channels.Resolver bytes) c → IsGood backers c
  unfolding resolver_message wire.body
  answer_good bytes b answer k = at (whole resolver_message bytes) refl k
    where
      at : (r : Result ResolverMessage DecodeError) → whole resolver_message bytes ≡ r → Contains (in_response r) c → IsGood backers c
      at (Err error) e h = absurd (not_in_empty c h)
      at (Ok m) e h =
          let t = whole_takes resolver_message FitsResolverMessage resolver_message_is bytes m b e in
          let mine = answer.0 in
          let both : to_be_bytes w64 mine.id ++ body_spelling mine.body ≡ to_be_bytes w64 m.id ++ body_spelling m.body = sym answer.1 ∙ t.0 in
          let own : IsBytes (to_be_bytes w64 mine.id ++ body_spelling mine.body) = subst IsBytes answer.1 b in
          same_body mine.body m.body (rest_bytes (to_be_bytes w64 mine.id) (body_spelling mine.body) own) t.1.1 (after_id mine.id m.id (body_spelling mine.body) (body_spelling m.body) both) answer.2 h

-- ---- an answer is read

wide_low : (bs : List ℕ) → length bs ≡ 8 → IsBytes bs → from_be_bytes w64 bs < 2 ^ 64
wide_low bs len f = omega (arith, f 0, f 1, f 2, f 3, f 4, f 5, f 6, f 7)

wide_all : (n : ℕ) → AllBytes (to_be_bytes w64 n)
wide_all n =
    (mod_below (n / 256 ^ 7) 256 (omega arith), (mod_below (n / 256 ^ 6) 256 (omega arith), (mod_below (n / 256 ^ 5) 256 (omega arith), (mod_below (n / 256 ^ 4) 256 (omega arith), (mod_below (n / 256 ^ 3) 256 (omega arith), (mod_below (n / 256 ^ 2) 256 (omega arith), (mod_below (n / 256 ^ 1) 256 (omega arith), (mod_below n 256 (omega arith), tt))))))))

-- what is read of a number's eight bytes has the same bytes
wide_again : (n : ℕ) → (to_be_bytes w64 (from_be_bytes w64 (to_be_bytes w64 n)) ≡ to_be_bytes w64 n) × (from_be_bytes w64 (to_be_bytes w64 n) < 2 ^ 64)
wide_again n =
    let bs = to_be_bytes w64 n in
    let f : IsBytes bs = to_bytes bs (wide_all n) in
    (be_bytes_8 bs (from_be_bytes w64 bs) refl f refl, wide_low bs refl f)

module _ (backers : Backers) (sized : IsSized backers.setting.setup) where
  body_reads : (mine : ResolverBody) → IsBytes (body_spelling mine) → InBody (IsGood backers) mine → (read : ResolverBody) × (body_spelling read ≡ body_spelling mine) × FitsBody read
  body_reads (bodies.Request view) b g = (let w = wide_again view in (bodies.Request (from_be_bytes w64 (to_be_bytes w64 view)), ap (λ xs. 0 ∷ xs) w.0, (w.1, omega arith)))
  body_reads (bodies.Response xs) b g =
      let bytes : IsBytes xs = rest_bytes (varint (length xs)) xs (IsBytes-drop 1 (1 ∷ counted.spelling xs) b) in
      let few : length xs < 2 ^ 32 = subst (λ zs. length zs < 2 ^ 32) (sym g.1) (good_few backers g.0 sized g.2) in
      (bodies.Response xs, refl, (bytes, few))
  body_reads bodies.Error b g = (bodies.Error, refl, (tt, omega arith))

  pub answer_reads : (bytes : List ℕ) → IsBytes bytes → IsAnswer (IsGood backers) bytes → (m : ResolverMessage) × (whole resolver_message bytes ≡ Ok m)
  unfolding resolver_message wire.body
  answer_reads bytes b answer =
      let mine = answer.0 in
      let own : IsBytes (to_be_bytes w64 mine.id ++ body_spelling mine.body) = subst IsBytes answer.1 b in
      let r = body_reads mine.body (rest_bytes (to_be_bytes w64 mine.id) (body_spelling mine.body) own) answer.2 in
      let w = wide_again mine.id in
      let m : ResolverMessage = record { id = from_be_bytes w64 (to_be_bytes w64 mine.id); body = r.0 } in
      let same : to_be_bytes w64 m.id ++ body_spelling m.body ≡ to_be_bytes w64 mine.id ++ body_spelling mine.body =
      ap (λ xs. xs ++ body_spelling r.0) w.0 ∙ ap (λ ys. to_be_bytes w64 mine.id ++ ys) r.1 in
      (m, ap (whole resolver_message) (answer.1 ∙ sym same) ∙ whole_again resolver_message FitsResolverMessage resolver_message_is m (w.1, r.2))
