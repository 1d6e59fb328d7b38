-- A round makes a certificate of a quorum that it has.
use Rattle.std.proofs.Common.{◌≡◌, ℕ, zero, suc, ◌≤◌, ◌⊎◌, inl, inr, Bool, true, false, if◌then◌else◌, List, [], ◌∷◌, All, map, filter, length, refl, sym, subst, ap, ◌∙◌, arith, nat_lt, nat_le}
use Rattle.std.specs.Prelude.{◌&&◌, ◌||◌, ◌==◌, not, find, Option, Some, None}
use Rattle.std.specs.Option.{IfSome, is_some, is_none, option_or, option_map, option_and_then}
use Rattle.std.proofs.lemmas.Bool.{le-leb, le-ltb}
use Rattle.std.proofs.lemmas.List.{length-map}
use Rattle.std.proofs.lemmas.List.Elements.{All-head, All-tail, All-weaker}
use Rattle.simplex_values.specs.Quorum.{quorum_of}
use Rattle.simplex_values.specs.declared.round.Round.{Round}
use Rattle.simplex_values.specs.declared.proposal.Proposal.{Proposal}
use Rattle.simplex_values.specs.declared.proposal.Subject.{Subject}
use Rattle.simplex_values.specs.declared.proposal.Subject.TheVariants as subjects
use Rattle.simplex_wire.specs.declared.attestation.Attestation.{Attestation}
use Rattle.simplex_wire.specs.declared.certificate.Notarization.{Notarization}
use Rattle.simplex_wire.specs.declared.certificate.Finalization.{Finalization}
use Rattle.simplex_wire.specs.declared.certificate.Certificate.{Certificate}
use Rattle.simplex_wire.specs.declared.certificate.Certificate.TheVariants as certificates
use Rattle.simplex_wire.specs.declared.certificate.CertificateKind.{CertificateKind}
use Rattle.simplex_wire.specs.declared.certificate.CertificateKind.TheVariants as kinds
use Rattle.simplex_wire.specs.declared.vote.Vote.{Vote}
use Rattle.simplex_wire.specs.Fields.{vote_subject, vote_attestation, certificate_subject}
use Rattle.simplex_round.specs.declared.ballot.Ballot.{Ballot}
use Rattle.simplex_round.specs.Votes.{is_same_subject, vote_signer, vote_proposal, certificate_on}
use Rattle.simplex_round.specs.Known.{ballot_of}
use Rattle.simplex_round.specs.Known as rules
use Rattle.simplex_round.specs.Forwarding.{is_held, proposal_of, leader_proposal}
use Rattle.simplex_round.specs.Assembly.{Work, was_found, is_candidate, is_unchecked, is_valid, checked, valid_on, assembled_on, subject_of, work_on, some_work, work_if_any, work_of, first_work, after_assembly, after_work}
use Rattle.model_steps.specs.Batcher.{Made}
use Rattle.law_member.specs.Certificates.{IsSchemeOfMembers}
use Rattle.law_member.specs.Quorums.{verifies_on, verifying_on}
use Rattle.law_member.proofs.Choices.{if_case, some_more, some_at, all_any}
use Rattle.law_member.proofs.Ballots.{GoodBallot, GoodKnown}
use Rattle.law_member.proofs.Certifying.{subjects-same, on_case, checked_ballots, assembled_lists}
use Rattle.law_member.proofs.Hearing.{side_good, with_side_good}
use Rattle.law_member.proofs.Rounds.{certificate_good}

-- ---- counts

kept_same : {X : Type 0} (c : Bool) (x y : X) (xs ys : List X) → length xs ≡ length ys → length (if c then x ∷ xs else xs) ≡ length (if c then y ∷ ys else ys)
kept_same true x y xs ys e = ap (λ (n : ℕ). suc n) e
kept_same false x y xs ys e = e

same_count : {X : Type 0} (p q : X → Bool) (f : X → X) (xs : List X) → All (λ x. p (f x) ≡ q x) xs → length (filter p (map f xs)) ≡ length (filter q xs)
same_count p q f [] all = refl
same_count p q f (x ∷ xs) all =
    subst (λ (c : Bool). length (if c then f x ∷ filter p (map f xs) else filter p (map f xs)) ≡ length (if q x then x ∷ filter q xs else filter q xs))
    (sym (All-head (λ x. p (f x) ≡ q x) x xs all))
    (kept_same (q x) (f x) x (filter p (map f xs)) (filter q xs) (same_count p q f xs (All-tail (λ x. p (f x) ≡ q x) x xs all)))

kept_less : {X : Type 0} (c d : Bool) (x : X) (xs ys : List X) → (c ≡ true → d ≡ true) → length xs ≤ length ys → length (if c then x ∷ xs else xs) ≤ length (if d then x ∷ ys else ys)
kept_less true true x xs ys h le = omega (arith, le)
kept_less true false x xs ys h le = absurd (cc (h refl))
kept_less false true x xs ys h le = omega (arith, le)
kept_less false false x xs ys h le = le

count_less : {X : Type 0} (p q : X → Bool) (xs : List X) → All (λ x. q x ≡ true → p x ≡ true) xs → length (filter q xs) ≤ length (filter p xs)
count_less p q [] all = omega arith
count_less p q (x ∷ xs) all =
    kept_less (q x) (p x) x (filter q xs) (filter p xs) (All-head (λ x. q x ≡ true → p x ≡ true) x xs all)
    (count_less p q xs (All-tail (λ x. q x ≡ true → p x ≡ true) x xs all))

-- ---- tests

unfound : (same valid : Bool) (o : Option Bool) → (same && is_none o) ≡ false → (same ≡ true → (w : Bool) → o ≡ Some w → valid ≡ w)
    → (same && was_found true o) ≡ (same && valid)
unfound true valid None e h = absurd (cc)
unfound true valid (Some w) e h = sym (h refl w refl)
unfound false valid o e h = refl

stays : (same valid : Bool) (o : Option Bool) → (same ≡ true → (w : Bool) → o ≡ Some w → valid ≡ w) → (same && valid) ≡ true
    → (same && not (was_found false o)) ≡ true
stays false valid o h e = e
stays true valid None h e = refl
stays true valid (Some true) h e = refl
stays true valid (Some false) h e = absurd (cc (e, h refl false refl))

and_never : (a : Bool) → (a && false) ≡ false
and_never true = refl
and_never false = refl

neither : (a b : Bool) → a ≡ false → b ≡ false → (a || b) ≡ true → ⊥
neither true b e f h = cc
neither false true e f h = cc
neither false false e f h = cc

second_false : (a b : Bool) → (a || b) ≡ false → b ≡ false
second_false true b e = absurd (cc)
second_false false b e = e

some_false : {X : Type 0} (o : Option X) (x : X) → o ≡ Some x → is_some o ≡ false → ⊥
some_false None x e h = cc
some_false (Some y) x e h = cc

-- ---- the votes of a round

module _ (made : Made) (accepted : Vote → Type 0) (subject : Subject) where
  abbrev Good : Ballot → Type 0
  Good = GoodBallot made.scheme.verifies accepted

  found_is : (b : Ballot) → Good b → is_same_subject (vote_subject b.vote) subject ≡ true → (w : Bool) → b.found ≡ Some w
      → made.scheme.verifies subject (vote_attestation b.vote) ≡ w
  found_is b good same w found =
      subst (λ (s : Subject). made.scheme.verifies s (vote_attestation b.vote) ≡ w) (subjects-same (vote_subject b.vote) subject same) (good.checked w found)

  valid_is : (b : Ballot) → Good b → is_valid subject (checked made.scheme subject b) ≡ verifies_on made subject b
  unfolding is_valid checked is_unchecked
  valid_is b good =
      let same = is_same_subject (vote_subject b.vote) subject in
      let valid = made.scheme.verifies subject (vote_attestation b.vote) in
      if_case (λ (c : Ballot). (is_same_subject (vote_subject c.vote) subject && was_found true c.found) ≡ (same && valid)) (same && is_none b.found)
      (record b { found = Some valid }) b
      (λ h. refl)
      (λ h. unfound same valid b.found h (found_is b good))

  candidate_is : (b : Ballot) → Good b → verifies_on made subject b ≡ true → is_candidate subject b ≡ true
  unfolding is_candidate
  candidate_is b good h =
      stays (is_same_subject (vote_subject b.vote) subject) (made.scheme.verifies subject (vote_attestation b.vote)) b.found (found_is b good) h

  valid_count : (bs : List Ballot) → All Good bs → length (valid_on made.scheme subject bs) ≡ verifying_on made subject bs
  unfolding valid_on
  valid_count bs all =
      length-map (filter (is_valid subject) (map (checked made.scheme subject) bs)) (λ (b : Ballot). vote_attestation b.vote)
      ∙ same_count (is_valid subject) (verifies_on made subject) (checked made.scheme subject) bs
      (All-weaker Good (λ b. is_valid subject (checked made.scheme subject b) ≡ verifies_on made subject b) valid_is bs all)

  candidate_count : (bs : List Ballot) → All Good bs → verifying_on made subject bs ≤ length (filter (is_candidate subject) bs)
  candidate_count bs all =
      count_less (is_candidate subject) (verifies_on made subject) bs
      (All-weaker Good (λ b. verifies_on made subject b ≡ true → is_candidate subject b ≡ true) candidate_is bs all)

-- ---- checking once is enough

module _ (made : Made) (subject : Subject) where
  checked_vote : (b : Ballot) → (checked made.scheme subject b).vote ≡ b.vote
  unfolding checked
  checked_vote b =
      if_case (λ (c : Ballot). c.vote ≡ b.vote) (is_unchecked subject b) (record b { found = Some (made.scheme.verifies subject (vote_attestation b.vote)) }) b (λ h. refl) (λ h. refl)

  checked_found : (b : Ballot) → is_unchecked subject (checked made.scheme subject b) ≡ false
  unfolding checked is_unchecked
  checked_found b =
      let same = is_same_subject (vote_subject b.vote) subject in
      if_case (λ (c : Ballot). (is_same_subject (vote_subject c.vote) subject && is_none c.found) ≡ false) (same && is_none b.found)
      (record b { found = Some (made.scheme.verifies subject (vote_attestation b.vote)) }) b (λ h. and_never same) (λ h. h)

  left_alone : (b : Ballot) → is_unchecked subject b ≡ false → checked made.scheme subject b ≡ b
  unfolding checked
  left_alone b found =
      if_case (λ (c : Ballot). c ≡ b) (is_unchecked subject b) (record b { found = Some (made.scheme.verifies subject (vote_attestation b.vote)) }) b
      (λ h. absurd (cc (h, found))) (λ h. refl)

  pub checked_again : (bs : List Ballot) → map (checked made.scheme subject) (map (checked made.scheme subject) bs) ≡ map (checked made.scheme subject) bs
  checked_again [] = refl
  checked_again (b ∷ bs) = rw (left_alone (checked made.scheme subject b) (checked_found b), checked_again bs) refl

  pub none_unchecked : (bs : List Ballot) → length (filter (is_unchecked subject) (map (checked made.scheme subject) bs)) ≡ 0
  none_unchecked [] = refl
  none_unchecked (b ∷ bs) =
      let rest = filter (is_unchecked subject) (map (checked made.scheme subject) bs) in
      subst (λ (c : Bool). length (if c then checked made.scheme subject b ∷ rest else rest) ≡ 0) (sym (checked_found b)) (none_unchecked bs)

  pub checked_count : (other : Subject) (bs : List Ballot) → verifying_on made other (map (checked made.scheme subject) bs) ≡ verifying_on made other bs
  checked_count other bs =
      same_count (verifies_on made other) (verifies_on made other) (checked made.scheme subject) bs
      (all_any (λ (b : Ballot). verifies_on made other (checked made.scheme subject b) ≡ verifies_on made other b) bs
      (λ b. ap (λ (v : Vote). is_same_subject (vote_subject v) other && made.scheme.verifies other (vote_attestation v)) (checked_vote b)))

  checked_leader : (bs : List Ballot) (member : ℕ)
      → option_and_then (λ (b : Ballot). vote_proposal b.vote) (ballot_of (map (checked made.scheme subject) bs) member) ≡ option_and_then (λ (b : Ballot). vote_proposal b.vote) (ballot_of bs member)
  unfolding ballot_of
  checked_leader [] member = refl
  checked_leader (b ∷ bs) member =
      let one = checked made.scheme subject b in
      let there = find (λ (x : Ballot). vote_signer x.vote == member) (map (checked made.scheme subject) bs) in
      let here = find (λ (x : Ballot). vote_signer x.vote == member) bs in
      subst (λ (v : Vote). option_and_then (λ (x : Ballot). vote_proposal x.vote) (if vote_signer v == member then Some one else there)
      ≡ option_and_then (λ (x : Ballot). vote_proposal x.vote) (if vote_signer b.vote == member then Some b else here)) (sym (checked_vote b))
      (picked (vote_signer b.vote == member) one b there here (checked_vote b) (checked_leader bs member))
    where
      picked : (c : Bool) (x y : Ballot) (o p : Option Ballot) → x.vote ≡ y.vote
          → option_and_then (λ (z : Ballot). vote_proposal z.vote) o ≡ option_and_then (λ (z : Ballot). vote_proposal z.vote) p
          → option_and_then (λ (z : Ballot). vote_proposal z.vote) (if c then Some x else o) ≡ option_and_then (λ (z : Ballot). vote_proposal z.vote) (if c then Some y else p)
      picked true x y o p e rest = ap vote_proposal e
      picked false x y o p e rest = rest

  pub checked_proposal : (known : rules.Known) → proposal_of (record known { notarizes = map (checked made.scheme subject) known.notarizes }) ≡ proposal_of known
  unfolding proposal_of leader_proposal
  checked_proposal known =
      ap (λ (o : Option Proposal). option_or (option_map (λ (c : Notarization). c.proposal) known.notarization) (option_or (option_map (λ (c : Finalization). c.proposal) known.finalization) o))
      (led known.leader)
    where
      led : (leader : Option ℕ)
          → option_and_then (λ m. option_and_then (λ (b : Ballot). vote_proposal b.vote) (ballot_of (map (checked made.scheme subject) known.notarizes) m)) leader
          ≡ option_and_then (λ m. option_and_then (λ (b : Ballot). vote_proposal b.vote) (ballot_of known.notarizes m)) leader
      led None = refl
      led (Some m) = checked_leader known.notarizes m

  pub notarized_proposal : (known : rules.Known) (c : Notarization) (p : Proposal) (valid : List Attestation) → is_some known.notarization ≡ false
      → certificates.Notarization c ≡ certificate_on (subjects.Notarize p) valid
      → proposal_of (record known { notarizes = map (checked made.scheme subject) known.notarizes; notarization = option_or known.notarization (Some c) }) ≡ Some p
  unfolding proposal_of
  notarized_proposal known c p valid none is =
      let same : c ≡ record { proposal = p; certificate = valid } = cc is in
      first known.notarization (option_or (option_map (λ (n : Finalization). n.proposal) known.finalization) (leader_proposal (record known { notarizes = map (checked made.scheme subject) known.notarizes; notarization = option_or known.notarization (Some c) }))) none
      ∙ ap (λ (n : Notarization). Some n.proposal) same
    where
      first : (o : Option Notarization) (rest : Option Proposal) → is_some o ≡ false → option_or (option_map (λ (n : Notarization). n.proposal) (option_or o (Some c))) rest ≡ Some c.proposal
      first None rest none = refl
      first (Some n) rest none = absurd (cc none)

or_some : {X : Type 0} (o : Option X) (x : X) → is_some (option_or o (Some x)) ≡ true
or_some None x = refl
or_some (Some y) x = refl

nothing_done : (n : ℕ) (o : Option Certificate) → n ≡ 0 → o ≡ None → (nat_lt 0 n || is_some o) ≡ true → ⊥
nothing_done n (Some c) e f h = cc
nothing_done n None e f h = let none : (nat_lt 0 0 || false) ≡ true = subst (λ (m : ℕ). (nat_lt 0 m || false) ≡ true) e h in cc

notarize_alone : (o : Option Proposal) (s : Subject) → option_map subjects.Notarize o ≡ Some s → (p : Proposal) × (s ≡ subjects.Notarize p) × (o ≡ Some p)
notarize_alone None s e = absurd (cc e)
notarize_alone (Some p) s e = (p, cc e, refl)

nullify_alone : (r : Round) (s : Subject) → Some (subjects.Nullify r) ≡ Some s → s ≡ subjects.Nullify r
nullify_alone r s e = cc e

and_then_at : {X Y : Type 0} (Q : Y → Type 0) (f : X → Option Y) (o : Option X) → ((x : X) → o ≡ Some x → IfSome (f x) Q) → IfSome (option_and_then f o) Q
and_then_at Q f None turn = tt
and_then_at Q f (Some x) turn = turn x refl

-- ---- the work of a round

-- there is work, and it makes a certificate on the subject
pub record Makes (subject : Subject) (o : Option Work) : Type 0 where
  pub work : Work
  pub is : o ≡ Some work
  pub certificate : Certificate
  pub gives : work.certificate ≡ Some certificate
  pub about : certificate_subject certificate ≡ subject

-- a certificate of the kind is to be made on the subject
pub record Waits (made : Made) (accepted : Vote → Type 0) (round : rules.Made) (known : rules.Known) (kind : CertificateKind) (subject : Subject) : Type 0 where
  pub about : subject_of round known kind ≡ Some subject
  pub none_held : is_held known kind ≡ false
  pub quorum : quorum_of made.members ≤ verifying_on made subject (rules.side_of known kind)
  pub good : GoodKnown made.scheme.verifies accepted known

-- one of so many turns of work makes it
abbrev pub Reaches : Made → rules.Made → Subject → ℕ → rules.Known → Type 0
Reaches made round subject zero known = ⊥
Reaches made round subject (suc n) known =
    Makes subject (first_work round made.scheme known) ⊎ Reaches made round subject n (after_work known (first_work round made.scheme known))

either_makes : (subject : Subject) (o p : Option Work) → Makes subject o → Makes subject (option_or o p)
either_makes subject None p m = absurd (cc (m.is))
either_makes subject (Some w) p m = m

some_makes : (subject : Subject) (work : Work) (c : Certificate) → work.certificate ≡ Some c → certificate_subject c ≡ subject → Makes subject (some_work work)
some_makes subject work c gives about =
    if_case (Makes subject) (nat_lt 0 work.processed || is_some work.certificate) (Some work) None
    (λ h. record { work = work; is = refl; certificate = c; gives = gives; about = about })
    (λ h. absurd (some_false work.certificate c gives (second_false (nat_lt 0 work.processed) (is_some work.certificate) h)))

module _ (made : Made) (accepted : Vote → Type 0) (round : rules.Made) (fits : IsSchemeOfMembers made) (recovers : made.scheme.recovers ≡ true) (assembles : round.skipped ≡ false) (quorum : round.quorum ≡ quorum_of made.members) where
  assembled_is : (subject : Subject) (valid : List Attestation) → quorum_of made.members ≤ length valid
      → assembled_on round made.scheme subject valid ≡ Some (certificate_on subject valid)
  unfolding assembled_on
  assembled_is subject valid enough =
      let wide : nat_le round.quorum (length valid) ≡ true = le-leb round.quorum (length valid) (subst (λ (q : ℕ). q ≤ length valid) (sym quorum) enough) in
      let full : nat_lt (length valid) (quorum_of made.scheme.members) ≡ false =
      le-ltb (length valid) (quorum_of made.scheme.members) (subst (λ (n : ℕ). quorum_of n ≤ length valid) (sym fits.members) enough) in
      rw (wide, full, recovers) refl

  any_makes : (kind : CertificateKind) (bs : List Ballot) (subject : Subject) → All (GoodBallot made.scheme.verifies accepted) bs
      → quorum_of made.members ≤ verifying_on made subject bs → Makes subject (work_if_any round made.scheme kind bs subject)
  unfolding work_if_any work_on
  any_makes kind bs subject good enough =
      let work = work_on round made.scheme kind subject bs in
      let valid = valid_on made.scheme subject bs in
      let many : quorum_of made.members ≤ length valid =
      subst (λ (n : ℕ). quorum_of made.members ≤ n) (sym (valid_count made accepted subject bs good)) enough in
      let candidates = length (filter (is_candidate subject) bs) in
      let wide : round.quorum ≤ candidates = omega (arith, quorum, enough, candidate_count made accepted subject bs good) in
      if_case (Makes subject) (nat_le round.quorum candidates) (some_work work) None
      (λ h. some_makes subject work (certificate_on subject valid) (assembled_is subject valid many)
      (on_case (λ (s : Subject) (list : List Attestation). s ≡ subject) subject valid refl))
      (λ h. absurd (cc (h, le-leb round.quorum candidates wide)))

  pub kind_makes : (known : rules.Known) (kind : CertificateKind) (subject : Subject) → Waits made accepted round known kind subject
      → Makes subject (work_of round made.scheme known kind)
  unfolding work_of
  kind_makes known kind subject waits =
      let work : Subject → Option Work = work_if_any round made.scheme kind (rules.side_of known kind) in
      if_case (Makes subject) (round.skipped || is_held known kind) None (option_and_then work (subject_of round known kind))
      (λ h. absurd (neither round.skipped (is_held known kind) assembles waits.none_held h))
      (λ h. subst (λ (o : Option Subject). Makes subject (option_and_then work o)) (sym waits.about)
      (any_makes kind (rules.side_of known kind) subject (side_good made.scheme.verifies accepted known kind waits.good).each waits.quorum))

  notarizing_reaches : (n : ℕ) (known : rules.Known) (subject : Subject) → Waits made accepted round known kinds.Notarization subject → Reaches made round subject (suc n) known
  unfolding first_work
  notarizing_reaches n known subject waits =
      inl (either_makes subject (work_of round made.scheme known kinds.Notarization)
      (option_or (work_of round made.scheme known kinds.Nullification) (work_of round made.scheme known kinds.Finalization))
      (kind_makes known kinds.Notarization subject waits))

  -- ---- when a kind was worked

  -- what is known then: its candidates on the subject were checked, and this was assembled of them
  abbrev next : rules.Known → CertificateKind → Subject → Option Certificate → rules.Known
  next known kind subject o = after_assembly (rules.with_side known kind (map (checked made.scheme subject) (rules.side_of known kind))) o

  abbrev assembled_of : rules.Known → CertificateKind → Subject → Option Certificate
  assembled_of known kind subject = assembled_on round made.scheme subject (valid_on made.scheme subject (rules.side_of known kind))

  record IsWork (known : rules.Known) (kind : CertificateKind) (work : Work) : Type 0 where
    subject : Subject
    about : subject_of round known kind ≡ Some subject
    none_held : is_held known kind ≡ false
    is : work ≡ work_on round made.scheme kind subject (rules.side_of known kind)

  any_is : (kind : CertificateKind) (bs : List Ballot) (subject : Subject) → IfSome (work_if_any round made.scheme kind bs subject) (λ w. w ≡ work_on round made.scheme kind subject bs)
  unfolding work_if_any
  any_is kind bs subject =
      let work = work_on round made.scheme kind subject bs in
      if_case (λ (o : Option Work). IfSome o (λ w. w ≡ work)) (nat_le round.quorum (length (filter (is_candidate subject) bs))) (some_work work) None
      (λ h. if_case (λ (o : Option Work). IfSome o (λ w. w ≡ work)) (nat_lt 0 work.processed || is_some work.certificate) (Some work) None (λ g. refl) (λ g. tt))
      (λ h. tt)

  work_is : (known : rules.Known) (kind : CertificateKind) → IfSome (work_of round made.scheme known kind) (IsWork known kind)
  unfolding work_of
  work_is known kind =
      let work : Subject → Option Work = work_if_any round made.scheme kind (rules.side_of known kind) in
      if_case (λ (o : Option Work). IfSome o (IsWork known kind)) (round.skipped || is_held known kind) None (option_and_then work (subject_of round known kind))
      (λ h. tt)
      (λ h. and_then_at (IsWork known kind) work (subject_of round known kind)
      (λ s e. some_more (λ (w : Work). w ≡ work_on round made.scheme kind s (rules.side_of known kind)) (IsWork known kind) (work s)
      (λ w is. record { subject = s; about = e; none_held = second_false round.skipped (is_held known kind) h; is = is })
      (any_is kind (rules.side_of known kind) s)))

  after_is : (known : rules.Known) (kind : CertificateKind) (work : Work) (is : IsWork known kind work)
      → after_work known (Some work) ≡ next known kind is.subject (assembled_of known kind is.subject)
  unfolding after_work work_on
  after_is known kind work is = ap (λ (w : Work). after_work known (Some w)) is.is

  next_good : (known : rules.Known) (kind : CertificateKind) (subject : Subject) (o : Option Certificate) → GoodKnown made.scheme.verifies accepted known
      → GoodKnown made.scheme.verifies accepted (next known kind subject o)
  next_good known kind subject o good =
      let bs = map (checked made.scheme subject) (rules.side_of known kind) in
      assembly_good o (rules.with_side known kind bs)
      (with_side_good made.scheme.verifies accepted known kind bs good
      (checked_ballots made accepted subject (rules.side_of known kind) (side_good made.scheme.verifies accepted known kind good)))
    where
      assembly_good : (o : Option Certificate) (k : rules.Known) → GoodKnown made.scheme.verifies accepted k → GoodKnown made.scheme.verifies accepted (after_assembly k o)
      assembly_good None k g = g
      assembly_good (Some c) k g = certificate_good made.scheme.verifies accepted k c g

  -- nothing is left to do of a kind that was worked
  any_quiet : (kind : CertificateKind) (subject : Subject) (bs : List Ballot) → assembled_on round made.scheme subject (valid_on made.scheme subject bs) ≡ None
      → work_if_any round made.scheme kind (map (checked made.scheme subject) bs) subject ≡ None
  unfolding work_if_any work_on valid_on
  any_quiet kind subject bs none =
      let again = map (checked made.scheme subject) bs in
      let work = work_on round made.scheme kind subject again in
      let still : assembled_on round made.scheme subject (valid_on made.scheme subject again) ≡ None =
      subst (λ (xs : List Ballot). assembled_on round made.scheme subject (map (λ (b : Ballot). vote_attestation b.vote) (filter (is_valid subject) xs)) ≡ None)
      (sym (checked_again made subject bs)) none in
      if_case (λ (o : Option Work). o ≡ None) (nat_le round.quorum (length (filter (is_candidate subject) again))) (some_work work) None
      (λ h. if_case (λ (o : Option Work). o ≡ None) (nat_lt 0 work.processed || is_some work.certificate) (Some work) None
      (λ g. absurd (nothing_done work.processed work.certificate (none_unchecked made subject bs) still g)) (λ g. refl))
      (λ h. refl)

  quiet : (known later : rules.Known) (kind : CertificateKind) (subject : Subject) → subject_of round later kind ≡ Some subject
      → rules.side_of later kind ≡ map (checked made.scheme subject) (rules.side_of known kind)
      → (is_held later kind ≡ true) ⊎ (assembled_of known kind subject ≡ None) → work_of round made.scheme later kind ≡ None
  unfolding work_of
  quiet known later kind subject about side end =
      let work : List Ballot → Subject → Option Work = λ bs. work_if_any round made.scheme kind bs in
      if_case (λ (o : Option Work). o ≡ None) (round.skipped || is_held later kind) None (option_and_then (work (rules.side_of later kind)) (subject_of round later kind))
      (λ h. refl)
      (λ h. elim end [
        | inl held ↦ absurd (cc (held, second_false round.skipped (is_held later kind) h))
        | inr none ↦
            subst (λ (o : Option Subject). option_and_then (work (rules.side_of later kind)) o ≡ None) (sym about)
            (subst (λ (bs : List Ballot). work bs subject ≡ None) (sym side) (any_quiet kind subject (rules.side_of known kind) none))
      ])

  -- ---- behind the notarizes

  record AfterNotarizes (known later : rules.Known) : Type 0 where
    quiet : work_of round made.scheme later kinds.Notarization ≡ None
    nullify : (subject : Subject) → Waits made accepted round known kinds.Nullification subject → Waits made accepted round later kinds.Nullification subject
    finalize : (subject : Subject) → Waits made accepted round known kinds.Finalization subject → Waits made accepted round later kinds.Finalization subject

  notarizes_done : (known : rules.Known) (p : Proposal) (o : Option Certificate) → proposal_of known ≡ Some p → is_held known kinds.Notarization ≡ false
      → o ≡ assembled_of known kinds.Notarization (subjects.Notarize p)
      → IfSome o (λ c. c ≡ certificate_on (subjects.Notarize p) (valid_on made.scheme (subjects.Notarize p) known.notarizes))
      → GoodKnown made.scheme.verifies accepted known → AfterNotarizes known (next known kinds.Notarization (subjects.Notarize p) o)
  unfolding subject_of
  notarizes_done known p None is none assembled lists good =
      let subject = subjects.Notarize p in
      let later = next known kinds.Notarization subject None in
      let same : proposal_of later ≡ proposal_of known = checked_proposal made subject known in
      record {
        quiet = quiet known later kinds.Notarization subject (ap (option_map subjects.Notarize) (same ∙ is)) refl (inr (sym assembled));
        nullify = λ s w. record { about = w.about; none_held = w.none_held; quorum = w.quorum; good = next_good known kinds.Notarization subject None good };
        finalize = λ s w. record { about = ap (option_map subjects.Finalize) same ∙ w.about; none_held = w.none_held; quorum = w.quorum; good = next_good known kinds.Notarization subject None good };
      }
  notarizes_done known p (Some (certificates.Notarization c)) is none assembled lists good =
      let subject = subjects.Notarize p in
      let o : Option Certificate = Some (certificates.Notarization c) in
      let later = next known kinds.Notarization subject o in
      let same : proposal_of later ≡ Some p = notarized_proposal made subject known c p (valid_on made.scheme subject known.notarizes) none lists in
      record {
        quiet = quiet known later kinds.Notarization subject (ap (option_map subjects.Notarize) same) refl (inl (or_some known.notarization c));
        nullify = λ s w. record { about = w.about; none_held = w.none_held; quorum = w.quorum; good = next_good known kinds.Notarization subject o good };
        finalize = λ s w. record { about = ap (option_map subjects.Finalize) (same ∙ sym is) ∙ w.about; none_held = w.none_held; quorum = w.quorum; good = next_good known kinds.Notarization subject o good };
      }
  notarizes_done known p (Some (certificates.Nullification c)) is none assembled lists good = absurd (cc (lists))
  notarizes_done known p (Some (certificates.Finalization c)) is none assembled lists good = absurd (cc (lists))

  after_notarizes : (known : rules.Known) (work : Work) → IsWork known kinds.Notarization work → GoodKnown made.scheme.verifies accepted known
      → AfterNotarizes known (after_work known (Some work))
  unfolding subject_of
  after_notarizes known work is good =
      let (p, same, proposal) = notarize_alone (proposal_of known) is.subject is.about in
      subst (AfterNotarizes known) (sym (after_is known kinds.Notarization work is))
      (subst (λ (s : Subject). AfterNotarizes known (next known kinds.Notarization s (assembled_of known kinds.Notarization s))) (sym same)
      (notarizes_done known p (assembled_of known kinds.Notarization (subjects.Notarize p)) proposal is.none_held refl
      (some_more (λ (c : Certificate). (c ≡ certificate_on (subjects.Notarize p) (valid_on made.scheme (subjects.Notarize p) known.notarizes)) × (quorum_of made.scheme.members ≤ length (valid_on made.scheme (subjects.Notarize p) known.notarizes)))
      (λ (c : Certificate). c ≡ certificate_on (subjects.Notarize p) (valid_on made.scheme (subjects.Notarize p) known.notarizes)) (assembled_of known kinds.Notarization (subjects.Notarize p)) (λ c both. both.0)
      (assembled_lists made accepted round (subjects.Notarize p) (valid_on made.scheme (subjects.Notarize p) known.notarizes)))
      good))

  -- ---- behind the nullifies

  record AfterNullifies (known later : rules.Known) : Type 0 where
    quiet : work_of round made.scheme later kinds.Nullification ≡ None
    before : work_of round made.scheme known kinds.Notarization ≡ None → work_of round made.scheme later kinds.Notarization ≡ None
    finalize : (subject : Subject) → Waits made accepted round known kinds.Finalization subject → Waits made accepted round later kinds.Finalization subject

  nullifies_done : (known : rules.Known) (subject : Subject) (o : Option Certificate) → subject ≡ subjects.Nullify round.round
      → o ≡ assembled_of known kinds.Nullification subject
      → IfSome o (λ c. c ≡ certificate_on subject (valid_on made.scheme subject known.others))
      → GoodKnown made.scheme.verifies accepted known → AfterNullifies known (next known kinds.Nullification subject o)
  unfolding subject_of proposal_of leader_proposal work_of
  nullifies_done known subject None is assembled lists good = record {
    quiet = quiet known (next known kinds.Nullification subject None) kinds.Nullification subject (ap (λ (s : Subject). Some s) (sym is)) refl (inr (sym assembled));
    before = λ h. h;
    finalize = λ s w. record { about = w.about; none_held = w.none_held; quorum = rw (checked_count made subject s known.others) w.quorum; good = next_good known kinds.Nullification subject None good };
  }
  nullifies_done known subject (Some (certificates.Nullification c)) is assembled lists good = record {
    quiet = quiet known (next known kinds.Nullification subject (Some (certificates.Nullification c))) kinds.Nullification subject (ap (λ (s : Subject). Some s) (sym is)) refl
        (inl (or_some known.nullification c));
    before = λ h. h;
    finalize = λ s w. record {
      about = w.about;
      none_held = w.none_held;
      quorum = rw (checked_count made subject s known.others) w.quorum;
      good = next_good known kinds.Nullification subject (Some (certificates.Nullification c)) good;
    };
  }
  nullifies_done known subject (Some (certificates.Notarization c)) is assembled lists good =
      absurd (cc (subst (λ (s : Subject). certificates.Notarization c ≡ certificate_on s (valid_on made.scheme subject known.others)) is lists))
  nullifies_done known subject (Some (certificates.Finalization c)) is assembled lists good =
      absurd (cc (subst (λ (s : Subject). certificates.Finalization c ≡ certificate_on s (valid_on made.scheme subject known.others)) is lists))

  after_nullifies : (known : rules.Known) (work : Work) → IsWork known kinds.Nullification work → GoodKnown made.scheme.verifies accepted known
      → AfterNullifies known (after_work known (Some work))
  unfolding subject_of
  after_nullifies known work is good =
      let subject = is.subject in
      let valid = valid_on made.scheme subject known.others in
      subst (AfterNullifies known) (sym (after_is known kinds.Nullification work is))
      (nullifies_done known subject (assembled_of known kinds.Nullification subject) (nullify_alone round.round subject is.about) refl
      (some_more (λ (c : Certificate). (c ≡ certificate_on subject valid) × (quorum_of made.scheme.members ≤ length valid)) (λ (c : Certificate). c ≡ certificate_on subject valid)
      (assembled_of known kinds.Nullification subject) (λ c both. both.0) (assembled_lists made accepted round subject valid))
      good)

  -- ---- so many turns

  first_is : (known : rules.Known) (work : Work) → work_of round made.scheme known kinds.Notarization ≡ Some work → first_work round made.scheme known ≡ Some work
  unfolding first_work
  first_is known work e =
      ap (λ (o : Option Work). option_or o (option_or (work_of round made.scheme known kinds.Nullification) (work_of round made.scheme known kinds.Finalization))) e

  second_is : (known : rules.Known) (work : Work) → work_of round made.scheme known kinds.Notarization ≡ None → work_of round made.scheme known kinds.Nullification ≡ Some work
      → first_work round made.scheme known ≡ Some work
  unfolding first_work
  second_is known work e f = rw (e, f) refl

  nullifying_at : (n : ℕ) (known : rules.Known) (subject : Subject) → work_of round made.scheme known kinds.Notarization ≡ None
      → Waits made accepted round known kinds.Nullification subject → Reaches made round subject (suc n) known
  unfolding first_work
  nullifying_at n known subject none waits =
      inl (subst (λ (o : Option Work). Makes subject (option_or o (option_or (work_of round made.scheme known kinds.Nullification) (work_of round made.scheme known kinds.Finalization)))) (sym none)
      (either_makes subject (work_of round made.scheme known kinds.Nullification) (work_of round made.scheme known kinds.Finalization)
      (kind_makes known kinds.Nullification subject waits)))

  finalizing_at : (n : ℕ) (known : rules.Known) (subject : Subject) → work_of round made.scheme known kinds.Notarization ≡ None → work_of round made.scheme known kinds.Nullification ≡ None
      → Waits made accepted round known kinds.Finalization subject → Reaches made round subject (suc n) known
  unfolding first_work
  finalizing_at n known subject none neither waits =
      inl (subst (λ (o : Option Work). Makes subject (option_or o (option_or (work_of round made.scheme known kinds.Nullification) (work_of round made.scheme known kinds.Finalization)))) (sym none)
      (subst (λ (o : Option Work). Makes subject (option_or o (work_of round made.scheme known kinds.Finalization))) (sym neither)
      (kind_makes known kinds.Finalization subject waits)))

  nullifying_reaches : (n : ℕ) (known : rules.Known) (subject : Subject) → Waits made accepted round known kinds.Nullification subject → Reaches made round subject (suc (suc n)) known
  nullifying_reaches n known subject waits = by (work_of round made.scheme known kinds.Notarization) refl
    where
      by : (o : Option Work) → work_of round made.scheme known kinds.Notarization ≡ o → Reaches made round subject (suc (suc n)) known
      by None e = nullifying_at (suc n) known subject e waits
      by (Some work) e =
          let is = some_at (IsWork known kinds.Notarization) (work_of round made.scheme known kinds.Notarization) work e (work_is known kinds.Notarization) in
          let after = after_notarizes known work is waits.good in
          inr (subst (λ (o : Option Work). Reaches made round subject (suc n) (after_work known o)) (sym (first_is known work e))
          (nullifying_at n (after_work known (Some work)) subject after.quiet (after.nullify subject waits)))

  finalizing_next : (n : ℕ) (known : rules.Known) (subject : Subject) → work_of round made.scheme known kinds.Notarization ≡ None
      → Waits made accepted round known kinds.Finalization subject → Reaches made round subject (suc (suc n)) known
  finalizing_next n known subject none waits = by (work_of round made.scheme known kinds.Nullification) refl
    where
      by : (o : Option Work) → work_of round made.scheme known kinds.Nullification ≡ o → Reaches made round subject (suc (suc n)) known
      by None e = finalizing_at (suc n) known subject none e waits
      by (Some work) e =
          let is = some_at (IsWork known kinds.Nullification) (work_of round made.scheme known kinds.Nullification) work e (work_is known kinds.Nullification) in
          let after = after_nullifies known work is waits.good in
          inr (subst (λ (o : Option Work). Reaches made round subject (suc n) (after_work known o)) (sym (second_is known work none e))
          (finalizing_at n (after_work known (Some work)) subject (after.before none) after.quiet (after.finalize subject waits)))

  finalizing_reaches : (n : ℕ) (known : rules.Known) (subject : Subject) → Waits made accepted round known kinds.Finalization subject → Reaches made round subject (suc (suc (suc n))) known
  finalizing_reaches n known subject waits = by (work_of round made.scheme known kinds.Notarization) refl
    where
      by : (o : Option Work) → work_of round made.scheme known kinds.Notarization ≡ o → Reaches made round subject (suc (suc (suc n))) known
      by None e = finalizing_next (suc n) known subject e waits
      by (Some work) e =
          let is = some_at (IsWork known kinds.Notarization) (work_of round made.scheme known kinds.Notarization) work e (work_is known kinds.Notarization) in
          let after = after_notarizes known work is waits.good in
          inr (subst (λ (o : Option Work). Reaches made round subject (suc (suc n)) (after_work known o)) (sym (first_is known work e))
          (finalizing_next n (after_work known (Some work)) subject after.quiet (after.finalize subject waits)))

  pub reaches : (known : rules.Known) (kind : CertificateKind) (subject : Subject) → Waits made accepted round known kind subject → Reaches made round subject 3 known
  reaches known kinds.Notarization subject waits = notarizing_reaches 2 known subject waits
  reaches known kinds.Nullification subject waits = nullifying_reaches 1 known subject waits
  reaches known kinds.Finalization subject waits = finalizing_reaches 0 known subject waits
