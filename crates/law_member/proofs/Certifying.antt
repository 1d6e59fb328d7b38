-- A certificate that is made of good ballots verifies.
use Rattle.std.proofs.Common.{◌≡◌, ℕ, ◌≤◌, ◌+◌, Bool, true, false, if◌then◌else◌, List, [], ◌∷◌, All, map, filter, length, refl, sym, subst, ap, arith, inr, nat_lt, nat_le}
use Rattle.std.specs.Prelude.{◌==◌, ◌&&◌, Option, Some, None, Result, Ok, Err}
use Rattle.std.specs.Option.{IfSome, option_map, is_none}
use Rattle.std.specs.Result.{result_ok}
use Rattle.std.specs.Str.{bytes_eq}
use Rattle.std.proofs.lemmas.Grind.{common_steps}
use Rattle.std.proofs.lemmas.Bool.{ltb-false}
use Rattle.std.proofs.lemmas.Bool.Decides.{Decides-eqb}
use Rattle.std.proofs.lemmas.Slice.Eq.{bytes_eq-Decides}
use Rattle.std.proofs.lemmas.List.Elements.{All-nil, All-cons, All-head, All-tail, All-weaker}
use Rattle.std.proofs.lemmas.List.Sums.{list_all-from_AllPass}
use Rattle.simplex_values.specs.declared.round.Round.{Round}
use Rattle.simplex_values.specs.declared.proposal.Proposal.{Proposal}
use Rattle.simplex_values.specs.declared.proposal.Subject.{Subject}
use Rattle.simplex_values.specs.declared.proposal.Subject.TheVariants as subjects
use Rattle.simplex_values.specs.Proposal.{is_same_round, is_same_proposal}
use Rattle.simplex_values.specs.Quorum.{quorum_of}
use Rattle.simplex_wire.specs.declared.attestation.Attestation.{Attestation}
use Rattle.simplex_wire.specs.declared.vote.Vote.{Vote}
use Rattle.simplex_wire.specs.declared.certificate.Certificate.{Certificate}
use Rattle.simplex_wire.specs.declared.scheme.AssemblyError.{AssemblyError}
use Rattle.simplex_wire.specs.declared.scheme.AssemblyError.TheVariants as errors
use Rattle.simplex_wire.specs.Certified.{is_certified, assembled}
use Rattle.simplex_wire.specs.Signatures.{rises_from}
use Rattle.simplex_wire.specs.Fields.{vote_subject, vote_attestation, certificate_subject, certificate_signatures}
use Rattle.simplex_round.specs.declared.ballot.Ballot.{Ballot}
use Rattle.simplex_round.specs.Votes.{is_same_subject, vote_signer, certificate_on}
use Rattle.simplex_round.specs.Known as known
use Rattle.simplex_round.specs.Assembly.{was_found, is_unchecked, is_valid, checked, valid_on, assembled_on}
use Rattle.model_steps.specs.Batcher.{Made}
use Rattle.law_member.specs.Certificates.{IsSchemeOfMembers, IsVoteOn, IsFoundedCertificate}
use Rattle.law_member.proofs.Choices.{if_case, some_more}
use Rattle.law_member.proofs.Ballots.{GoodBallot, GoodBallots, Rise}

pub both : (a b : Bool) → a && b ≡ true → (a ≡ true) × (b ≡ true)
both true true e = (refl, refl)
both true false e = absurd (cc)
both false b e = absurd (cc)

-- what the tests find equal is equal
rounds-same : (r s : Round) → is_same_round r s ≡ true → r ≡ s
rounds-same r s e =
    let parts = both (r.epoch == s.epoch) (r.view == s.view) e in
    whole r.epoch s.epoch r.view s.view ((Decides-eqb r.epoch s.epoch).0 parts.0) ((Decides-eqb r.view s.view).0 parts.1)
  where
    whole : (a b c d : ℕ) → a ≡ b → c ≡ d → ◌≡◌ {A = Round} (record { epoch = a; view = c }) (record { epoch = b; view = d })
    whole a b c d i j = rw (i, j) refl

proposals-same : (p q : Proposal) → is_same_proposal p q ≡ true → p ≡ q
proposals-same p q e =
    let outer = both (is_same_round p.round q.round && p.parent == q.parent) (bytes_eq p.payload q.payload) e in
    let inner = both (is_same_round p.round q.round) (p.parent == q.parent) outer.0 in
    whole p.round q.round p.parent q.parent p.payload q.payload (rounds-same p.round q.round inner.0)
    ((Decides-eqb p.parent q.parent).0 inner.1) ((bytes_eq-Decides p.payload q.payload).0 outer.1)
  where
    whole : (a b : Round) (e f : ℕ) (x y : List ℕ) → a ≡ b → e ≡ f → x ≡ y
        → ◌≡◌ {A = Proposal} (record { round = a; parent = e; payload = x }) (record { round = b; parent = f; payload = y })
    whole a b e f x y i k l = rw (i, k, l) refl

pub subjects-same : (s t : Subject) → is_same_subject s t ≡ true → s ≡ t
subjects-same (subjects.Notarize p) (subjects.Notarize q) e = ap subjects.Notarize (proposals-same p q e)
subjects-same (subjects.Nullify r) (subjects.Nullify s) e = ap subjects.Nullify (rounds-same r s e)
subjects-same (subjects.Finalize p) (subjects.Finalize q) e = ap subjects.Finalize (proposals-same p q e)
subjects-same (subjects.Notarize p) (subjects.Nullify r) e = absurd (cc)
subjects-same (subjects.Notarize p) (subjects.Finalize q) e = absurd (cc)
subjects-same (subjects.Nullify r) (subjects.Notarize p) e = absurd (cc)
subjects-same (subjects.Nullify r) (subjects.Finalize p) e = absurd (cc)
subjects-same (subjects.Finalize p) (subjects.Notarize q) e = absurd (cc)
subjects-same (subjects.Finalize p) (subjects.Nullify r) e = absurd (cc)

-- a certificate on a subject has that subject and those signatures
pub on_case : (Q : Subject → List Attestation → Type 0) (subject : Subject) (list : List Attestation) → Q subject list
    → Q (certificate_subject (certificate_on subject list)) (certificate_signatures (certificate_on subject list))
on_case Q (subjects.Notarize p) list q = q
on_case Q (subjects.Nullify r) list q = q
on_case Q (subjects.Finalize p) list q = q

found_true : (o : Option Bool) → was_found true o ≡ true → o ≡ Some true
found_true None e = absurd (cc)
found_true (Some b) e = ap Some e

unchecked_on : (subject : Subject) (b : Ballot) → is_unchecked subject b ≡ true → vote_subject b.vote ≡ subject
unfolding is_unchecked
unchecked_on subject b h = subjects-same (vote_subject b.vote) subject (both (is_same_subject (vote_subject b.vote) subject) (is_none b.found) h).0

rises_less : (m n : ℕ) (list : List Attestation) → m ≤ n → rises_from n list ≡ true → rises_from m list ≡ true
rises_less m n [] le h = refl
rises_less m n (a ∷ list) le h = grind (arith, common_steps, le, h)

module _ (made : Made) (accepted : Vote → Type 0) where
  abbrev Good : Ballot → Type 0
  Good = GoodBallot made.scheme.verifies accepted

  checked_good : (subject : Subject) (b : Ballot) → Good b → Good (checked made.scheme subject b)
  unfolding checked
  checked_good subject b good =
      if_case Good (is_unchecked subject b) (record b { found = Some (made.scheme.verifies subject (vote_attestation b.vote)) }) b
      (λ h. record {
        was_accepted = good.was_accepted;
        checked = λ valid e.
            let is : made.scheme.verifies subject (vote_attestation b.vote) ≡ valid = cc e in
            subst (λ (s : Subject). made.scheme.verifies s (vote_attestation b.vote) ≡ valid) (sym (unchecked_on subject b h)) is;
      })
      (λ h. good)

  checked_signer : (subject : Subject) (b : Ballot) → vote_signer (checked made.scheme subject b).vote ≡ vote_signer b.vote
  unfolding checked
  checked_signer subject b =
      if_case (λ (c : Ballot). vote_signer c.vote ≡ vote_signer b.vote) (is_unchecked subject b)
      (record b { found = Some (made.scheme.verifies subject (vote_attestation b.vote)) }) b (λ h. refl) (λ h. refl)

  checked_each : (subject : Subject) (bs : List Ballot) → All Good bs → All Good (map (checked made.scheme subject) bs)
  checked_each subject [] all = All-nil Good
  checked_each subject (b ∷ bs) all =
      All-cons Good (checked made.scheme subject b) (map (checked made.scheme subject) bs) (checked_good subject b (All-head Good b bs all))
      (checked_each subject bs (All-tail Good b bs all))

  checked_rise : (subject : Subject) (least : ℕ) (bs : List Ballot) → Rise least bs → Rise least (map (checked made.scheme subject) bs)
  checked_rise subject least [] rise = tt
  checked_rise subject least (b ∷ bs) rise =
      subst (λ (s : ℕ). (least ≤ s) × Rise (s + 1) (map (checked made.scheme subject) bs)) (sym (checked_signer subject b))
      (rise.0, checked_rise subject (vote_signer b.vote + 1) bs rise.1)

  -- checking keeps ballots good
  pub checked_ballots : (subject : Subject) (bs : List Ballot) → GoodBallots made.scheme.verifies accepted bs
      → GoodBallots made.scheme.verifies accepted (map (checked made.scheme subject) bs)
  checked_ballots subject bs good = record { each = checked_each subject bs good.each; rise = checked_rise subject 0 bs good.rise }

  -- the signatures of valid ballots are those of votes, and rise
  vote_on : (subject : Subject) (b : Ballot) → Good b → is_valid subject b ≡ true → IsVoteOn made accepted subject (vote_attestation b.vote)
  unfolding is_valid
  vote_on subject b good h =
      let parts = both (is_same_subject (vote_subject b.vote) subject) (was_found true b.found) h in
      let on = subjects-same (vote_subject b.vote) subject parts.0 in
      record {
        vote = b.vote;
        signature = refl;
        on = on;
        verifies = subst (λ (s : Subject). made.scheme.verifies s (vote_attestation b.vote) ≡ true) on (good.checked true (found_true b.found parts.1));
        was_accepted = good.was_accepted;
      }

  valid_each : (subject : Subject) (bs : List Ballot) → All Good bs
      → All (IsVoteOn made accepted subject) (map (λ b. vote_attestation b.vote) (filter (is_valid subject) bs))
  valid_each subject [] all = All-nil (IsVoteOn made accepted subject)
  valid_each subject (b ∷ bs) all =
      let more = valid_each subject bs (All-tail Good b bs all) in
      if_case (λ (xs : List Ballot). All (IsVoteOn made accepted subject) (map (λ (x : Ballot). vote_attestation x.vote) xs)) (is_valid subject b)
      (b ∷ filter (is_valid subject) bs) (filter (is_valid subject) bs)
      (λ h. All-cons (IsVoteOn made accepted subject) (vote_attestation b.vote) (map (λ (x : Ballot). vote_attestation x.vote) (filter (is_valid subject) bs))
      (vote_on subject b (All-head Good b bs all) h) more)
      (λ h. more)

  valid_rise : (subject : Subject) (least : ℕ) (bs : List Ballot) → Rise least bs
      → rises_from least (map (λ b. vote_attestation b.vote) (filter (is_valid subject) bs)) ≡ true
  valid_rise subject least [] rise = refl
  valid_rise subject least (b ∷ bs) rise =
      let more = valid_rise subject (vote_signer b.vote + 1) bs rise.1 in
      if_case (λ (xs : List Ballot). rises_from least (map (λ (x : Ballot). vote_attestation x.vote) xs) ≡ true) (is_valid subject b)
      (b ∷ filter (is_valid subject) bs) (filter (is_valid subject) bs)
      (λ h. grind (arith, common_steps, rise.0, more))
      (λ h. rises_less least (vote_signer b.vote + 1) (map (λ (x : Ballot). vote_attestation x.vote) (filter (is_valid subject) bs)) (omega (arith, rise.0)) more)

  -- what assembling gives lists the valid signatures, a quorum at least
  pub assembled_lists : (round : known.Made) (subject : Subject) (valid : List Attestation)
      → IfSome (assembled_on round made.scheme subject valid) (λ c. (c ≡ certificate_on subject valid) × (quorum_of made.scheme.members ≤ length valid))
  unfolding assembled_on
  assembled_lists round subject valid =
      let Is : Certificate → Type 0 = λ c. (c ≡ certificate_on subject valid) × (quorum_of made.scheme.members ≤ length valid) in
      let Gives : Result (List Attestation) AssemblyError → Type 0 = λ r. IfSome (option_map (certificate_on subject) (result_ok r)) Is in
      if_case (λ (o : Option Certificate). IfSome o Is) (nat_le round.quorum (length valid))
      (option_map (certificate_on subject) (result_ok (assembled made.scheme.recovers made.scheme.members valid))) None
      (λ h. if_case Gives (nat_lt (length valid) (quorum_of made.scheme.members)) (Err errors.NotEnough) (if made.scheme.recovers then Ok valid else Err errors.RecoveryFailed)
      (λ few. tt)
      (λ enough. if_case Gives made.scheme.recovers (Ok valid) (Err errors.RecoveryFailed) (λ r. (refl, ltb-false (length valid) (quorum_of made.scheme.members) enough)) (λ r. tt)))
      (λ h. tt)

  certified : (subject : Subject) (valid : List Attestation) → IsSchemeOfMembers made → quorum_of made.scheme.members ≤ length valid
      → rises_from 0 valid ≡ true → All (IsVoteOn made accepted subject) valid → is_certified (made.scheme.verifies subject) made.members valid ≡ true
  unfolding is_certified
  certified subject valid fits enough rise each =
      let each_verifies = list_all-from_AllPass (λ (a : Attestation). nat_lt a.signer made.members && made.scheme.verifies subject a) valid
      (All-weaker (IsVoteOn made accepted subject) (λ (a : Attestation). nat_lt a.signer made.members && made.scheme.verifies subject a ≡ true)
      (λ a v. grind (arith, common_steps, v.verifies, fits.signers subject a v.verifies)) valid each) in
      grind (arith, common_steps, each_verifies, rise, enough, fits.members)

  -- a certificate of good ballots is founded
  pub founded : (is_new : Certificate → Type 0) (round : known.Made) (subject : Subject) (bs : List Ballot) → GoodBallots made.scheme.verifies accepted bs
      → IfSome (assembled_on round made.scheme subject (valid_on made.scheme subject bs)) (λ c. IsSchemeOfMembers made → IsFoundedCertificate made accepted is_new c)
  unfolding valid_on
  founded is_new round subject bs good =
      let all = checked_ballots subject bs good in
      let valid = map (λ (x : Ballot). vote_attestation x.vote) (filter (is_valid subject) (map (checked made.scheme subject) bs)) in
      let each : All (IsVoteOn made accepted subject) valid = valid_each subject (map (checked made.scheme subject) bs) all.each in
      let rise : rises_from 0 valid ≡ true = valid_rise subject 0 (map (checked made.scheme subject) bs) all.rise in
      some_more (λ (c : Certificate). (c ≡ certificate_on subject valid) × (quorum_of made.scheme.members ≤ length valid))
      (λ (c : Certificate). IsSchemeOfMembers made → IsFoundedCertificate made accepted is_new c)
      (assembled_on round made.scheme subject valid)
      (λ c is fits. subst (IsFoundedCertificate made accepted is_new) (sym is.0) (record {
        verifies = on_case (λ (s : Subject) (list : List Attestation). is_certified (made.scheme.verifies s) made.members list ≡ true) subject valid
            (certified subject valid fits is.1 rise each);
        source = inr (record {
          quorum = on_case (λ (s : Subject) (list : List Attestation). quorum_of made.members ≤ length list) subject valid
              (subst (λ (n : ℕ). quorum_of n ≤ length valid) fits.members is.1);
          each = on_case (λ (s : Subject) (list : List Attestation). All (IsVoteOn made accepted s) list) subject valid each;
        });
      }))
      (assembled_lists round subject valid)
