-- The work on marked views keeps all founded.
use Rattle.simplex_types.specs.declared.cause.BlockCause.{BlockCause}
use Rattle.simplex_types.specs.declared.cause.BlockCause.TheVariants.{InvalidSignature}
use Rattle.std.proofs.Common.{◌≡◌, ◌∙◌, refl, ap, Bool, true, false, inl, inr, ◌⊎◌, ℕ, if◌then◌else◌, List, [], ◌∷◌, ◌++◌, All, map, nat_lt, nat_le, zero, suc, length}
use Rattle.std.specs.Prelude.{◌||◌, not, Option, Some, None, filter}
use Rattle.std.specs.Option.{IfSome, is_some, is_none, option_or, option_map_or, option_and_then, option_to_list}
use Rattle.std.proofs.lemmas.List.Elements.{All-nil, All-cons, All-head, All-tail, All-append, All-map, All-weaker}
use Rattle.simplex_values.specs.declared.proposal.Proposal.{Proposal}
use Rattle.simplex_values.specs.declared.proposal.Subject.{Subject}
use Rattle.simplex_wire.specs.declared.certificate.Certificate.{Certificate}
use Rattle.simplex_wire.specs.declared.certificate.CertificateKind.{CertificateKind}
use Rattle.simplex_wire.specs.declared.certificate.CertificateKind.TheVariants as kinds
use Rattle.simplex_wire.specs.declared.attestation.Attestation.{Attestation}
use Rattle.simplex_wire.specs.Fields.{vote_subject, vote_attestation, certificate_subject, certificate_signatures}
use Rattle.simplex_wire.specs.declared.vote.Vote.{Vote}
use Rattle.simplex_round.specs.declared.ballot.Ballot.{Ballot}
use Rattle.simplex_round.specs.declared.batch.Batch.{Batch}
use Rattle.simplex_round.specs.Votes.{vote_signer, is_same_subject}
use Rattle.simplex_round.specs.Known as rules
use Rattle.simplex_round.specs.Forwarding as proposals
use Rattle.simplex_round.specs.Assembly as assembly
use Rattle.simplex_round.specs.Calls as rounds
use Rattle.simplex_messages.specs.declared.voter.Message.TheVariants as voter
use Rattle.simplex_messages.specs.declared.handed.Handed.{Handed}
use Rattle.simplex_messages.specs.declared.handed.Handed.TheVariants as handed
use Rattle.simplex_messages.specs.declared.call.Call.TheVariants as call
use Rattle.model_steps.specs.Batcher.{Made, RoundHistory, Doing, known_in, called, with_batch, number_of, forwarded, constructing, constructing_times, worked, worked_all, dropped, finished, retains_view, admits_view}
use Rattle.law_member.specs.BatcherVotes.{IsOf}
use Rattle.law_member.specs.Certificates.{IsSchemeOfMembers, IsVoteOn, IsMadeOfVotes, IsFoundedCertificate, IsFoundedMessage}
use Rattle.law_member.proofs.Choices.{if_case, either_case, and_then_case, map_case, some_more, all_any, listed}
use Rattle.law_member.proofs.Ballots.{GoodBallot, GoodBallots, GoodKnown}
use Rattle.law_member.proofs.Certifying.{both, subjects-same, checked_ballots, founded}
use Rattle.law_member.proofs.Hearing.{side_good, with_side_good}
use Rattle.law_member.proofs.Rounds.{GoodRound, forward_called, certificate_good}
use Rattle.law_member.proofs.Doings.{Sound, IsFoundedIn, round_sound}

turned : (b : Bool) → not b ≡ true → b ≡ false
turned true e = absurd cc
turned false e = refl

module _ (made : Made) (accepted : Vote → Type 0) (did : ℕ → BlockCause → Type 0) (is_new : Certificate → Type 0)
    (fails : (v : Vote) → accepted v → made.scheme.verifies (vote_subject v) (vote_attestation v) ≡ false → did (vote_signer v) InvalidSignature) where
  abbrev FoundedIf : Certificate → Type 0
  FoundedIf certificate = IsSchemeOfMembers made → IsFoundedCertificate made accepted is_new certificate

  pub record GoodWork (work : assembly.Work) : Type 0 where
    pub ballots : GoodBallots made.scheme.verifies accepted work.ballots
    pub certificate : IfSome work.certificate FoundedIf
    pub invalid : All (λ (m : ℕ). did m InvalidSignature) work.invalid

  -- whose vote is found invalid, of a vote that was not checked before
  found_invalid : (subject : Subject) (b : Ballot) → assembly.is_unchecked subject b ≡ true → not (assembly.verifies_by made.scheme subject b) ≡ true
      → GoodBallot made.scheme.verifies accepted b → did (vote_signer b.vote) InvalidSignature
  unfolding assembly.is_unchecked
  found_invalid subject b unchecked bad good =
      let same = subjects-same (vote_subject b.vote) subject (both (is_same_subject (vote_subject b.vote) subject) (is_none b.found) unchecked).0 in
      let bad_one : made.scheme.verifies subject (vote_attestation b.vote) ≡ false = turned (made.scheme.verifies subject (vote_attestation b.vote)) bad in
      fails b.vote good.was_accepted (ap (λ s. made.scheme.verifies s (vote_attestation b.vote)) same ∙ bad_one)

  invalid_each : (subject : Subject) (bs : List Ballot) → All (GoodBallot made.scheme.verifies accepted) bs
      → All (λ (b : Ballot). did (vote_signer b.vote) InvalidSignature) (filter (λ b. not (assembly.verifies_by made.scheme subject b)) (filter (assembly.is_unchecked subject) bs))
  invalid_each subject [] good = All-nil (λ (b : Ballot). did (vote_signer b.vote) InvalidSignature)
  invalid_each subject (b ∷ bs) good =
      let Q : Ballot → Type 0 = λ b. did (vote_signer b.vote) InvalidSignature in
      let bad : Ballot → Bool = λ b. not (assembly.verifies_by made.scheme subject b) in
      let rest = invalid_each subject bs (All-tail (GoodBallot made.scheme.verifies accepted) b bs good) in
      if_case (λ (l : List Ballot). All Q (filter bad l)) (assembly.is_unchecked subject b) (b ∷ filter (assembly.is_unchecked subject) bs) (filter (assembly.is_unchecked subject) bs)
      (λ h. if_case (All Q) (bad b) (b ∷ filter bad (filter (assembly.is_unchecked subject) bs)) (filter bad (filter (assembly.is_unchecked subject) bs))
      (λ k. All-cons Q b (filter bad (filter (assembly.is_unchecked subject) bs)) (found_invalid subject b h k (All-head (GoodBallot made.scheme.verifies accepted) b bs good)) rest)
      (λ k. rest))
      (λ h. rest)

  work_if_any_good : (round : rules.Made) (kind : CertificateKind) (ballots : List Ballot) (subject : Subject) → GoodBallots made.scheme.verifies accepted ballots
      → IfSome (assembly.work_if_any round made.scheme kind ballots subject) GoodWork
  unfolding assembly.work_if_any assembly.work_on
  work_if_any_good round kind ballots subject good =
      let work = assembly.work_on round made.scheme kind subject ballots in
      let is : GoodWork work = record {
        ballots = checked_ballots made accepted subject ballots good;
        certificate = founded made accepted is_new round subject ballots good;
        invalid = All-map (λ (m : ℕ). did m InvalidSignature) (λ (b : Ballot). vote_signer b.vote) (filter (λ b. not (assembly.verifies_by made.scheme subject b)) (filter (assembly.is_unchecked subject) ballots))
            (invalid_each subject ballots good.each);
      } in
      if_case (λ (o : Option assembly.Work). IfSome o GoodWork) (nat_le round.quorum (length (filter (assembly.is_candidate subject) ballots)))
      (assembly.some_work work) None
      (λ h. if_case (λ (o : Option assembly.Work). IfSome o GoodWork) (nat_lt 0 work.processed || is_some work.certificate) (Some work) None (λ k. is) (λ k. tt))
      (λ h. tt)

  work_good : (round : rules.Made) (known : rules.Known) (kind : CertificateKind) → GoodKnown made.scheme.verifies accepted known
      → IfSome (assembly.work_of round made.scheme known kind) GoodWork
  unfolding assembly.work_of
  work_good round known kind good =
      let work : Subject → Option assembly.Work = assembly.work_if_any round made.scheme kind (rules.side_of known kind) in
      if_case (λ (o : Option assembly.Work). IfSome o GoodWork) (round.skipped || proposals.is_held known kind) None
      (option_and_then work (assembly.subject_of round known kind))
      (λ h. tt)
      (λ h. and_then_case GoodWork work (assembly.subject_of round known kind)
      (λ subject. work_if_any_good round kind (rules.side_of known kind) subject (side_good made.scheme.verifies accepted known kind good)))

  first_good : (round : rules.Made) (known : rules.Known) → GoodKnown made.scheme.verifies accepted known
      → IfSome (assembly.first_work round made.scheme known) GoodWork
  unfolding assembly.first_work
  first_good round known good =
      either_case GoodWork (assembly.work_of round made.scheme known kinds.Notarization)
      (option_or (assembly.work_of round made.scheme known kinds.Nullification) (assembly.work_of round made.scheme known kinds.Finalization))
      (work_good round known kinds.Notarization good)
      (either_case GoodWork (assembly.work_of round made.scheme known kinds.Nullification) (assembly.work_of round made.scheme known kinds.Finalization)
      (work_good round known kinds.Nullification good) (work_good round known kinds.Finalization good))

  after_assembly_good : (known : rules.Known) (o : Option Certificate) → GoodKnown made.scheme.verifies accepted known
      → GoodKnown made.scheme.verifies accepted (assembly.after_assembly known o)
  after_assembly_good known None good = good
  after_assembly_good known (Some certificate) good = certificate_good made.scheme.verifies accepted known certificate good

  after_work_good : (known : rules.Known) (o : Option assembly.Work) → GoodKnown made.scheme.verifies accepted known → IfSome o GoodWork
      → GoodKnown made.scheme.verifies accepted (assembly.after_work known o)
  unfolding assembly.after_work
  after_work_good known None good work = good
  after_work_good known (Some work) good is =
      after_assembly_good (rules.with_side known work.kind work.ballots) work.certificate (with_side_good made.scheme.verifies accepted known work.kind work.ballots good is.ballots)

  pub construct_called : (round : RoundHistory) → GoodRound made accepted round → GoodRound made accepted (called (rounds.TryConstruct made.scheme) round)
  unfolding rounds.known_after rounds.after_call
  construct_called round good = record {
    quorum = good.quorum;
    known = after_work_good (known_in round) (assembly.first_work round.made made.scheme (known_in round)) good.known (first_good round.made (known_in round) good.known);
  }

  -- what comes of it is founded, and so are the blocks
  abbrev GoodBatch : Batch → Type 0
  GoodBatch batch = IfSome batch.certificate FoundedIf × All (λ (m : ℕ). did m InvalidSignature) batch.invalid

  batch_founded : (round : RoundHistory) → GoodRound made accepted round → IfSome (assembly.constructed round.made made.scheme (known_in round)) GoodBatch
  unfolding assembly.constructed
  batch_founded round good =
      map_case GoodWork GoodBatch assembly.batch_of (assembly.first_work round.made made.scheme (known_in round))
      (λ work is. (is.certificate, is.invalid)) (first_good round.made (known_in round) good.known)

-- what is made of such votes is made of more
votes_more : (made : Made) (accepted accepted_too : Vote → Type 0) (is_new : Certificate → Type 0) (certificate : Certificate) → ((v : Vote) → accepted v → accepted_too v)
    → IsFoundedCertificate made accepted is_new certificate → IsFoundedCertificate made accepted_too is_new certificate
votes_more made accepted accepted_too is_new certificate more is = record { verifies = is.verifies; source = source is.source }
  where
    vote : (a : Attestation) → IsVoteOn made accepted (certificate_subject certificate) a → IsVoteOn made accepted_too (certificate_subject certificate) a
    vote a it = record { vote = it.vote; signature = it.signature; on = it.on; verifies = it.verifies; was_accepted = more it.vote it.was_accepted }

    source : is_new certificate ⊎ IsMadeOfVotes made accepted certificate → is_new certificate ⊎ IsMadeOfVotes made accepted_too certificate
    source (inl new) = inl new
    source (inr of) = inr (record {
      quorum = of.quorum;
      each = All-weaker (IsVoteOn made accepted (certificate_subject certificate)) (IsVoteOn made accepted_too (certificate_subject certificate)) vote (certificate_signatures certificate) of.each;
    })

-- a list of founded certificates
all_founded : (made : Made) (accepted : Vote → Type 0) (is_new : Certificate → Type 0) (o : Option Certificate)
    → IfSome o (λ (c : Certificate). IsSchemeOfMembers made → IsFoundedCertificate made accepted is_new c) → IsSchemeOfMembers made
    → All (IsFoundedMessage made accepted is_new) (map (λ c. handed.Voter (voter.Verified c)) (option_to_list o))
all_founded made accepted is_new None founded fits = All-nil (IsFoundedMessage made accepted is_new)
all_founded made accepted is_new (Some c) founded fits = listed (IsFoundedMessage made accepted is_new) (Some (handed.Voter (voter.Verified c))) (founded fits)

module _ (made : Made) (accepted came : Vote → Type 0) (did : ℕ → BlockCause → Type 0) (is_new : Certificate → Type 0)
    (fails : (v : Vote) → accepted v → made.scheme.verifies (vote_subject v) (vote_attestation v) ≡ false → did (vote_signer v) InvalidSignature) where
  abbrev S : Doing → Type 0
  S doing = Sound made accepted came did is_new doing

  batch_sound : (o : Option Batch) (doing : Doing) → IfSome o (GoodBatch made accepted did is_new fails)
      → S doing → S (with_batch o doing)
  batch_sound None doing founded s = s
  batch_sound (Some batch) doing founded s = record {
    rounds = s.rounds;
    handed = λ fits. All-append (IsFoundedMessage made accepted is_new) doing.handed (map (λ (c : Certificate). handed.Voter (voter.Verified c)) (option_to_list batch.certificate))
        (s.handed fits) (all_founded made accepted is_new batch.certificate founded.0 fits);
    calls = All-append (IsFoundedIn accepted came did) doing.calls (map (λ signer. call.Block signer InvalidSignature) batch.invalid) s.calls
        (All-map (IsFoundedIn accepted came did) (λ signer. call.Block signer InvalidSignature) batch.invalid founded.1);
  }

  in_view : (view : ℕ) (v : Vote) → IsOf view accepted v → made.scheme.verifies (vote_subject v) (vote_attestation v) ≡ false → did (vote_signer v) InvalidSignature
  in_view view v was bad = fails v was.0 bad

  batch_of_view : (view : ℕ) (round : RoundHistory) → GoodRound made (IsOf view accepted) round
      → IfSome (assembly.constructed round.made made.scheme (known_in round)) (GoodBatch made accepted did is_new fails)
  batch_of_view view round good =
      let Narrow : Certificate → Type 0 = λ c. IsSchemeOfMembers made → IsFoundedCertificate made (IsOf view accepted) is_new c in
      let Wide : Certificate → Type 0 = λ c. IsSchemeOfMembers made → IsFoundedCertificate made accepted is_new c in
      some_more (GoodBatch made (IsOf view accepted) did is_new (in_view view)) (GoodBatch made accepted did is_new fails) (assembly.constructed round.made made.scheme (known_in round))
      (λ batch is. (some_more Narrow Wide batch.certificate (λ c founded fits. votes_more made (IsOf view accepted) accepted is_new c (λ v was. was.0) (founded fits)) is.0, is.1))
      (batch_founded made (IsOf view accepted) did is_new (in_view view) round good)

  constructing_sound : (view : ℕ) (round : RoundHistory) (doing : Doing) → GoodRound made (IsOf view accepted) round → S doing → S (constructing made view round doing)
  unfolding constructing
  constructing_sound view round doing good s =
      round_sound made accepted came did is_new view (called (rounds.TryConstruct made.scheme) round) (with_batch (assembly.constructed round.made made.scheme (known_in round)) doing)
      (construct_called made (IsOf view accepted) did is_new (in_view view) round good)
      (batch_sound (assembly.constructed round.made made.scheme (known_in round)) doing (batch_of_view view round good) s)

  forwarded_sound : (view : ℕ) (round : RoundHistory) (doing : Doing) → GoodRound made (IsOf view accepted) round → S doing → S (forwarded made view round doing)
  unfolding forwarded
  forwarded_sound view round doing good s =
      let given = option_to_list (proposals.forwarded_to_voter (known_in round) (number_of made)) in
      let message : Proposal → Handed = λ proposal. handed.Voter (voter.Proposal proposal) in
      round_sound made accepted came did is_new view (called (rounds.TryForward (number_of made)) round) (record doing { handed = doing.handed ++ map message given })
      (forward_called made (IsOf view accepted) round (number_of made) good)
      (record {
        rounds = s.rounds;
        handed = λ fits. All-append (IsFoundedMessage made accepted is_new) doing.handed (map message given) (s.handed fits)
            (All-map (IsFoundedMessage made accepted is_new) message given (all_any (λ (p : Proposal). IsFoundedMessage made accepted is_new (message p)) given (λ p. tt)));
        calls = s.calls;
      })

  -- on the round of a view, if there is one
  round_of_view : (view : ℕ) (o : Option RoundHistory) (turn : RoundHistory → Doing) (doing : Doing) → ((round : RoundHistory) → GoodRound made (IsOf view accepted) round → S (turn round))
      → IfSome o (GoodRound made (IsOf view accepted)) → S doing → S (option_map_or turn o doing)
  round_of_view view None turn doing sound good s = s
  round_of_view view (Some round) turn doing sound good s = sound round good

  times_sound : (n view : ℕ) (doing : Doing) → S doing → S (constructing_times n made view doing)
  unfolding constructing_times
  times_sound zero view doing s = s
  times_sound (suc n) view doing s =
      let turn : RoundHistory → Doing = λ round. constructing made view round doing in
      times_sound n view (option_map_or turn (doing.standing.rounds view) doing)
      (round_of_view view (doing.standing.rounds view) turn doing (λ round good. constructing_sound view round doing good s) (s.rounds view) s)

  worked_sound : (view : ℕ) (doing : Doing) → S doing → S (worked made view doing)
  unfolding worked
  worked_sound view doing s =
      let turn : RoundHistory → Doing = λ round. forwarded made view round doing in
      let handing = option_map_or turn (doing.standing.rounds view) doing in
      let sound : S handing = round_of_view view (doing.standing.rounds view) turn doing (λ round good. forwarded_sound view round doing good s) (s.rounds view) s in
      if_case S (nat_le view doing.standing.finalized) doing (if admits_view made doing.standing view then constructing_times 3 made view handing else handing)
      (λ h. s)
      (λ h. if_case S (admits_view made doing.standing view) (constructing_times 3 made view handing) handing (λ k. times_sound 3 view handing sound) (λ k. sound))

  worked_all_sound : (views : List ℕ) (doing : Doing) → S doing → S (worked_all made views doing)
  unfolding worked_all
  worked_all_sound [] doing s = s
  worked_all_sound (view ∷ views) doing s = worked_all_sound views (worked made view doing) (worked_sound view doing s)

  dropped_sound : (doing : Doing) → S doing → S (dropped made doing)
  unfolding dropped
  dropped_sound doing s = record {
    rounds = λ view. if_case (λ (o : Option RoundHistory). IfSome o (GoodRound made (IsOf view accepted))) (retains_view made doing.standing view) (doing.standing.rounds view) None
        (λ h. s.rounds view) (λ h. tt);
    handed = s.handed;
    calls = s.calls;
  }

  pub finished_sound : (doing : Doing) → S doing → S (finished made doing)
  unfolding finished
  finished_sound doing s = dropped_sound (worked_all made doing.dirty doing) (worked_all_sound doing.dirty doing s)
