-- No honest member is blocked, but for a leader that was contradicted and an answer that is no valid one.
use Rattle.std.proofs.Common.{◌≡◌, ℕ, ◌-◌, ◌<◌, ◌==◌, ◌&&◌, nat_lt, nat_le, Bool, true, false, List, [], ◌∷◌, length, take, Contains, All, Option, Some, None, Result, Ok, Err, refl, sym, ◌∙◌, subst, inl, inr, eqb-true, if◌then◌else◌, arith}
use Rattle.std.specs.Option.{option_map_or}
use Rattle.std.specs.Str.{bytes_eq}
use Rattle.std.proofs.lemmas.List.Elements.{All-head, All-tail, All-nil, All-cons}
use Rattle.simplex_values.specs.declared.plan.Channel.{Channel}
use Rattle.simplex_values.specs.declared.plan.Channel.TheVariants as channels
use Rattle.simplex_values.specs.declared.proposal.Subject.{Subject}
use Rattle.simplex_wire.specs.declared.attestation.Attestation.{Attestation}
use Rattle.simplex_wire.specs.declared.certificate.Certificate.{Certificate}
use Rattle.simplex_wire.specs.declared.certificate.Finalization.{Finalization}
use Rattle.simplex_wire.specs.declared.error.DecodeError.{DecodeError}
use Rattle.simplex_wire.specs.declared.vote.Vote.{Vote}
use Rattle.simplex_wire.specs.declared.vote.Vote.TheVariants as votes
use Rattle.simplex_wire.specs.Certified.{is_certified}
use Rattle.simplex_wire.specs.Fields.{vote_subject, vote_attestation, vote_signer, certificate_subject, certificate_signatures}
use Rattle.simplex_wire.specs.Format.{whole}
use Rattle.simplex_wire.specs.Message as format
use Rattle.simplex_wire.specs.ResolverMessage.{resolver_message}
use Rattle.simplex_types.specs.Keyed.{keyed_verifies, signature_of}
use Rattle.simplex_types.specs.declared.cause.BlockCause.{BlockCause}
use Rattle.simplex_types.specs.declared.cause.BlockCause.TheVariants as causes
use Rattle.simplex_types.specs.declared.floor.Floor.{Floor}
use Rattle.simplex_journal.specs.Journal.{Section, replayed}
use Rattle.simplex_mailbox.specs.Mail.{received}
use Rattle.simplex_messages.specs.declared.batcher.Message as batcher_message
use Rattle.simplex_messages.specs.declared.batcher.BatcherInput.{BatcherInput}
use Rattle.simplex_messages.specs.declared.batcher.BatcherInput.TheVariants as batcher_inputs
use Rattle.simplex_messages.specs.declared.call.Call.{Call}
use Rattle.simplex_messages.specs.declared.call.Call.TheVariants as calls
use Rattle.simplex_messages.specs.declared.handed.Handed.TheVariants as handed
use Rattle.simplex_messages.specs.declared.resolver.MailboxMessage.{MailboxMessage}
use Rattle.simplex_messages.specs.declared.resolver.HandlerMessage.{HandlerMessage}
use Rattle.simplex_messages.specs.declared.resolver.ResolverInput.{ResolverInput}
use Rattle.simplex_messages.specs.declared.resolver.ResolverInput.TheVariants as resolver_inputs
use Rattle.simplex_messages.specs.declared.voter.Message as voter_message
use Rattle.simplex_messages.specs.declared.voter.Message.TheVariants as voter_messages
use Rattle.simplex_messages.specs.declared.voter.VoterInput.{VoterInput}
use Rattle.simplex_messages.specs.declared.voter.VoterInput.TheVariants as voter_inputs
use Rattle.simplex_messages.specs.declared.step.Outcome.{Outcome}
use Rattle.simplex_messages.specs.declared.step.Outcome.TheVariants as outcomes
use Rattle.simplex_messages.specs.declared.step.Stop.{Stop}
use Rattle.simplex_messages.specs.declared.step.Stop.TheVariants as stops
use Rattle.simplex_messages.specs.declared.step.StepOut.{StepOut}
use Rattle.simplex_messages.specs.Step.{no_out}
use Rattle.simplex_transcript.specs.declared.event.Event.{Event}
use Rattle.simplex_transcript.specs.declared.event.StepSource.{StepSource}
use Rattle.simplex_transcript.specs.declared.event.StepSource.TheVariants as sources
use Rattle.simplex_transcript.specs.declared.node.Node.{Node}
use Rattle.model_resolver.specs.Resolver as resolver
use Rattle.model_resolver.specs.Views.{is_reached}
use Rattle.model_steps.specs.Desk.{Doing}
use Rattle.model_steps.specs.Performed.{Performed, stop_place, whole as all_done, broken, performed}
use Rattle.model_steps.specs.Voter as voter
use Rattle.model_steps.specs.VoterLife.{VoterMade, Place, place_of, unread, before_reading, start_performed, step_given}
use Rattle.model_steps.specs.Batcher as batcher
use Rattle.model_steps.specs.Batcher.{vote_epoch, certificate_epoch}
use Rattle.model_steps.specs.Engine as engine
use Rattle.model_steps.specs.Engine.{EngineMade, Did, Taken, voter_in, voter_past, cut_short, by_batcher, by_resolver}
use Rattle.model_run.specs.Setting.{Setting}
use Rattle.model_run.specs.Life.{Noted, clock_of}
use Rattle.model_run.specs.Members.{floor_of, rules_of, members_of}
use Rattle.law_agreement.proofs.Invariant.{sent_in_order}
use Rattle.law_member.specs.BatcherVotes.{Accepted, Came}
use Rattle.law_member.specs.Blocks.{IsNoise, IsVoteOf, IsCertificateOf, Did as DidFor, IsFoundedBlock}
use Rattle.law_member.specs.Evidence.{AreInOrder, subjects_of}
use Rattle.law_member.specs.Reports.{SignedBoth}
use Rattle.law_member.proofs.Conflicts.{none_conflict}
use Rattle.law_member.proofs.Steps.{accepted_came, blocks_founded}
use Rattle.law_run.specs.Backed.{IsVerifying}
use Rattle.law_run.specs.Blame.{bars, tells_of_fault, BarNot, NoneBarred}
use Rattle.law_run.specs.Faulty.{faulty_of}
use Rattle.law_run.specs.Histories.{IsRun}
use Rattle.law_run.specs.MostlyHonest.{IsMostlyHonest}
use Rattle.law_run.specs.Sayings.{Each, InInput}
use Rattle.law_run.specs.Voting.{sent_votes}
use Rattle.law_run.proofs.BackingEngines.{IsFineEngine, IsLifeFine}
use Rattle.law_run.proofs.BackingEpochs.{engine_epoch}
use Rattle.law_run.proofs.Delivered.{packet_delivered}
use Rattle.law_run.proofs.Events.{engine_at, begun_gives, step_gives, nothing_bad, any_record, any_floor}
use Rattle.law_run.proofs.Good.{IsGood}
use Rattle.law_run.proofs.Hearing.{IsFineDid, IsFineInput, IsFineTimed, IsCounted, IsMade, InOwnMail, InVoterMail, inputs_fine, came_counted, handed_all}
use Rattle.law_run.proofs.Letting.{heard_either}
use Rattle.law_run.proofs.Mailing.{batcher_holds}
use Rattle.law_run.proofs.Mails.{holds_received}
use Rattle.law_run.proofs.Owning.{vote_own, own_attestation}
use Rattle.law_run.proofs.Packets.{FineOn, IsFinePacket}
use Rattle.law_run.proofs.Proper.{ProperOn, delivered_proper, sent_below}
use Rattle.law_run.proofs.ResolverBlocks.{FairCall, FairInput, step_fair}
use Rattle.law_run.proofs.Speaking.{InVoterCall}
use Rattle.law_run.proofs.Telling.{Each-take, started_says, stepped_says}
use Rattle.law_run.proofs.Turns.{IsTaken, IsTurn, entry_turn, ok_is}
use Rattle.law_run.proofs.Worlds.{backers_of, fine_of, earlier, people_of, floors_hold, voted_lived}
use Rattle.std.proofs.lemmas.Slice.Eq.{bytes_eq-Decides}
use Rattle.std.proofs.lemmas.Bool.Decides.{nat_tests}

module _ (member : ℕ) where
  abbrev Fair : ℕ → BlockCause → Type 0
  Fair who why = (who == member && tells_of_fault why) ≡ false

  abbrev Spared : Call → Type 0
  Spared call = bars call member ≡ false

  abbrev AreSpared : List Call → Type 0
  AreSpared made = Each Spared made

  never_both : (b : Bool) → (b && false) ≡ false
  never_both true = refl
  never_both false = refl

  late : (peer : ℕ) → Fair peer causes.InvalidResponse
  late peer = never_both (peer == member)

  all_spared : (made : List Call) → AreSpared made → BarNot member made
  all_spared [] h = All-nil Spared
  all_spared (call ∷ made) h = All-cons Spared call made h.0 (all_spared made h.1)

  -- ---- a voter

  voter_spared : (made : List Call) → Each (InVoterCall nothing_bad) made → AreSpared made
  voter_spared [] h = tt
  voter_spared (calls.Block who why ∷ made) h = (subst (Fair who) (sym h.0) (never_both (who == member)), voter_spared made h.1)
  voter_spared (calls.Append n a ∷ made) h = (refl, voter_spared made h.1)
  voter_spared (calls.Sync n ∷ made) h = (refl, voter_spared made h.1)
  voter_spared (calls.Prune n ∷ made) h = (refl, voter_spared made h.1)
  voter_spared (calls.Send channel to bytes ∷ made) h = (refl, voter_spared made h.1)
  voter_spared (calls.Report activity ∷ made) h = (refl, voter_spared made h.1)
  voter_spared (calls.Relay payload plan ∷ made) h = (refl, voter_spared made h.1)

  performed_spared : (stop : Stop) (d : Doing) (js : List Section) → AreSpared d.calls → AreSpared (performed stop d js).out.calls
  unfolding performed
  performed_spared stop d js h = at (stop_place stop d.calls)
    where
      at : (o : Option ℕ) → AreSpared (option_map_or (broken stop d js) o (all_done d js)).out.calls
      at None = h
      at (Some place) = Each-take Spared place d.calls h

  start_spared : (stop : Stop) (floor : Floor) (d : Doing) (js : List Section) → AreSpared d.calls → AreSpared (start_performed stop floor d js).out.calls
  unfolding start_performed
  start_spared stops.None floor d js h = performed_spared stops.None d js h
  start_spared (stops.Cut call keep) floor d js h = performed_spared (stops.Cut call keep) d js h
  start_spared (stops.Fail call keep) floor d js h = at (call == 1)
    where
      at : (b : Bool) → AreSpared (if b then unread floor d keep js else performed (stops.Fail (call - 1) keep) d js).out.calls
      at true = Each-take Spared (before_reading floor) d.calls h
      at false = performed_spared (stops.Fail (call - 1) keep) d js h

  begun_spared : (setting : Setting) (node : Node) (floor : Option Finalization) (js : List Section) (now : ℕ) (stop : Stop) → AreSpared (engine.begun (engine_at setting node floor js) now stop).out.calls
  begun_spared setting node floor js now stop =
      let f = floor_of setting.genesis floor in
      let rules = rules_of setting node.member now in
      let says = started_says nothing_bad rules now f (replayed js) (any_floor f) (λ a k. any_record a) in
      subst (λ (d : Did). AreSpared d.out.calls) (sym (begun_gives setting node floor js now stop))
      (start_spared stop f (voter.started rules now f (replayed js)) js (voter_spared (voter.started rules now f (replayed js)).calls says.in_calls))

  any_input : (input : VoterInput) → InInput nothing_bad input
  any_input (voter_inputs.Mail (voter_messages.Verified c)) = tt
  any_input (voter_inputs.Mail (voter_messages.Proposal p)) = tt
  any_input (voter_inputs.Mail (voter_messages.Timeout round reason)) = tt
  any_input voter_inputs.Timer = tt
  any_input voter_inputs.Propose = tt
  any_input voter_inputs.Verify = tt
  any_input voter_inputs.Certify = tt

  by_voter_spared : (made : EngineMade) (past : List Did) (input : VoterInput) (now : ℕ) (stop : Stop) → AreSpared (step_given (voter_in made past) (voter_past past) input now stop).out.calls
  by_voter_spared made past input now stop = at (voter.stepped v.rules now place.standing input) refl
    where
      v : VoterMade
      v = voter_in made past

      place : Place
      place = place_of (voter_in made past) (voter_past past)

      at : (o : Option Doing) → voter.stepped v.rules now place.standing input ≡ o → AreSpared (step_given v (voter_past past) input now stop).out.calls
      at None e = subst (λ (x : Performed). AreSpared x.out.calls) (sym (step_gives v (voter_past past) input now stop None e)) tt
      at (Some d) e =
          let says = stepped_says nothing_bad v.rules now place.standing input d (any_input input) (λ c later k. tt) e in
          subst (λ (x : Performed). AreSpared x.out.calls) (sym (step_gives v (voter_past past) input now stop (Some d) e))
          (performed_spared stop d place.sections (voter_spared d.calls says.in_calls))

  cut_spared : (stop : Stop) (out : StepOut) → AreSpared out.calls → AreSpared (cut_short stop out).1.calls
  cut_spared stops.None out h = h
  cut_spared (stops.Fail call keep) out h = h
  cut_spared (stops.Cut call keep) out h = at (nat_lt 0 call && nat_le call (length out.calls))
    where
      pair : Bool → Outcome × StepOut
      pair b = if b then (outcomes.Cut, record no_out { calls = take (call - 1) out.calls }) else (outcomes.Done, out)

      at : (b : Bool) → AreSpared (pair b).1.calls
      at true = Each-take Spared (call - 1) out.calls h
      at false = h

  -- ---- a resolver

  fair_spared : (made : List Call) → Each (FairCall Fair late) made → AreSpared made
  fair_spared [] h = tt
  fair_spared (calls.Block who why ∷ made) h = (h.0, fair_spared made h.1)
  fair_spared (calls.Append n a ∷ made) h = (refl, fair_spared made h.1)
  fair_spared (calls.Sync n ∷ made) h = (refl, fair_spared made h.1)
  fair_spared (calls.Prune n ∷ made) h = (refl, fair_spared made h.1)
  fair_spared (calls.Send channel to bytes ∷ made) h = (refl, fair_spared made h.1)
  fair_spared (calls.Report activity ∷ made) h = (refl, fair_spared made h.1)
  fair_spared (calls.Relay payload plan ∷ made) h = (refl, fair_spared made h.1)

  by_resolver_spared : (made : EngineMade) (given : List resolver.Given) (taken : Taken) (input : ResolverInput) (now : ℕ) (stop : Stop) → FairInput Fair late input → AreSpared (by_resolver made given taken input now stop).out.calls
  unfolding by_resolver
  by_resolver_spared made given taken input now stop f =
      cut_spared stop (resolver.step_out made.resolver given input now) (fair_spared (resolver.step_out made.resolver given input now).calls (step_fair Fair late made.resolver given input now f))

-- ---- a batcher, in a run whose member is honest

module _ (setting : Setting) (noted : List Noted) (o : IsMostlyHonest setting noted) (member : ℕ) (honest : ¬ (Contains (faulty_of setting.setup) member)) where
  -- a packet of the member is proper
  abbrev ProperFrom : ℕ → Channel → List ℕ → Type 0
  ProperFrom sender channel bytes = sender ≡ member → ProperOn setting member channel bytes

  abbrev ProperInput : BatcherInput → Type 0
  ProperInput (batcher_inputs.Vote sender bytes) = ProperFrom sender channels.Vote bytes
  ProperInput (batcher_inputs.Certificate sender bytes) = ProperFrom sender channels.Certificate bytes
  ProperInput (batcher_inputs.Mail message) = Unit {0}

  its_vote : (v : Vote) → IsCounted (backers_of setting noted) v → vote_signer v ≡ member → Contains (sent_votes noted member) v
  its_vote v counted is = elim counted.0 [
    | inl f ↦ absurd (honest (subst (Contains (faulty_of setting.setup)) is f))
    | inr k ↦ subst (λ n. Contains (sent_votes noted n) v) is k
  ]

  -- of two votes of the member none conflicts with the other
  in_order : (given : List batcher.Timed) (accepted : Vote → Type 0) (first second : Vote) → Each (IsFineTimed (backers_of setting noted)) given → SignedBoth accepted (Came given) first second → vote_signer first ≡ member → ⊥
  in_order given accepted first second fine both is =
      let p = people_of setting noted o (floors_hold setting noted o) in
      let l = p.lived member honest in
      let lived = l.0.lived in
      let order : AreInOrder setting.setup.term (p.history member) = subst (AreInOrder setting.setup.term) (sym l.1) (sent_in_order setting.setup.term o.term lived.calls lived.legal) in
      none_conflict setting.setup.term (p.history member) order first second
      (own first both.came_first is) (own second both.came_second (sym both.signer ∙ is)) both.view both.conflicts
    where
      own : (v : Vote) → Came given v → vote_signer v ≡ member
          → Contains (subjects_of ((people_of setting noted o (floors_hold setting noted o)).history member)) (vote_subject v)
      own v came is =
          voted_lived setting noted o.ran (people_of setting noted o (floors_hold setting noted o)) member (vote_subject v) honest
          (v, its_vote v (came_counted (backers_of setting noted) given v fine came) is, refl)

  -- its signatures verify
  its_signature : (subject : Subject) → member < members_of setting.setup → keyed_verifies setting.setup.key_base (members_of setting.setup) subject (own_attestation setting.setup member subject) ≡ true
  unfolding keyed_verifies
  its_signature subject below =
      both (nat_lt member (members_of setting.setup)) (bytes_eq (signature_of setting.setup.key_base member subject) (signature_of setting.setup.key_base member subject)) (is_less member (members_of setting.setup) below)
      ((bytes_eq-Decides (signature_of setting.setup.key_base member subject) (signature_of setting.setup.key_base member subject)).1 refl)
    where
      both : (a b : Bool) → a ≡ true → b ≡ true → (a && b) ≡ true
      both true b e f = f
      both false b e f = cc

      is_less : (a b : ℕ) → a < b → nat_lt a b ≡ true
      is_less a b h = grind (arith, nat_tests)

  verified : (v : Vote) → Contains (sent_votes noted member) v → keyed_verifies setting.setup.key_base (members_of setting.setup) (vote_subject v) (vote_attestation v) ≡ true
  verified v k =
      let below = sent_below setting noted member v o.ran honest k in
      subst (λ a. keyed_verifies setting.setup.key_base (members_of setting.setup) (vote_subject v) a ≡ true) (sym (vote_own setting noted o member v below honest k)) (its_signature (vote_subject v) below)

  true_false : {b : Bool} → b ≡ true → b ≡ false → ⊥
  true_false {b} e f = cc

  ok_err : {A : Type 0} (r : Result A DecodeError) (a : A) (fault : DecodeError) → r ≡ Ok a → r ≡ Err fault → ⊥
  ok_err r a fault e f = cc

  module _ (made : batcher.Made) (is : IsMade (backers_of setting noted) made) (epoch : made.epoch ≡ setting.setup.epoch) (given : List batcher.Timed) (fine : Each (IsFineTimed (backers_of setting noted)) given) where
    no_noise : (input : BatcherInput) → ProperInput input → IsNoise input member → ⊥
    no_noise (batcher_inputs.Vote sender bytes) p n = (let w = p n.0 in ok_err (whole format.vote bytes) w.0 n.1 w.1 n.2)
    no_noise (batcher_inputs.Certificate sender bytes) p n = (let w = p n.0 in ok_err (whole format.certificate bytes) w.0 n.1 w.1 n.2)
    no_noise (batcher_inputs.Mail message) p n = n

    its_own_vote : (input : BatcherInput) (v : Vote) → ProperInput input → IsVoteOf input member v → (vote_signer v ≡ member) × (vote_epoch v ≡ setting.setup.epoch)
    its_own_vote (batcher_inputs.Vote sender bytes) v p n =
        let w = p n.0 in
        let same : w.0 ≡ v = ok_is w.0 v (sym w.1 ∙ n.1) in
        subst (λ (x : Vote). (vote_signer x ≡ member) × (vote_epoch x ≡ setting.setup.epoch)) same (w.2, w.3)
    its_own_vote (batcher_inputs.Certificate sender bytes) v p n = absurd n
    its_own_vote (batcher_inputs.Mail message) v p n = absurd n

    its_certificate : (input : BatcherInput) (c : Certificate) → ProperInput input → IsCertificateOf input member c → IsVerifying setting.setup c × (certificate_epoch c ≡ setting.setup.epoch)
    its_certificate (batcher_inputs.Certificate sender bytes) c p n =
        let w = p n.0 in
        let same : w.0 ≡ c = ok_is w.0 c (sym w.1 ∙ n.1) in
        subst (λ (x : Certificate). IsVerifying setting.setup x × (certificate_epoch x ≡ setting.setup.epoch)) same (w.2, w.3)
    its_certificate (batcher_inputs.Vote sender bytes) c p n = absurd n
    its_certificate (batcher_inputs.Mail message) c p n = absurd n

    innocent : (input : BatcherInput) (why : BlockCause) → ProperInput input → DidFor made (Accepted made given) (Came given) input member why → tells_of_fault why ≡ true → ⊥
    innocent input causes.Undecodable p d t = no_noise input p d
    innocent input causes.WrongEpoch p (inl d) t = (let x = its_own_vote input d.0 p d.1 in d.2 (x.1 ∙ sym epoch))
    innocent input causes.WrongEpoch p (inr d) t = (let x = its_certificate input d.0 p d.1 in d.2 (x.1 ∙ sym epoch))
    innocent input causes.InvalidCertificate p d t =
        let x = its_certificate input d.0 p d.1 in
        let list = certificate_signatures d.0 in
        let subject = certificate_subject d.0 in
        let here : is_certified (made.scheme.verifies subject) (members_of setting.setup) list ≡ true = subst (λ (g : Subject → Attestation → Bool). is_certified (g subject) (members_of setting.setup) list ≡ true) (sym is.verifies) x.0 in
        true_false (subst (λ n. is_certified (made.scheme.verifies subject) n list ≡ true) (sym is.members) here) d.2
    innocent input causes.WrongSender p d t = (let x = its_own_vote input d.0 p d.1 in d.2 x.0)
    innocent input causes.ConflictingVotes p d t = in_order given (Accepted made given) d.0 d.1 fine d.4 d.2
    innocent input causes.NullifyAndFinalize p d t = in_order given (Accepted made given) (votes.Nullify d.0) (votes.Finalize d.1) fine d.3 d.2
    innocent input causes.InvalidSignature p d t =
        let k = its_vote d.0 (came_counted (backers_of setting noted) given d.0 fine (accepted_came made given d.0 d.1)) d.2 in
        true_false (subst (λ (g : Subject → Attestation → Bool). g (vote_subject d.0) (vote_attestation d.0) ≡ true) (sym is.verifies) (verified d.0 k)) d.3
    innocent input causes.LeaderConflict p d t = d
    innocent input causes.InvalidResponse p d t = d

    block_fair : (input : BatcherInput) (who : ℕ) (why : BlockCause) → ProperInput input → DidFor made (Accepted made given) (Came given) input who why → Fair member who why
    block_fair input who why p d = at (who == member) refl (tells_of_fault why) refl
      where
        at : (b : Bool) → (who == member) ≡ b → (t : Bool) → tells_of_fault why ≡ t → (b && t) ≡ false
        at false e t f = refl
        at true e false f = refl
        at true e true f = absurd (innocent input why p (subst (λ n. DidFor made (Accepted made given) (Came given) input n why) (eqb-true who member e) d) f)

    founded_spared : (input : BatcherInput) (cs : List Call) → ProperInput input → All (IsFoundedBlock made (Accepted made given) (Came given) input) cs → AreSpared member cs
    founded_spared input [] p h = tt
    founded_spared input (calls.Block who why ∷ cs) p h =
        let P = IsFoundedBlock made (Accepted made given) (Came given) input in
        (block_fair input who why p (All-head P (calls.Block who why) cs h), founded_spared input cs p (All-tail P (calls.Block who why) cs h))
    founded_spared input (calls.Append n a ∷ cs) p h = (refl, founded_spared input cs p (All-tail (IsFoundedBlock made (Accepted made given) (Came given) input) (calls.Append n a) cs h))
    founded_spared input (calls.Sync n ∷ cs) p h = (refl, founded_spared input cs p (All-tail (IsFoundedBlock made (Accepted made given) (Came given) input) (calls.Sync n) cs h))
    founded_spared input (calls.Prune n ∷ cs) p h = (refl, founded_spared input cs p (All-tail (IsFoundedBlock made (Accepted made given) (Came given) input) (calls.Prune n) cs h))
    founded_spared input (calls.Send channel to bytes ∷ cs) p h = (refl, founded_spared input cs p (All-tail (IsFoundedBlock made (Accepted made given) (Came given) input) (calls.Send channel to bytes) cs h))
    founded_spared input (calls.Report activity ∷ cs) p h = (refl, founded_spared input cs p (All-tail (IsFoundedBlock made (Accepted made given) (Came given) input) (calls.Report activity) cs h))
    founded_spared input (calls.Relay payload plan ∷ cs) p h = (refl, founded_spared input cs p (All-tail (IsFoundedBlock made (Accepted made given) (Came given) input) (calls.Relay payload plan) cs h))

  -- ---- an engine

  abbrev Backed : Did → Type 0
  Backed did = AreSpared member did.out.calls

  module _ (made : EngineMade) (past : List Did) (is : IsMade (backers_of setting noted) made.batcher) (epoch : made.batcher.epoch ≡ setting.setup.epoch) (fine : Each (IsFineDid (backers_of setting noted)) past) where
    by_batcher_spared : (taken : Taken) (input : BatcherInput) (now : ℕ) (stop : Stop) → IsFineInput (backers_of setting noted) input → ProperInput input → Backed (by_batcher made past taken input now stop)
    unfolding by_batcher
    by_batcher_spared taken input now stop f p =
        let given : batcher.Timed = record { input = input; now = now } in
        let before = engine.batcher_past past in
        cut_spared member stop (batcher.step_out made.batcher before given)
        (founded_spared made.batcher is epoch (given ∷ before) (f, inputs_fine (backers_of setting noted) past fine) input (batcher.step_out made.batcher before given).calls p (blocks_founded made.batcher before given))

    on_batcher : (now : ℕ) (stop : Stop) (m : Option batcher_message.Message) → received (engine.batcher_mail made past) ≡ m → Backed (engine.on_batcher_mail made past now stop m)
    on_batcher now stop None e = tt
    on_batcher now stop (Some message) e =
        let backers = backers_of setting noted in
        by_batcher_spared (engine.Took sources.Batcher (Some (handed.Batcher message))) (batcher_inputs.Mail message) now stop
        (holds_received (InOwnMail backers) (engine.batcher_mail made past) message (batcher_holds (InOwnMail backers) (InVoterMail backers) (IsGood backers) made past (handed_all backers past fine)) e) tt

    on_voter : (now : ℕ) (stop : Stop) (m : Option voter_message.Message) → Backed (engine.on_voter_mail made past now stop m)
    on_voter now stop None = tt
    on_voter now stop (Some message) = by_voter_spared member made past (voter_inputs.Mail message) now stop

    on_resolver : (now : ℕ) (stop : Stop) (m : Option MailboxMessage) → Backed (engine.on_resolver_mail made past now stop m)
    on_resolver now stop None = tt
    on_resolver now stop (Some message) = by_resolver_spared member made (engine.resolver_past past) (engine.Took sources.Resolver (Some (handed.Resolver message))) (resolver_inputs.Mail message) now stop tt

    on_handler : (now : ℕ) (stop : Stop) (m : Option HandlerMessage) → Backed (engine.on_handler_mail made past now stop m)
    on_handler now stop None = tt
    on_handler now stop (Some message) =
        by_resolver_spared member made (resolver.HandlerTaken ∷ engine.resolver_past past) (engine.Took sources.Handler (Some (handed.Handler message))) (resolver_inputs.Handler message) now stop tt

    on_fetcher : (now : ℕ) (stop : Stop) → Backed (engine.on_fetcher made past now stop)
    on_fetcher now stop = at (is_reached now (resolver.deadline_after made.resolver (engine.resolver_past past)))
      where
        at : (b : Bool) → Backed (if b then by_resolver made (engine.resolver_past past) (engine.Took sources.Fetch None) resolver_inputs.Timer now stop else engine.nothing_held sources.Fetch now stop)
        at true = by_resolver_spared member made (engine.resolver_past past) (engine.Took sources.Fetch None) resolver_inputs.Timer now stop tt
        at false = tt

    stepped_spared : (source : StepSource) (now : ℕ) (stop : Stop) → Backed (engine.stepped made past source now stop)
    unfolding engine.stepped
    stepped_spared sources.Batcher now stop = on_batcher now stop (received (engine.batcher_mail made past)) refl
    stepped_spared sources.Voter now stop = on_voter now stop (received (engine.voter_mail made past))
    stepped_spared sources.Timer now stop = by_voter_spared member made past voter_inputs.Timer now stop
    stepped_spared sources.Propose now stop = by_voter_spared member made past voter_inputs.Propose now stop
    stepped_spared sources.Verify now stop = by_voter_spared member made past voter_inputs.Verify now stop
    stepped_spared sources.Certify now stop = by_voter_spared member made past voter_inputs.Certify now stop
    stepped_spared sources.Resolver now stop = on_resolver now stop (received (engine.resolver_mail made past))
    stepped_spared sources.Handler now stop = on_handler now stop (resolver.handler_message made.resolver (engine.resolver_past past))
    stepped_spared sources.Fetch now stop = on_fetcher now stop

    fair_bytes : (sender : ℕ) (bytes : List ℕ) → ProperFrom sender channels.Resolver bytes → (fault : DecodeError) → whole resolver_message bytes ≡ Err fault → Fair member sender causes.Undecodable
    fair_bytes sender bytes p fault e = at (sender == member) refl
      where
        at : (b : Bool) → (sender == member) ≡ b → (b && true) ≡ false
        at false h = refl
        at true h = (let w = p (eqb-true sender member h) in absurd (ok_err (whole resolver_message bytes) w.0 fault w.1 e))

    let_in_spared : (sender : ℕ) (channel : Channel) (bytes : List ℕ) (now : ℕ) → FineOn (backers_of setting noted) sender channel bytes → ProperFrom sender channel bytes → Backed (engine.let_in made past sender channel bytes now)
    unfolding engine.let_in
    let_in_spared sender channels.Vote bytes now f p = by_batcher_spared (engine.Heard sender channels.Vote bytes) (batcher_inputs.Vote sender bytes) now stops.None f p
    let_in_spared sender channels.Certificate bytes now f p = by_batcher_spared (engine.Heard sender channels.Certificate bytes) (batcher_inputs.Certificate sender bytes) now stops.None f p
    let_in_spared sender channels.Resolver bytes now f p =
        by_resolver_spared member made (engine.resolver_past past) (engine.Heard sender channels.Resolver bytes) (resolver_inputs.Packet sender bytes) now stops.None (fair_bytes sender bytes p)

    taken_spared : (at : Node) (did : Did) → IsTaken setting.setup noted at made past did → Backed did
    taken_spared at did t = elim t [
      | inl h ↦
          let fine_run = fine_of setting noted o in
          let sender = h.packet.from.member in
          let proper : ProperFrom sender h.packet.channel h.packet.bytes = λ e.
          subst (λ n. ProperOn setting n h.packet.channel h.packet.bytes) e (delivered_proper setting noted o at h.ref h.packet h.found (λ bad. honest (subst (Contains (faulty_of setting.setup)) e bad))) in
          subst Backed (sym h.is)
          (heard_either Backed made past sender h.packet.channel h.packet.bytes (clock_of noted) tt
          (let_in_spared sender h.packet.channel h.packet.bytes (clock_of noted) (packet_delivered (IsFinePacket (backers_of setting noted)) noted at h.ref h.packet fine_run.packets h.found) proper))
      | inr other ↦ elim other [
        | inl s ↦ subst Backed (sym s.is) (stepped_spared s.source (clock_of noted) s.stop)
        | inr r ↦ subst Backed (sym r.is) tt
      ]
    ]

  turn_spared : (event : Event) (new : Noted) → IsTurn setting noted event new → AreSpared member new.entry.calls
  turn_spared event new t = elim t [
    | inl b ↦ subst (λ (n : Noted). AreSpared member n.entry.calls) b.is (begun_spared member setting b.at b.floor b.sections (clock_of noted) b.stop)
    | inr other ↦ elim other [
      | inl g ↦
          let fine = fine_of setting noted o in
          let lived : IsFineEngine (backers_of setting noted) g.at.member g.made g.past = subst (IsLifeFine (backers_of setting noted) g.at.member) g.running (fine.lives g.at g.runs) in
          subst (λ (n : Noted). AreSpared member n.entry.calls) g.is
          (taken_spared g.made g.past lived.batcher (engine_epoch setting noted g.at g.made g.past o g.runs g.running) lived.history g.at g.did g.taken)
      | inr rest ↦ elim rest [
        | inl c ↦ subst (λ (n : Noted). AreSpared member n.entry.calls) c.is tt
        | inr last ↦ elim last [
          | inl k ↦ subst (λ (n : Noted). AreSpared member n.entry.calls) k.is tt
          | inr a ↦ subst (AreSpared member) (sym a.calls) tt
        ]
      ]
    ]
  ]

pub run_unbarred : (setting : Setting) (noted : List Noted) → IsMostlyHonest setting noted → NoneBarred setting.setup noted
unfolding NoneBarred IsRun
run_unbarred setting [] o = tt
run_unbarred setting (noted ∷ before) o =
    let less = earlier setting noted before o in (
      (λ member honest. all_spared member noted.entry.calls (turn_spared setting before less member honest o.ran.0 noted (entry_turn setting before o.ran.0 noted o.ran.1))),
      run_unbarred setting before less,
    )
