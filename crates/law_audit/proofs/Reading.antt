-- What a voter's step does is read from what it took, from the certificates that it added, and from the own votes that it
-- appended.
use Rattle.std.proofs.Common.{◌≡◌, ℕ, Bool, true, false, cond, List, [], ◌∷◌, ◌++◌, map, filter, Option, Some, None, refl, sym, ap, ◌∙◌, subst, if◌then◌else◌}
use Rattle.std.specs.Option.{option_map, option_map_or}
use Rattle.std.proofs.lemmas.List.Elements.{filter-append}
use Rattle.simplex_values.specs.declared.answer.Answer.TheVariants as answers
use Rattle.simplex_values.specs.declared.round.Context.{Context}
use Rattle.simplex_wire.specs.declared.certificate.Certificate.{Certificate}
use Rattle.simplex_wire.specs.declared.vote.Vote.{Vote}
use Rattle.model_rules.specs.declared.request.Asked.TheVariants as asks
use Rattle.model_rules.specs.Known.{Made, Fact, FloorAt, Added, Taken, Answered, Approved, Judged, Voted, Published, Expired, Failed, Broadcast, ProposalAsked, ProposalFreed, VerifyAsked, CertifyAsked, MissingAsked, ParentAsked, Pruned, has_nullified}
use Rattle.model_rules.specs.Views.{current_of}
use Rattle.model_rules.specs.Slot.{records_answer}
use Rattle.model_rules.specs.Calls.{only_if}
use Rattle.simplex_messages.specs.declared.voter.Message.TheVariants as mail
use Rattle.simplex_messages.specs.declared.voter.VoterInput.{VoterInput}
use Rattle.simplex_messages.specs.declared.voter.VoterInput.TheVariants as inputs
use Rattle.model_steps.specs.Desk.{Doing}
use Rattle.model_steps.specs.Voter.{Standing, stepped, finished}
use Rattle.model_steps.specs.Voter as voter
use Rattle.law_member.specs.Learned.{is_lasting, lasting, is_addition, added_at, facts_of_step}
use Rattle.law_member.specs.Tidings.{is_of_proposal, of_proposals}
use Rattle.law_member.specs.VoterVotes.{nullifies, votes_at_end, votes_by_rule}
use Rattle.law_member.proofs.Adding.{some_is}
use Rattle.law_member.proofs.VoterStepping.{step_tells}
use Rattle.model_audit.specs.Alike.{is_verdict, is_vote, verdicts, own_votes, AreAlike}
use Rattle.model_audit.specs.Taking.{Taking, Deadline, Mail, Reply, payload_for, own_proposal, learned, acted, touched, given_up, newly_known, votes_then, votes_due}
use Rattle.law_audit.specs.Taken.{Takes}
use Rattle.law_audit.proofs.Alike.{same_votes_then}
use Rattle.law_audit.proofs.Finishing.{Later, finishes_later, within}
use Rattle.law_audit.proofs.Acting.{acts}

-- ---- filters

vote_lasts : (f : Fact) → is_lasting f ≡ false → is_vote f ≡ false
vote_lasts (FloorAt v p) e = refl
vote_lasts (Added c now) e = refl
vote_lasts (Taken p) e = refl
vote_lasts (Answered p) e = refl
vote_lasts (Approved p) e = refl
vote_lasts (Judged v good now) e = refl
vote_lasts (Voted vote) e = cc
vote_lasts (Published v now) e = refl
vote_lasts (Expired v r now) e = refl
vote_lasts (Failed v r) e = refl
vote_lasts (Broadcast k v) e = refl
vote_lasts (ProposalAsked v) e = refl
vote_lasts (ProposalFreed v) e = refl
vote_lasts (VerifyAsked p) e = refl
vote_lasts (CertifyAsked v) e = refl
vote_lasts (MissingAsked p v k) e = refl
vote_lasts (ParentAsked p) e = refl
vote_lasts (Pruned v) e = refl

-- what is an own vote is nothing else
only_vote : (f : Fact) → is_vote f ≡ true → (is_addition f ≡ false) × (is_verdict f ≡ false) × (is_of_proposal f ≡ false)
only_vote (FloorAt v p) e = cc
only_vote (Added c now) e = cc
only_vote (Taken p) e = cc
only_vote (Answered p) e = cc
only_vote (Approved p) e = cc
only_vote (Judged v good now) e = cc
only_vote (Voted vote) e = (refl, refl, refl)
only_vote (Published v now) e = cc
only_vote (Expired v r now) e = cc
only_vote (Failed v r) e = cc
only_vote (Broadcast k v) e = cc
only_vote (ProposalAsked v) e = cc
only_vote (ProposalFreed v) e = cc
only_vote (VerifyAsked p) e = cc
only_vote (CertifyAsked v) e = cc
only_vote (MissingAsked p v k) e = cc
only_vote (ParentAsked p) e = cc
only_vote (Pruned v) e = cc

twice : (test : Fact → Bool) (xs : List Fact) → filter test (filter test xs) ≡ filter test xs
twice test = within test test (λ f e. e)

none_of : (test other : Fact → Bool) → ((f : Fact) → other f ≡ true → test f ≡ false) → (xs : List Fact) → filter test (filter other xs) ≡ []
none_of test other fails [] = refl
none_of test other fails (f ∷ xs) = at (none_of test other fails xs) (other f) refl
  where
    at : filter test (filter other xs) ≡ [] → (b : Bool) → other f ≡ b → filter test (cond b (f ∷ filter other xs) (filter other xs)) ≡ []
    at same true e = ap (λ b. cond b (f ∷ filter test (filter other xs)) (filter test (filter other xs))) (fails f e) ∙ same
    at same false e = same

added_kept : (now : ℕ) (added : List Certificate) → (filter is_addition (map (added_at now) added) ≡ map (added_at now) added) × (filter is_verdict (map (added_at now) added) ≡ []) × (filter is_vote (map (added_at now) added) ≡ []) × (filter is_of_proposal (map (added_at now) added) ≡ [])
added_kept now [] = (refl, refl, refl, refl)
added_kept now (c ∷ rest) = let k = added_kept now rest in (ap (λ xs. Added c now ∷ xs) k.0, k.1, k.2, k.3)

-- ---- what is learned is no certificate and no own vote

abbrev NoSuch : List Fact → Type 0
NoSuch xs = (filter is_addition xs ≡ []) × (filter is_vote xs ≡ [])

only_if_other : (t : Bool) (f : Fact) → is_addition f ≡ false → is_vote f ≡ false → NoSuch (only_if t f)
only_if_other true f e g = (ap (λ b. cond b (f ∷ []) []) e, ap (λ b. cond b (f ∷ []) []) g)
only_if_other false f e g = (refl, refl)

own_other : (made : Made) (known : List Fact) (context : Context) (o : Option (List ℕ)) → NoSuch (option_map_or (own_proposal made known context) o [])
own_other made known context None = (refl, refl)
own_other made known context (Some payload) = only_if_other (records_answer made known context.round.view) _ refl refl

learned_other : (made : Made) (now : ℕ) (known : List Fact) (taking : Taking) → NoSuch (learned made now known taking)
unfolding learned
learned_other made now known Deadline = (refl, refl)
learned_other made now known (Mail (mail.Proposal proposal)) = only_if_other _ _ refl refl
learned_other made now known (Mail (mail.Timeout round reason)) = (refl, refl)
learned_other made now known (Mail (mail.Verified certificate)) = (refl, refl)
learned_other made now known (Reply (asks.Prepare context) answer) = own_other made known context (payload_for known context answer)
learned_other made now known (Reply (asks.Propose context) answer) = own_other made known context (payload_for known context answer)
learned_other made now known (Reply (asks.Verify context payload) (answers.Verdict true)) = (refl, refl)
learned_other made now known (Reply (asks.Verify context payload) (answers.Verdict false)) = (refl, refl)
learned_other made now known (Reply (asks.Verify context payload) (answers.Payload p)) = (refl, refl)
learned_other made now known (Reply (asks.Verify context payload) (answers.Handoff decision)) = (refl, refl)
learned_other made now known (Reply (asks.Verify context payload) answers.Closed) = (refl, refl)
learned_other made now known (Reply (asks.Certify round payload) (answers.Verdict good)) = only_if_other _ _ refl refl
learned_other made now known (Reply (asks.Certify round payload) (answers.Payload p)) = (refl, refl)
learned_other made now known (Reply (asks.Certify round payload) (answers.Handoff decision)) = (refl, refl)
learned_other made now known (Reply (asks.Certify round payload) answers.Closed) = (refl, refl)

newly_votes : (made : Made) (known : List Fact) (taking : Taking) → (filter is_addition (newly_known made known taking) ≡ []) × (filter is_verdict (newly_known made known taking) ≡ []) × (filter is_of_proposal (newly_known made known taking) ≡ [])
newly_votes made known Deadline = at (has_nullified known (current_of made known)) (given_up made known Deadline)
  where
    votes_alone : (vs : List Vote) → (filter is_addition (map Voted vs) ≡ []) × (filter is_verdict (map Voted vs) ≡ []) × (filter is_of_proposal (map Voted vs) ≡ [])
    votes_alone [] = (refl, refl, refl)
    votes_alone (v ∷ vs) = votes_alone vs

    at : (b : Bool) (vs : List Vote) → (filter is_addition (if b then [] else map Voted vs) ≡ []) × (filter is_verdict (if b then [] else map Voted vs) ≡ []) × (filter is_of_proposal (if b then [] else map Voted vs) ≡ [])
    at true vs = (refl, refl, refl)
    at false vs = votes_alone vs
newly_votes made known (Mail message) = (refl, refl, refl)
newly_votes made known (Reply asked answer) = (refl, refl, refl)

-- ---- of three lists before another

parts : (test : Fact → Bool) (xs ys zs known : List Fact) → filter test (xs ++ (ys ++ (zs ++ known))) ≡ filter test xs ++ (filter test ys ++ (filter test zs ++ filter test known))
parts test xs ys zs known =
    filter-append test xs (ys ++ (zs ++ known))
    ∙ ap (λ rest. filter test xs ++ rest) (filter-append test ys (zs ++ known) ∙ ap (λ rest. filter test ys ++ rest) (filter-append test zs known))

module _ (made : Made) (now : ℕ) (input : VoterInput) (s : Standing) (d : Doing) (taking : Taking) (takes : Takes s input taking) (step : stepped made now s input ≡ Some d) where
  pub record IsRead : Type 0 where
    pub knows : AreAlike (own_votes (facts_of_step now d.calls) ++ acted made now s.desk.known d.added taking) d.desk.known
    pub votes : votes_due made now s.desk.known d.added taking ≡ votes_by_rule made now s input

  ruled : (i : VoterInput) → Takes s i taking → given_up made s.desk.known taking ≡ nullifies made s.desk.known i
  ruled (inputs.Mail message) t = rw t refl
  ruled inputs.Timer t = rw t refl
  ruled inputs.Propose t = rw t.same refl
  ruled inputs.Verify t = rw t.same refl
  ruled inputs.Certify t = rw t.same refl

  at_end : (after : Doing) (o : Option ℕ) → votes_then made after.desk.known o ≡ votes_at_end made (after, o)
  at_end after None = refl
  at_end after (Some view) = refl

  by_rule : (outcome : Doing × Option ℕ) → voter.acted made now s input ≡ Some outcome → nullifies made s.desk.known input ++ votes_at_end made outcome ≡ votes_by_rule made now s input
  unfolding votes_by_rule
  by_rule outcome e = rw e refl

  read_from : (after : Doing) (o : Option ℕ) → voter.acted made now s input ≡ Some (after, o) → Later after.desk.known d.desk.known → IsRead
  unfolding votes_due
  read_from after o e later =
      let known = s.desk.known in
      let tells = step_tells made now input s d step in
      let a = acts made now s input taking (after, o) takes e in
      let news = learned made now known taking in
      let newly = newly_known made known taking in
      let mine = map (added_at now) d.added in
      let theirs = map (added_at now) after.added in
      let own = own_votes (facts_of_step now d.calls) in
      let other = learned_other made now known taking in
      let nulls = newly_votes made known taking in
      let kept = added_kept now d.added in
      let keeps = added_kept now after.added in
      let none_added : filter is_addition own ≡ [] = none_of is_addition is_vote (λ f h. (only_vote f h).0) (facts_of_step now d.calls) in
      let none_judged : filter is_verdict own ≡ [] = none_of is_verdict is_vote (λ f h. (only_vote f h).1) (facts_of_step now d.calls) in
      let none_proposed : filter is_of_proposal own ≡ [] = none_of is_of_proposal is_vote (λ f h. (only_vote f h).2) (facts_of_step now d.calls) in
      let judged : verdicts news ++ verdicts known ≡ verdicts after.desk.known =
      sym (parts is_verdict newly news theirs known ∙ rw (nulls.1, keeps.1) refl) ∙ a.knows.judged in
      let proposed : of_proposals news ++ of_proposals known ≡ of_proposals after.desk.known =
      sym (parts is_of_proposal newly news theirs known ∙ rw (nulls.2, keeps.3) refl) ∙ a.knows.proposals in
      let voted : own_votes newly ++ own_votes known ≡ own_votes after.desk.known =
      sym (parts is_vote newly news theirs known ∙ rw (other.1, keeps.2) refl) ∙ a.knows.voted in
      let written : own_votes d.desk.known ≡ own ++ own_votes known =
      sym (within is_vote is_lasting vote_lasts d.desk.known) ∙ ap own_votes tells.written ∙ filter-append is_vote (facts_of_step now d.calls) (lasting known)
      ∙ ap (λ xs. own ++ xs) (within is_vote is_lasting vote_lasts known) in
      let before_votes : AreAlike (newly ++ acted made now known d.added taking) after.desk.known =
      record {
        certificates = parts is_addition newly news mine known ∙ rw (nulls.0, other.0, kept.0) refl ∙ sym tells.new ∙ later.certificates;
        judged = parts is_verdict newly news mine known ∙ rw (nulls.1, kept.1) refl ∙ judged;
        voted = parts is_vote newly news mine known ∙ rw (other.1, kept.2) refl ∙ voted;
        proposals = parts is_of_proposal newly news mine known ∙ rw (nulls.2, kept.3) refl ∙ proposed;
      } in
      record {
        knows = record {
          certificates = parts is_addition own news mine known ∙ rw (none_added, other.0, kept.0) refl ∙ sym tells.new;
          judged = parts is_verdict own news mine known ∙ rw (none_judged, kept.1) refl ∙ judged ∙ sym later.judged;
          voted = parts is_vote own news mine known ∙ rw (twice is_vote (facts_of_step now d.calls), other.1, kept.2) refl ∙ sym written;
          proposals = parts is_of_proposal own news mine known ∙ rw (none_proposed, kept.3) refl ∙ proposed ∙ sym later.proposals;
        };
        votes =
            ap (λ vs. vs ++ votes_then made (newly ++ acted made now known d.added taking) (touched made known taking)) (ruled input takes)
            ∙ ap (λ t. nullifies made known input ++ votes_then made (newly ++ acted made now known d.added taking) t) (sym a.touches)
            ∙ ap (λ vs. nullifies made known input ++ vs) (same_votes_then made (newly ++ acted made now known d.added taking) after.desk.known before_votes o ∙ at_end after o)
            ∙ by_rule (after, o) e;
      }

  pub is_read : IsRead
  unfolding stepped
  is_read = at (voter.acted made now s input) refl step
    where
      at : (x : Option (Doing × Option ℕ)) → voter.acted made now s input ≡ x → option_map (finished made now (current_of made s.desk.known)) x ≡ Some d → IsRead
      at None f h = cc
      at (Some outcome) f h =
          read_from outcome.0 outcome.1 f
          (subst (λ (x : Doing). Later outcome.0.desk.known x.desk.known) (some_is _ d h) (finishes_later made now (current_of made s.desk.known) outcome.0 outcome.1))
