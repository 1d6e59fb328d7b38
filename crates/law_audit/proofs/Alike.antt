-- On lists that are alike what is taken comes to the same.
use Rattle.std.proofs.Common.{◌≡◌, ℕ, Bool, true, false, List, [], ◌++◌, map, filter, Option, Some, None, refl, sym, ap, ◌∙◌, subst}
use Rattle.std.specs.Option.{option_map_or}
use Rattle.std.proofs.lemmas.List.Elements.{filter-append}
use Rattle.simplex_values.specs.declared.answer.Answer.{Answer}
use Rattle.simplex_values.specs.declared.answer.Answer.TheVariants as answers
use Rattle.simplex_values.specs.declared.answer.Handoff.TheVariants as handoffs
use Rattle.simplex_values.specs.declared.round.Context.{Context}
use Rattle.simplex_wire.specs.declared.certificate.Certificate.{Certificate}
use Rattle.simplex_wire.specs.declared.vote.Vote.TheVariants as votes
use Rattle.model_rules.specs.declared.request.Asked.TheVariants as asks
use Rattle.model_rules.specs.Known.{Made, Fact, Voted}
use Rattle.model_rules.specs.Views.{current_of}
use Rattle.model_rules.specs.Votes.{notarize_at, finalize_at}
use Rattle.model_rules.specs.Slot.{records_answer}
use Rattle.simplex_messages.specs.declared.voter.Message.TheVariants as mail
use Rattle.model_steps.specs.Voter.{certificate_view}
use Rattle.law_member.specs.Learned.{is_addition, added_at}
use Rattle.law_member.specs.Tidings.{is_of_proposal}
use Rattle.law_member.specs.VoterVotes.{votes_of, votes_on}
use Rattle.model_audit.specs.Alike.{is_verdict, is_vote, AreAlike}
use Rattle.law_audit.proofs.Looking.{same_current, same_records, same_records_answer, same_certified, same_takes, same_admits, same_nullified, same_notarize_at, same_finalize_at}
use Rattle.model_audit.specs.Taking.{Taking, Deadline, Mail, Reply, payload_for, own_proposal, learned, acted, view_if, touched, given_up, newly_known, votes_then, votes_due}

-- ---- lists that are alike

pub alike_itself : (a : List Fact) → AreAlike a a
alike_itself a = record { certificates = refl; judged = refl; voted = refl; proposals = refl }

pub alike_then : (a b c : List Fact) → AreAlike a b → AreAlike b c → AreAlike a c
alike_then a b c p q = record { certificates = p.certificates ∙ q.certificates; judged = p.judged ∙ q.judged; voted = p.voted ∙ q.voted; proposals = p.proposals ∙ q.proposals }

pub alike_turned : (a b : List Fact) → AreAlike a b → AreAlike b a
alike_turned a b p = record { certificates = sym p.certificates; judged = sym p.judged; voted = sym p.voted; proposals = sym p.proposals }

behind : (test : Fact → Bool) (xs a b : List Fact) → filter test a ≡ filter test b → filter test (xs ++ a) ≡ filter test (xs ++ b)
behind test xs a b e = filter-append test xs a ∙ ap (λ rest. filter test xs ++ rest) e ∙ sym (filter-append test xs b)

pub alike_behind : (xs a b : List Fact) → AreAlike a b → AreAlike (xs ++ a) (xs ++ b)
alike_behind xs a b p =
    record { certificates = behind is_addition xs a b p.certificates; judged = behind is_verdict xs a b p.judged; voted = behind is_vote xs a b p.voted; proposals = behind is_of_proposal xs a b p.proposals }

-- ---- what is taken comes to the same

module _ (made : Made) (a b : List Fact) (alike : AreAlike a b) where
  same_payload : (context : Context) (answer : Answer) → payload_for a context answer ≡ payload_for b context answer
  same_payload context (answers.Payload payload) = refl
  same_payload context (answers.Handoff handoffs.Wait) = refl
  same_payload context (answers.Handoff (handoffs.Stage payload)) = rw (same_certified a b alike context.parent.view) refl
  same_payload context (answers.Handoff (handoffs.Vote payload)) = refl
  same_payload context (answers.Verdict good) = refl
  same_payload context answers.Closed = refl

  same_own : (context : Context) (o : Option (List ℕ)) → option_map_or (own_proposal made a context) o [] ≡ option_map_or (own_proposal made b context) o []
  same_own context None = refl
  same_own context (Some payload) = rw (same_records_answer a b alike made context.round.view) refl

  same_view : (context : Context) (o : Option (List ℕ)) → option_map_or (λ payload. view_if (records_answer made a context.round.view) context.round.view) o None
      ≡ option_map_or (λ payload. view_if (records_answer made b context.round.view) context.round.view) o None
  same_view context None = refl
  same_view context (Some payload) = rw (same_records_answer a b alike made context.round.view) refl

  same_learned : (now : ℕ) (taking : Taking) → learned made now a taking ≡ learned made now b taking
  unfolding learned
  same_learned now Deadline = refl
  same_learned now (Mail (mail.Proposal proposal)) = rw (same_records a b alike made proposal) refl
  same_learned now (Mail (mail.Timeout round reason)) = refl
  same_learned now (Mail (mail.Verified certificate)) = refl
  same_learned now (Reply (asks.Prepare context) answer) =
      ap (λ o. option_map_or (own_proposal made a context) o []) (same_payload context answer) ∙ same_own context (payload_for b context answer)
  same_learned now (Reply (asks.Propose context) answer) =
      ap (λ o. option_map_or (own_proposal made a context) o []) (same_payload context answer) ∙ same_own context (payload_for b context answer)
  same_learned now (Reply (asks.Verify context payload) answer) = at answer
    where
      at : (answer : Answer) → learned made now a (Reply (asks.Verify context payload) answer) ≡ learned made now b (Reply (asks.Verify context payload) answer)
      at (answers.Payload p) = refl
      at (answers.Handoff decision) = refl
      at (answers.Verdict true) = refl
      at (answers.Verdict false) = refl
      at answers.Closed = refl
  same_learned now (Reply (asks.Certify round payload) answer) = at answer
    where
      at : (answer : Answer) → learned made now a (Reply (asks.Certify round payload) answer) ≡ learned made now b (Reply (asks.Certify round payload) answer)
      at (answers.Payload p) = refl
      at (answers.Handoff decision) = refl
      at (answers.Verdict good) = rw (same_takes a b alike round.view) refl
      at answers.Closed = refl

  pub same_touched : (taking : Taking) → touched made a taking ≡ touched made b taking
  unfolding touched
  same_touched Deadline = rw (same_current a b alike made) refl
  same_touched (Mail (mail.Proposal proposal)) = rw (same_records a b alike made proposal) refl
  same_touched (Mail (mail.Timeout round reason)) = refl
  same_touched (Mail (mail.Verified certificate)) = rw (same_admits a b alike made (certificate_view certificate)) refl
  same_touched (Reply (asks.Prepare context) answer) =
      ap (λ o. option_map_or (λ payload. view_if (records_answer made a context.round.view) context.round.view) o None) (same_payload context answer) ∙ same_view context (payload_for b context answer)
  same_touched (Reply (asks.Propose context) answer) =
      ap (λ o. option_map_or (λ payload. view_if (records_answer made a context.round.view) context.round.view) o None) (same_payload context answer) ∙ same_view context (payload_for b context answer)
  same_touched (Reply (asks.Verify context payload) answer) = refl
  same_touched (Reply (asks.Certify round payload) answer) = at answer
    where
      at : (answer : Answer) → touched made a (Reply (asks.Certify round payload) answer) ≡ touched made b (Reply (asks.Certify round payload) answer)
      at (answers.Payload p) = refl
      at (answers.Handoff decision) = refl
      at (answers.Verdict good) = rw (same_takes a b alike round.view) refl
      at answers.Closed = refl

  pub same_given_up : (taking : Taking) → given_up made a taking ≡ given_up made b taking
  same_given_up Deadline = rw (same_current a b alike made) refl
  same_given_up (Mail message) = refl
  same_given_up (Reply asked answer) = refl

  pub same_newly : (taking : Taking) → newly_known made a taking ≡ newly_known made b taking
  same_newly Deadline = rw (same_current a b alike made, same_nullified a b alike (current_of made b)) refl
  same_newly (Mail message) = refl
  same_newly (Reply asked answer) = refl

  pub alike_acted : (now : ℕ) (added : List Certificate) (taking : Taking) → AreAlike (acted made now a added taking) (acted made now b added taking)
  alike_acted now added taking =
      subst (λ xs. AreAlike (xs ++ (map (added_at now) added ++ a)) (acted made now b added taking)) (sym (same_learned now taking))
      (alike_behind (learned made now b taking) (map (added_at now) added ++ a) (map (added_at now) added ++ b) (alike_behind (map (added_at now) added) a b alike))

  -- ---- the votes on a view

  pub same_votes_on : (view : ℕ) → votes_on made a view ≡ votes_on made b view
  unfolding votes_on
  same_votes_on view =
      let first : votes_of votes.Notarize (notarize_at made a view) ≡ votes_of votes.Notarize (notarize_at made b view) = ap (votes_of votes.Notarize) (same_notarize_at a b alike made view) in
      let given = votes_of votes.Notarize (notarize_at made b view) in
      ap (λ xs. xs ++ votes_of votes.Finalize (finalize_at made (map Voted xs ++ a) view)) first
      ∙ ap (λ o. given ++ votes_of votes.Finalize o) (same_finalize_at (map Voted given ++ a) (map Voted given ++ b) (alike_behind (map Voted given) a b alike) made view)

  pub same_votes_then : (o : Option ℕ) → votes_then made a o ≡ votes_then made b o
  same_votes_then None = refl
  same_votes_then (Some view) = same_votes_on view

pub same_votes_due : (made : Made) (a b : List Fact) → AreAlike a b → (now : ℕ) (added : List Certificate) (taking : Taking) → votes_due made now a added taking ≡ votes_due made now b added taking
unfolding votes_due
same_votes_due made a b alike now added taking =
    let before = newly_known made a taking ++ acted made now a added taking in
    let after = newly_known made b taking ++ acted made now b added taking in
    let both : AreAlike before after =
    subst (λ xs. AreAlike (xs ++ acted made now a added taking) after) (sym (same_newly made a b alike taking))
    (alike_behind (newly_known made b taking) (acted made now a added taking) (acted made now b added taking) (alike_acted made a b alike now added taking)) in
    ap (λ xs. xs ++ votes_then made before (touched made a taking)) (same_given_up made a b alike taking)
    ∙ ap (λ o. given_up made b taking ++ votes_then made before o) (same_touched made a b alike taking)
    ∙ ap (λ xs. given_up made b taking ++ xs) (same_votes_then made before after both (touched made b taking))
