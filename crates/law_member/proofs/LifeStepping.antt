-- A step, whatever its source holds.
use Rattle.std.proofs.Common.{◌≡◌, ℕ, ◌<◌, Bool, true, false, nat_le, List, [], Option, Some, None, refl, ◌∙◌, subst, if◌then◌else◌}
use Rattle.std.specs.Option.{option_map}
use Rattle.simplex_values.specs.declared.answer.Answer.{Answer}
use Rattle.simplex_values.specs.Terms.{greatest_view}
use Rattle.simplex_journal.specs.Journal.{Section}
use Rattle.simplex_messages.specs.declared.step.Stop.{Stop}
use Rattle.simplex_messages.specs.declared.voter.VoterInput.{VoterInput}
use Rattle.simplex_messages.specs.declared.voter.VoterInput.TheVariants as inputs
use Rattle.model_rules.specs.declared.request.ProposalState.{ProposalState}
use Rattle.model_rules.specs.declared.request.ProposalState.TheVariants.{Preparing, Proposing, Waiting, Held, Closed}
use Rattle.model_rules.specs.Known.{Made}
use Rattle.model_rules.specs.Views.{current_of}
use Rattle.model_rules.specs.Ancestry.{is_certified}
use Rattle.model_rules.specs.Deadline.{deadline_of}
use Rattle.model_rules.specs.Pending.{Pending, Opened, pending_parent}
use Rattle.model_steps.specs.Desk.{Doing, begun}
use Rattle.model_steps.specs.Voter.{Standing, answer_to, propose, act_on_deadline, act_on_proposal, act_on_verify, act_on_certify, take_proposal, first_answered, acted, end_of_step, finished, stepped}
use Rattle.model_steps.specs.Performed.{performed}
use Rattle.law_agreement.specs.Member.{Member, run}
use Rattle.law_member.specs.Life.{IsRunning, IsLived}
use Rattle.law_member.proofs.Constructing.{AreSilent, all_silent}
use Rattle.law_member.proofs.Living.{behind}
use Rattle.law_member.proofs.Silent.{some_is, gives, gives_some, silent_acted}
use Rattle.law_member.proofs.Publishing.{Publishing, step_ends, iteration_publishes}
use Rattle.law_member.proofs.LifeActing.{Touched, Repeats, begin, plainly, mail_touches, deadline_touches, propose_touches, proposal_touches, verify_touches, answer_certify_touches}
use Rattle.law_member.proofs.Stopping.{lived}

taken_proposal : (made : Made) (m : Member) (now : ℕ) (s : Standing) (sections : List Section) (p : Pending) (at : ProposalState) (outcome : Doing × Option ℕ)
    → IsRunning made s.desk.known sections m → take_proposal made now s p at ≡ Some outcome → Repeats made m outcome
taken_proposal made m now s sections p (Held payload) outcome r e = held (is_certified s.desk.known (pending_parent p)) e
  where
    held : (t : Bool) → (if t then Some (propose made p payload (begun s.desk)) else None) ≡ Some outcome → Repeats made m outcome
    held true h = subst (Repeats made m) (some_is _ outcome h) (plainly made m _ r.outbox (propose_touches made m p payload (begun s.desk) (begin made s.desk sections m r)))
    held false h = cc
taken_proposal made m now s sections p Preparing outcome r e =
    gives (Repeats made m) (λ answer. act_on_proposal made now p answer (begun s.desk)) (answer_to s.answers p.number) outcome
    (λ answer. plainly made m _ r.outbox (proposal_touches made m now p answer (begun s.desk) (begin made s.desk sections m r))) e
taken_proposal made m now s sections p Proposing outcome r e =
    gives (Repeats made m) (λ answer. act_on_proposal made now p answer (begun s.desk)) (answer_to s.answers p.number) outcome
    (λ answer. plainly made m _ r.outbox (proposal_touches made m now p answer (begun s.desk) (begin made s.desk sections m r))) e
taken_proposal made m now s sections p Waiting outcome r e = cc
taken_proposal made m now s sections p Closed outcome r e = cc

pub acted_repeats : (made : Made) (m : Member) (now : ℕ) (s : Standing) (sections : List Section) (input : VoterInput) (outcome : Doing × Option ℕ)
    → current_of made s.desk.known < greatest_view → IsRunning made s.desk.known sections m → acted made now s input ≡ Some outcome → Repeats made m outcome
unfolding acted
acted_repeats made m now s sections (inputs.Mail message) outcome low r e =
    subst (Repeats made m) (some_is _ outcome e) (plainly made m _ r.outbox (mail_touches made m now message (begun s.desk) (begin made s.desk sections m r)))
acted_repeats made m now s sections inputs.Timer outcome low r e = due (nat_le (deadline_of made s.desk.known).0 now) e
  where
    due : (t : Bool) → (if t then Some (act_on_deadline made now (begun s.desk), Some (current_of made s.desk.known)) else None) ≡ Some outcome → Repeats made m outcome
    due true h = subst (Repeats made m) (some_is _ outcome h) (deadline_touches made m now s.desk sections low r)
    due false h = cc
acted_repeats made m now s sections inputs.Propose outcome low r e =
    gives_some (Repeats made m) (λ (p : Pending). take_proposal made now s p p.state) s.desk.proposal outcome
    (λ p. taken_proposal made m now s sections p p.state outcome r) e
acted_repeats made m now s sections inputs.Verify outcome low r e =
    gives_some (Repeats made m) (λ (v : Opened). option_map (λ answer. act_on_verify made now v answer (begun s.desk)) (answer_to s.answers v.number)) s.desk.verify outcome
    (λ v. gives (Repeats made m) (λ answer. act_on_verify made now v answer (begun s.desk)) (answer_to s.answers v.number) outcome
    (λ answer. plainly made m _ r.outbox (verify_touches made m now v answer (begun s.desk) (begin made s.desk sections m r)))) e
acted_repeats made m now s sections inputs.Certify outcome low r e =
    gives (Repeats made m) (λ (taken : Opened × Answer). act_on_certify made now taken.0 taken.1 (begun s.desk)) (first_answered s.desk.certify s.answers) outcome
    (λ taken. plainly made m _ r.outbox (answer_certify_touches made m now taken.0 taken.1 (begun s.desk) (begin made s.desk sections m r))) e

finished_publishes : (made : Made) (n : Member) (now before : ℕ) (outcome : Doing × Option ℕ) → Touched made n outcome → AreSilent outcome.0.handed
    → Publishing made n (finished made now before outcome) []
unfolding finished
finished_publishes made n now before (d, None) t silent = iteration_publishes made n now d (record { stores = t; constructed = all_silent (behind n d.calls).sent d.handed silent })
finished_publishes made n now before (d, Some view) t silent =
    iteration_publishes made n now (end_of_step made now before view d) (step_ends made n now before view d t silent)

pub step_lived : (made : Made) (now : ℕ) (input : VoterInput) (stop : Stop) (s : Standing) (sections : List Section) (d : Doing) (m : Member)
    → current_of made s.desk.known < greatest_view → IsRunning made s.desk.known sections m → stepped made now s input ≡ Some d
    → IsLived made d.desk.known (performed stop d sections) m
unfolding stepped
step_lived made now input stop s sections d m low r e =
    at (acted made now s input) refl e
  where
    one : (outcome : Doing × Option ℕ) → Repeats made m outcome → AreSilent outcome.0.handed → finished made now (current_of made s.desk.known) outcome ≡ d
        → IsLived made d.desk.known (performed stop d sections) m
    one outcome t silent same =
        lived made m t.first stop d sections t.legal t.brought t.known t.sent
        (record { journal = t.journal ∙ r.journal; rising = r.rising; own = r.own })
        (subst (λ x. Publishing made (run m t.first) x []) same (finished_publishes made (run m t.first) now (current_of made s.desk.known) outcome t.touched silent)) t.box

    at : (o : Option (Doing × Option ℕ)) → acted made now s input ≡ o → option_map (finished made now (current_of made s.desk.known)) o ≡ Some d
        → IsLived made d.desk.known (performed stop d sections) m
    at None f h = cc
    at (Some outcome) f h = one outcome (acted_repeats made m now s sections input outcome low r f) (silent_acted made now s input outcome f) (some_is _ d h)
