-- What a voter's step takes of what it holds.
use Rattle.std.specs.Prelude.{ℕ, ◌≡◌, ◌⊎◌, List, Some}
use Rattle.simplex_values.specs.declared.answer.Answer.{Answer}
use Rattle.simplex_values.specs.declared.answer.Answer.TheVariants as answers
use Rattle.simplex_values.specs.declared.answer.Handoff.TheVariants as handoffs
use Rattle.simplex_values.specs.declared.round.Context.{Context}
use Rattle.simplex_values.specs.declared.round.Round.{Round}
use Rattle.model_rules.specs.declared.request.Asked.{Asked}
use Rattle.model_rules.specs.declared.request.Asked.TheVariants as asks
use Rattle.model_rules.specs.declared.request.ProposalState.{ProposalState}
use Rattle.model_rules.specs.declared.request.ProposalState.TheVariants.{Held}
use Rattle.model_rules.specs.Known.{Made, Fact}
use Rattle.model_rules.specs.Requests.{verify_asked}
use Rattle.model_rules.specs.Calls.{proposal_on}
use Rattle.model_rules.specs.Pending.{Pending, Opened}
use Rattle.simplex_messages.specs.declared.voter.VoterInput.{VoterInput}
use Rattle.simplex_messages.specs.declared.voter.VoterInput.TheVariants as inputs
use Rattle.model_steps.specs.Voter.{Standing, answer_to, first_answered}
use Rattle.model_audit.specs.Alike.{AreAlike}
use Rattle.model_audit.specs.Taking.{Taking, Deadline, Mail, Reply}

-- the answer that came; of a held candidate the one that staged it
abbrev pub IsGiven : Standing → Pending → ProposalState → Answer → Type 0
IsGiven s p (Held payload) answer = answer ≡ answers.Handoff (handoffs.Stage payload)
IsGiven s p state answer = answer_to s.answers p.number ≡ Some answer

-- the pending proposal's request, and its answer
pub record TakesProposal (s : Standing) (taking : Taking) : Type 0 where
  pub pending : Pending
  pub stands : s.desk.proposal ≡ Some pending
  pub asked : Asked
  pub request : (asked ≡ asks.Prepare pending.context) ⊎ (asked ≡ asks.Propose pending.context)
  pub answer : Answer
  pub given : IsGiven s pending pending.state answer
  pub same : taking ≡ Reply asked answer

-- the pending Verify's request, on the proposal that was asked for, and its answer
pub record TakesVerify (s : Standing) (taking : Taking) : Type 0 where
  pub opened : Opened
  pub stands : s.desk.verify ≡ Some opened
  pub context : Context
  pub payload : List ℕ
  pub request : verify_asked s.desk.known opened.view ≡ Some (proposal_on context payload)
  pub view : context.round.view ≡ opened.view
  pub answer : Answer
  pub given : answer_to s.answers opened.number ≡ Some answer
  pub same : taking ≡ Reply (asks.Verify context payload) answer

-- the Certify that was answered first, and its answer
pub record TakesCertify (s : Standing) (taking : Taking) : Type 0 where
  pub opened : Opened
  pub answer : Answer
  pub given : first_answered s.desk.certify s.answers ≡ Some (opened, answer)
  pub round : Round
  pub payload : List ℕ
  pub view : round.view ≡ opened.view
  pub same : taking ≡ Reply (asks.Certify round payload) answer

-- the step on this input takes this
abbrev pub Takes : Standing → VoterInput → Taking → Type 0
Takes s (inputs.Mail message) taking = taking ≡ Mail message
Takes s inputs.Timer taking = taking ≡ Deadline
Takes s inputs.Propose taking = TakesProposal s taking
Takes s inputs.Verify taking = TakesVerify s taking
Takes s inputs.Certify taking = TakesCertify s taking

module _ {V R : Type 0} where
  -- members of whom what is known is alike answer alike by this rule
  abbrev pub SameForAlike : (Made → List Fact → V → R) → Type 0
  SameForAlike rule = (made : Made) (a b : List Fact) (value : V) → AreAlike a b → rule made a value ≡ rule made b value
