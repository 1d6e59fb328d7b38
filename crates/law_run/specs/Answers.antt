-- Which payload an answer of the application stands for.
use Rattle.std.specs.Prelude.{ℕ, true, false, List, Option, Some, None}
use Rattle.std.specs.Option.{option_and_then}
use Rattle.simplex_values.specs.declared.answer.Answer.{Answer}
use Rattle.simplex_values.specs.declared.answer.Answer.TheVariants as answers
use Rattle.simplex_values.specs.declared.answer.Handoff.{Handoff}
use Rattle.simplex_values.specs.declared.answer.Handoff.TheVariants as handoffs
use Rattle.model_rules.specs.declared.request.Asked.{Asked}
use Rattle.model_rules.specs.declared.request.Asked.TheVariants as asks

-- the payload that a request asks to judge
abbrev pub judged_in : Asked → Option (List ℕ)
judged_in (asks.Verify context payload) = Some payload
judged_in (asks.Certify round payload) = Some payload
judged_in _ = None

-- the payload that a decision gives
abbrev pub given_in : Handoff (List ℕ) → Option (List ℕ)
given_in handoffs.Wait = None
given_in (handoffs.Stage payload) = Some payload
given_in (handoffs.Vote payload) = Some payload

-- the payload that an answer to this request gives, or finds good
abbrev pub vouched_in : Option Asked → Answer → Option (List ℕ)
vouched_in asked (answers.Payload payload) = Some payload
vouched_in asked (answers.Handoff decision) = given_in decision
vouched_in asked (answers.Verdict true) = option_and_then judged_in asked
vouched_in asked (answers.Verdict false) = None
vouched_in asked answers.Closed = None
