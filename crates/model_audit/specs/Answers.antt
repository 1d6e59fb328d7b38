-- Which answers a request takes.
use Rattle.std.specs.Prelude.{Bool, true, false}
use Rattle.simplex_values.specs.declared.answer.Answer.{Answer}
use Rattle.simplex_values.specs.declared.answer.Answer.TheVariants as answers
use Rattle.model_rules.specs.declared.request.Asked.{Asked}
use Rattle.model_rules.specs.declared.request.Asked.TheVariants as asks

-- an answer that a request takes
abbrev pub answer_fits : Asked → Answer → Bool
answer_fits request answers.Closed = true
answer_fits (asks.Prepare context) (answers.Handoff decision) = true
answer_fits (asks.Propose context) (answers.Payload payload) = true
answer_fits (asks.Verify context payload) (answers.Verdict good) = true
answer_fits (asks.Certify round payload) (answers.Verdict good) = true
answer_fits _ _ = false
