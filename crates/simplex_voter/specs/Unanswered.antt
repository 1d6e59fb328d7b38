-- The open requests to the application that have no answer yet.
use Rattle.std.specs.Prelude.{ℕ, List, Option, Some, None, find, if◌then◌else◌}
use Rattle.std.specs.Option.{is_none, option_map, option_and_then}
use Rattle.simplex_values.specs.declared.answer.Answer.{Answer}
use Rattle.model_rules.specs.declared.request.ProposalState.{ProposalState}
use Rattle.model_rules.specs.declared.request.ProposalState.TheVariants.{Preparing, Proposing}
use Rattle.model_rules.specs.Pending.{Pending, Opened}
use Rattle.model_steps.specs.Voter.{Standing, answer_to}
use Rattle.simplex_voter.specs.declared.kind.AskKind.{AskKind}
use Rattle.simplex_voter.specs.declared.kind.AskKind.TheVariants.{Prepare, Propose, Verify, Certify}

-- the request of this number, where it has no answer
abbrev pub if_unanswered : List (ℕ × Answer) → ℕ → Option ℕ
if_unanswered answers number = if is_none (answer_to answers number) then Some number else None

-- the request of a pending proposal that stands so, where it is a Prepare, and where it is a Propose
abbrev pub prepare_of : ProposalState → ℕ → Option ℕ
prepare_of Preparing number = Some number
prepare_of _ number = None

abbrev pub propose_of : ProposalState → ℕ → Option ℕ
propose_of Proposing number = Some number
propose_of _ number = None

-- the oldest open request of this kind that has no answer
unfoldable pub unanswered : Standing → AskKind → Option ℕ
unanswered s Prepare = option_and_then (λ (p : Pending). option_and_then (if_unanswered s.answers) (prepare_of p.state p.number)) s.desk.proposal
unanswered s Propose = option_and_then (λ (p : Pending). option_and_then (if_unanswered s.answers) (propose_of p.state p.number)) s.desk.proposal
unanswered s Verify = option_and_then (λ (v : Opened). if_unanswered s.answers v.number) s.desk.verify
unanswered s Certify = option_map (λ (c : Opened). c.number) (find (λ (c : Opened). is_none (answer_to s.answers c.number)) s.desk.certify)
