-- What a step learns of proposals.
use Rattle.std.specs.Prelude.{ℕ, ◌≡◌, ◌⊎◌, ◌++◌, Bool, true, false, List, filter, option_to_list, Option, Some, None}
use Rattle.std.specs.Option.{option_map, option_and_then}
use Rattle.simplex_values.specs.declared.answer.Answer.{Answer}
use Rattle.simplex_values.specs.declared.answer.Answer.TheVariants as answers
use Rattle.simplex_values.specs.declared.answer.Handoff.TheVariants as handoffs
use Rattle.simplex_messages.specs.declared.voter.Message.TheVariants as mail
use Rattle.simplex_messages.specs.declared.voter.VoterInput.{VoterInput}
use Rattle.simplex_messages.specs.declared.voter.VoterInput.TheVariants as inputs
use Rattle.model_rules.specs.declared.request.ProposalState.{ProposalState}
use Rattle.model_rules.specs.declared.request.ProposalState.TheVariants.{Held}
use Rattle.model_rules.specs.Known.{Fact, Taken, Answered, Approved}
use Rattle.model_rules.specs.Calls.{proposal_on}
use Rattle.model_rules.specs.Requests.{verify_asked}
use Rattle.model_rules.specs.Pending.{Pending, Opened}
use Rattle.model_steps.specs.Voter.{Standing, answer_to}

-- a proposal was recorded, or the application approved one
abbrev pub is_of_proposal : Fact → Bool
is_of_proposal (Taken proposal) = true
is_of_proposal (Answered proposal) = true
is_of_proposal (Approved proposal) = true
is_of_proposal _ = false

-- what of this is known, the newest first
abbrev pub of_proposals : List Fact → List Fact
of_proposals known = filter is_of_proposal known

-- the payload in an answer to a proposal request
abbrev pub payload_in : Answer → Option (List ℕ)
payload_in (answers.Payload payload) = Some payload
payload_in (answers.Handoff (handoffs.Stage payload)) = Some payload
payload_in (answers.Handoff (handoffs.Vote payload)) = Some payload
payload_in _ = None

-- the payload for the pending proposal: the one that is held, or the answer's
abbrev pub payload_for : Standing → Pending → ProposalState → Option (List ℕ)
payload_for standing p (Held payload) = Some payload
payload_for standing p at = option_and_then payload_in (answer_to standing.answers p.number)

-- the member's own proposal with a payload
abbrev pub own_with : Pending → List ℕ → Fact
own_with p payload = Answered (proposal_on p.context payload)

-- the proposal that was to be verified, where the answer approves it
abbrev pub approved_by : List Fact → Opened → Answer → Option Fact
approved_by known v (answers.Verdict true) = option_map Approved (verify_asked known v.view)
approved_by known v _ = None

-- What a step may learn of a proposal from what it takes: the leader's proposal that came by mail; the member's own,
-- with the payload that came for it; or that the application approves the one that it was to verify
unfoldable pub tidings : Standing → VoterInput → Option Fact
tidings standing (inputs.Mail (mail.Proposal proposal)) = Some (Taken proposal)
tidings standing inputs.Propose =
    option_and_then (λ p. option_map (own_with p) (payload_for standing p p.state)) standing.desk.proposal
tidings standing inputs.Verify =
    option_and_then (λ v. option_and_then (approved_by standing.desk.known v) (answer_to standing.answers v.number))
    standing.desk.verify
tidings standing _ = None

-- nothing was learned, or this was
abbrev pub MayLearn : Option Fact → List Fact → List Fact → Type 0
MayLearn news before after = (after ≡ before) ⊎ (after ≡ option_to_list news ++ before)
