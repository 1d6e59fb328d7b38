-- What a voter takes in a step, and what comes of it by the rules.
use Rattle.std.specs.Prelude.{ℕ, ◌++◌, Bool, true, List, [], ◌∷◌, map, Option, Some, None, if◌then◌else◌}
use Rattle.std.specs.Option.{option_map_or}
use Rattle.simplex_values.specs.declared.answer.Answer.{Answer}
use Rattle.simplex_values.specs.declared.answer.Answer.TheVariants as answers
use Rattle.simplex_values.specs.declared.round.Context.{Context}
use Rattle.simplex_values.specs.declared.answer.Handoff.TheVariants as handoffs
use Rattle.simplex_wire.specs.declared.certificate.Certificate.{Certificate}
use Rattle.simplex_wire.specs.declared.vote.Vote.{Vote}
use Rattle.simplex_wire.specs.declared.vote.Vote.TheVariants as votes
use Rattle.model_rules.specs.declared.request.Asked.{Asked}
use Rattle.model_rules.specs.declared.request.Asked.TheVariants as asks
use Rattle.model_rules.specs.Known.{Made, Fact, Taken, Answered, Approved, Judged, Voted, view_of, has_nullified}
use Rattle.model_rules.specs.Views.{current_of, admits_certificate}
use Rattle.model_rules.specs.Slot.{records_proposal, records_answer}
use Rattle.model_rules.specs.Ancestry.{is_certified}
use Rattle.model_rules.specs.Calls.{only_if, proposal_on, takes_verdict}
use Rattle.model_rules.specs.Votes.{nullify_at}
use Rattle.simplex_messages.specs.declared.voter.Message.{Message}
use Rattle.simplex_messages.specs.declared.voter.Message.TheVariants as mail
use Rattle.model_steps.specs.Voter.{certificate_view}
use Rattle.law_member.specs.Learned.{added_at}
use Rattle.law_member.specs.VoterVotes.{votes_of, votes_on}

-- its deadline, a message, or an answer with the request that it is for
pub data Taking : Type 0 where
  Deadline : Taking
  Mail : (message : Message) → Taking
  Reply : (asked : Asked) → (answer : Answer) → Taking

-- ---- what it learns, but for certificates and own votes

-- the payload of an answer to a request on this parent: a staged one waits until the parent is certified
abbrev pub payload_for : List Fact → Context → Answer → Option (List ℕ)
payload_for known context (answers.Payload payload) = Some payload
payload_for known context (answers.Handoff (handoffs.Vote payload)) = Some payload
payload_for known context (answers.Handoff (handoffs.Stage payload)) = if is_certified known context.parent.view then Some payload else None
payload_for known context _ = None

abbrev pub own_proposal : Made → List Fact → Context → List ℕ → List Fact
own_proposal made known context payload = only_if (records_answer made known context.round.view) (Answered (proposal_on context payload))

abbrev pub judgement : ℕ → List Fact → ℕ → Bool → List Fact
judgement now known view good = only_if (takes_verdict known view) (Judged view good now)

-- a proposal that is recorded, one that is approved, or a verdict that is taken
unfoldable pub learned : Made → ℕ → List Fact → Taking → List Fact
learned made now known (Mail (mail.Proposal proposal)) = only_if (records_proposal made known proposal) (Taken proposal)
learned made now known (Reply (asks.Prepare context) answer) = option_map_or (own_proposal made known context) (payload_for known context answer) []
learned made now known (Reply (asks.Propose context) answer) = option_map_or (own_proposal made known context) (payload_for known context answer) []
learned made now known (Reply (asks.Verify context payload) (answers.Verdict true)) = Approved (proposal_on context payload) ∷ []
learned made now known (Reply (asks.Certify round payload) (answers.Verdict good)) = judgement now known round.view good
learned made now known taking = []

-- what is known once it has acted, with these certificates
abbrev pub acted : Made → ℕ → List Fact → List Certificate → Taking → List Fact
acted made now known added taking = learned made now known taking ++ (map (added_at now) added ++ known)

-- ---- which view it touches; none where the step ends there

abbrev pub view_if : Bool → ℕ → Option ℕ
view_if test view = if test then Some view else None

abbrev pub view_answered : Made → List Fact → Context → Answer → Option ℕ
view_answered made known context answer =
    option_map_or (λ payload. view_if (records_answer made known context.round.view) context.round.view) (payload_for known context answer) None

unfoldable pub touched : Made → List Fact → Taking → Option ℕ
touched made known Deadline = Some (current_of made known)
touched made known (Mail (mail.Proposal proposal)) = view_if (records_proposal made known proposal) (view_of proposal)
touched made known (Mail (mail.Timeout round reason)) = Some round.view
touched made known (Mail (mail.Verified certificate)) = view_if (admits_certificate made known (certificate_view certificate)) (certificate_view certificate)
touched made known (Reply (asks.Prepare context) answer) = view_answered made known context answer
touched made known (Reply (asks.Propose context) answer) = view_answered made known context answer
touched made known (Reply (asks.Verify context payload) answer) = Some context.round.view
touched made known (Reply (asks.Certify round payload) (answers.Verdict good)) = view_if (takes_verdict known round.view) round.view
touched made known (Reply (asks.Certify round payload) answer) = Some round.view

-- ---- which votes are due

-- at a deadline the nullify of the current view
abbrev pub given_up : Made → List Fact → Taking → List Vote
given_up made known Deadline = votes_of votes.Nullify (nullify_at made (current_of made known))
given_up made known taking = []

-- what it adds to what is known, the first time
abbrev pub newly_known : Made → List Fact → Taking → List Fact
newly_known made known Deadline = if has_nullified known (current_of made known) then [] else map Voted (given_up made known Deadline)
newly_known made known taking = []

-- and those on the view that it touches, once this is known
abbrev pub votes_then : Made → List Fact → Option ℕ → List Vote
votes_then made known None = []
votes_then made known (Some view) = votes_on made known view

unfoldable pub votes_due : Made → ℕ → List Fact → List Certificate → Taking → List Vote
votes_due made now known added taking =
    given_up made known taking
    ++ votes_then made (newly_known made known taking ++ acted made now known added taking) (touched made known taking)
