-- How a voter keeps the answers that no step has taken yet: each beside its request, with its place among all answers.
use Rattle.std.specs.Prelude.{◌≡◌, ℕ, ◌+◌, ◌<◌, ◌≤◌, ◌==◌, ◌&&◌, ◌||◌, Bool, true, false, List, [], ◌∷◌, ◌++◌, length, sum_by, nat_lt, Option, Some, None, if◌then◌else◌}
use Rattle.std.specs.List.{list_all, list_any}
use Rattle.std.specs.Option.{is_some, is_none, option_map, option_map_or, option_and_then}
use Rattle.simplex_values.specs.declared.answer.Answer.{Answer}
use Rattle.model_rules.specs.Pending.{Pending, Opened, is_open, put_number}
use Rattle.model_steps.specs.Voter.{Standing, fits_proposal, fits_verdict, marked_answered}
use Rattle.simplex_voter.specs.Unanswered.{prepare_of, propose_of}
use Rattle.simplex_voter.specs.declared.request.Arrival.{Arrival}
use Rattle.simplex_voter.specs.declared.request.PendingProposal.{PendingProposal}
use Rattle.simplex_voter.specs.declared.request.OpenRequest.{OpenRequest}

-- the pending proposal and an open request, as the rules name them
abbrev pub pending_of : PendingProposal → Pending
pending_of p = record { number = p.number; context = p.context; state = p.state; is_answered = p.is_answered }

abbrev pub opened_of : OpenRequest → Opened
opened_of r = record { number = r.number; view = r.view }

-- a Certify at or below the final view is listed as dropped
abbrev pub drop_final_number : ℕ → List ℕ → Opened → List ℕ
drop_final_number finalized numbers c = if nat_lt finalized c.view then numbers else put_number c.number numbers

-- the first answer to the request of this number, and its place, where the first of these answers has this place
unfoldable pub arrival_from : ℕ → List (ℕ × Answer) → ℕ → Option Arrival
arrival_from place [] number = None
arrival_from place (given ∷ rest) number =
    if given.0 == number then Some (record { place = place; answer = given.1 }) else arrival_from (place + 1) rest number

-- the same among all answers
abbrev pub arrival_of : List (ℕ × Answer) → ℕ → Option Arrival
arrival_of answers number = arrival_from 0 answers number

-- whether a request was answered, and before the other one
abbrev pub is_before_at : Option Arrival → Option Arrival → Bool
is_before_at None other = false
is_before_at (Some arrival) None = true
is_before_at (Some arrival) (Some earlier) = nat_lt arrival.place earlier.place

abbrev pub is_before : OpenRequest → Option OpenRequest → Bool
is_before r None = is_some r.arrival
is_before r (Some other) = is_before_at r.arrival other.arrival

-- the one that was answered first, where this is the first so far
unfoldable pub least_of : Option OpenRequest → List OpenRequest → Option OpenRequest
least_of first [] = first
least_of first (r ∷ rest) = least_of (if is_before r first then Some r else first) rest

-- how many answers a request still waits for
abbrev pub waits_at : Option Arrival → ℕ
waits_at None = 1
waits_at (Some arrival) = 0

abbrev pub proposal_waits : Option PendingProposal → ℕ
proposal_waits None = 0
proposal_waits (Some p) = if is_open p.state then waits_at p.arrival else 0

abbrev pub verify_waits : Option OpenRequest → ℕ
verify_waits None = 0
verify_waits (Some v) = waits_at v.arrival

abbrev pub request_waits : OpenRequest → ℕ
request_waits r = waits_at r.arrival

-- whether what is kept beside the pending proposal is what came
abbrev pub IsProposalKept : List (ℕ × Answer) → Option PendingProposal → Type 0
IsProposalKept answers None = Unit {0}
IsProposalKept answers (Some p) = p.arrival ≡ arrival_of answers p.number

abbrev pub IsKept : List (ℕ × Answer) → OpenRequest → Type 0
IsKept answers r = r.arrival ≡ arrival_of answers r.number

abbrev pub IsVerifyKept : List (ℕ × Answer) → Option OpenRequest → Type 0
IsVerifyKept answers None = Unit {0}
IsVerifyKept answers (Some v) = IsKept answers v

abbrev pub is_below : ℕ → ℕ × Answer → Bool
is_below opened given = nat_lt given.0 opened

unfoldable pub AllKept : List (ℕ × Answer) → List OpenRequest → Type 0
AllKept answers [] = Unit {0}
AllKept answers (r ∷ rest) = IsKept answers r × AllKept answers rest

-- the open requests have numbers below the next one
abbrev pub IsProposalBelow : ℕ → Option PendingProposal → Type 0
IsProposalBelow opened None = Unit {0}
IsProposalBelow opened (Some p) = p.number < opened

abbrev pub IsVerifyBelow : ℕ → Option OpenRequest → Type 0
IsVerifyBelow opened None = Unit {0}
IsVerifyBelow opened (Some v) = v.number < opened

unfoldable pub AllBelow : ℕ → List OpenRequest → Type 0
AllBelow opened [] = Unit {0}
AllBelow opened (r ∷ rest) = (r.number < opened) × AllBelow opened rest

-- the answers that came are those that the open requests keep, and there are at most as many as requests
pub record Arrived (answers : List (ℕ × Answer)) (proposal : Option PendingProposal) (verify : Option OpenRequest) (certify : List OpenRequest) (opened count : ℕ) : Type 0 where
  pub below : list_all (is_below opened) answers ≡ true
  pub proposal_kept : IsProposalKept answers proposal
  pub verify_kept : IsVerifyKept answers verify
  pub certify_kept : AllKept answers certify
  pub proposal_below : IsProposalBelow opened proposal
  pub verify_below : IsVerifyBelow opened verify
  pub certify_below : AllBelow opened certify
  pub counted : count ≡ length answers
  pub room : count + proposal_waits proposal + verify_waits verify + sum_by request_waits certify ≤ opened

-- ---- one more answer

-- the answer came to the request of this number
abbrev pub mark_pending : ℕ → Arrival → PendingProposal → PendingProposal
mark_pending number arrival p = if p.number == number then record p { arrival = Some arrival; is_answered = true } else p

abbrev pub mark_request : ℕ → Arrival → OpenRequest → OpenRequest
mark_request number arrival r = if r.number == number then record r { arrival = Some arrival } else r

-- whether a request has this number and waits for such an answer
abbrev pub pending_takes : ℕ → Answer → PendingProposal → Bool
pending_takes number answer p = p.number == number && is_none p.arrival && fits_proposal p.state answer

abbrev pub request_takes : ℕ → OpenRequest → Bool
request_takes number r = r.number == number && is_none r.arrival

unfoldable pub takes_in : ℕ → Answer → Option PendingProposal → Option OpenRequest → List OpenRequest → Bool
takes_in number answer proposal verify certify =
    option_map_or (pending_takes number answer) proposal false
    || (fits_verdict answer
    && (option_map_or (request_takes number) verify false || list_any (request_takes number) certify))

-- the answer stands behind those that came before
abbrev pub taken_answer : ℕ → Answer → Standing → Standing
taken_answer number answer standing =
    record {
      desk = record standing.desk { proposal = option_map (marked_answered number) standing.desk.proposal };
      answers = standing.answers ++ (number, answer) ∷ [];
    }

-- ---- what a step would take

abbrev pub with_number : ℕ → Answer → ℕ × Answer
with_number number answer = (number, answer)

-- the answer that a request keeps, with its number
abbrev pub answer_kept : Option OpenRequest → Option (ℕ × Answer)
answer_kept request = option_and_then (λ (r : OpenRequest). option_map (λ (a : Arrival). with_number r.number a.answer) r.arrival) request

-- ---- what waits for an answer

-- the number, where no answer came
abbrev pub if_waiting : ℕ → Option Arrival → Option ℕ
if_waiting number None = Some number
if_waiting number (Some arrival) = None

-- the pending proposal's number, where its Prepare waits, and where its Propose waits
abbrev pub pending_prepare : PendingProposal → Option ℕ
pending_prepare p = option_and_then (λ number. if_waiting number p.arrival) (prepare_of p.state p.number)

abbrev pub pending_propose : PendingProposal → Option ℕ
pending_propose p = option_and_then (λ number. if_waiting number p.arrival) (propose_of p.state p.number)

-- the first of these requests that waits
unfoldable pub first_waiting : List OpenRequest → Option ℕ
first_waiting [] = None
first_waiting (r ∷ rest) = if is_none r.arrival then Some r.number else first_waiting rest
