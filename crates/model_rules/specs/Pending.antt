-- The application's open requests, and how each pass of a step brings them up to date.
use Rattle.std.specs.Prelude.{ℕ, ◌+◌, ◌&&◌, ◌||◌, nat_lt, not, Bool, true, false, List, [], ◌∷◌, ◌++◌, filter, fold, Option, Some, None, if◌then◌else◌}
use Rattle.std.specs.Option.{option_map_or, is_none}
use Rattle.simplex_values.specs.declared.proposal.Proposal.{Proposal}
use Rattle.simplex_values.specs.declared.timeout.TimeoutReason.TheVariants.{MissingProposal}
use Rattle.simplex_values.specs.declared.ask.Kind.{Kind}
use Rattle.simplex_values.specs.declared.ask.Kind.TheVariants as missing
use Rattle.simplex_values.specs.declared.round.Context.{Context}
use Rattle.model_rules.specs.declared.request.Asked.{Asked}
use Rattle.model_rules.specs.declared.request.Asked.TheVariants as asks
use Rattle.model_rules.specs.declared.request.ProposalState.{ProposalState}
use Rattle.model_rules.specs.declared.request.ProposalState.TheVariants.{Preparing, Proposing, Waiting, Closed}
use Rattle.model_rules.specs.declared.request.ProposalRequest.{ProposalRequest}
use Rattle.model_rules.specs.declared.request.ProposalRequest.TheVariants.{Prepare, Propose}
use Rattle.model_rules.specs.declared.request.Verify.{Verify}
use Rattle.model_rules.specs.declared.request.Verify.TheVariants.{Ready, Resolve, Wait}
use Rattle.model_rules.specs.declared.request.CertificateFetch.{CertificateFetch}
use Rattle.model_rules.specs.Known.{Made, Fact, view_of}
use Rattle.model_rules.specs.Views.{last_finalized, current_of}
use Rattle.model_rules.specs.Ancestry.{is_certified}
use Rattle.model_rules.specs.Calls.{Call, ReleaseProposalRequest, TriggerTimeout, TryPropose, TryVerify, CertifyCandidates, facts_of}
use Rattle.model_rules.specs.Requests.{is_superseded, is_abandoned, proposal_request, verify_request, certify_requests, parent_fetches}

-- the pending proposal: its request's number and context, where it stands, and whether an answer waits for a step
pub record Pending : Type 0 where
  pub number : ℕ
  pub context : Context
  pub state : ProposalState
  pub is_answered : Bool

-- an open Verify or Certify
pub record Opened : Type 0 where
  pub number : ℕ
  pub view : ℕ

-- for a proposal, the certificate of this kind of the view is asked for, of the target alone where there is one
pub record Sought : Type 0 where
  pub proposal : ℕ
  pub view : ℕ
  pub kind : Kind
  pub target : Option ℕ

-- What a step works on: what is known, the requests that are open and how many were opened since the start;
-- and what the step opened, dropped and sought so far
pub record Desk : Type 0 where
  pub known : List Fact
  pub proposal : Option Pending
  pub verify : Option Opened
  pub certify : List Opened
  pub opened : ℕ
  pub asked : List Asked
  pub dropped : List ℕ
  pub sought : List Sought

-- what is known after one more call on the state
abbrev pub told : Made → Call → Desk → Desk
told made call desk = record desk { known = facts_of made desk.known call ++ desk.known }

-- put into a rising list
unfoldable pub put_number : ℕ → List ℕ → List ℕ
put_number n [] = n ∷ []
put_number n (m ∷ rest) = if nat_lt m n then m ∷ put_number n rest else n ∷ m ∷ rest

-- whether the request of a proposal is still open
abbrev pub is_open : ProposalState → Bool
is_open Preparing = true
is_open Proposing = true
is_open _ = false

abbrev pub is_preparing : ProposalState → Bool
is_preparing Preparing = true
is_preparing _ = false

abbrev pub is_waiting : ProposalState → Bool
is_waiting Waiting = true
is_waiting _ = false

abbrev pub is_closed : ProposalState → Bool
is_closed Closed = true
is_closed _ = false

abbrev pub pending_view : Pending → ℕ
pending_view p = p.context.round.view

abbrev pub pending_parent : Pending → ℕ
pending_parent p = p.context.parent.view

abbrev pub drop_number : Desk → ℕ → Desk
drop_number desk number = record desk { dropped = put_number number desk.dropped }

abbrev pub drop_request : Desk → Pending → Desk
drop_request desk p = if is_open p.state then drop_number desk p.number else desk

-- 1. the pending proposal is dropped where its view is past, or another parent serves where its own does not
unfoldable pub drop_proposal : Made → Desk → Desk
drop_proposal made desk =
    option_map_or (λ p.
    if nat_lt (pending_view p) (current_of made desk.known)
    || is_superseded made desk.known (pending_parent p) (pending_view p)
    then record (drop_request desk p) { proposal = None } else desk)
    desk.proposal desk

-- 2. the pending Verify is dropped where its view is past
unfoldable pub drop_verify : Made → Desk → Desk
drop_verify made desk =
    option_map_or (λ v.
    if nat_lt v.view (current_of made desk.known) then record (drop_number desk v.number) { verify = None } else desk)
    desk.verify desk

-- 3. a Prepare without an answer becomes Waiting where its handoff is given up
unfoldable pub abandon_handoff : Desk → Desk
abandon_handoff desk =
    option_map_or (λ p.
    if is_preparing p.state && not p.is_answered && is_abandoned desk.known (pending_parent p) (pending_view p)
    then record (drop_number desk p.number) { proposal = Some (record p { state = Waiting }) } else desk)
    desk.proposal desk

-- 4. Waiting or Closed ends once the parent is certified: the one frees its view, the other fails it
unfoldable pub end_waiting : Made → ℕ → Desk → Desk
end_waiting made now desk =
    option_map_or (λ p.
    if not (is_certified desk.known (pending_parent p)) then desk
    else if is_waiting p.state
    then record (told made (ReleaseProposalRequest (pending_view p)) desk) { proposal = None }
    else if is_closed p.state
    then record (told made (TriggerTimeout (pending_view p) MissingProposal now) desk) { proposal = None }
    else desk)
    desk.proposal desk

-- a proposal request is opened
abbrev pub open_request : Context → ProposalState → Asked → Desk → Desk
open_request context state request desk =
    record desk {
      proposal = Some (record { number = desk.opened; context = context; state = state; is_answered = false });
      opened = desk.opened + 1;
      asked = desk.asked ++ request ∷ [];
    }

abbrev pub with_request : Option ProposalRequest → Desk → Desk
with_request (Some (Prepare context)) desk = open_request context Preparing (asks.Prepare context) desk
with_request (Some (Propose context)) desk = open_request context Proposing (asks.Propose context) desk
with_request None desk = desk

-- 5. a proposal is asked for, where none is pending
unfoldable pub open_proposal : Made → Desk → Desk
open_proposal made desk =
    if is_none desk.proposal then with_request (proposal_request made desk.known) (told made TryPropose desk) else desk

abbrev pub with_verify : Verify → Desk → Desk
with_verify (Ready context proposal) desk =
    record desk {
      verify = Some (record { number = desk.opened; view = view_of proposal });
      opened = desk.opened + 1;
      asked = desk.asked ++ asks.Verify context proposal.payload ∷ [];
    }
with_verify (Resolve proposal view kind target) desk =
    record desk {
      sought = desk.sought ++ record { proposal = proposal; view = view; kind = kind; target = Some target } ∷ [];
    }
with_verify Wait desk = desk

-- 6. a proposal is given to verify, or a missing view sought, where no Verify is pending
unfoldable pub open_verify : Made → Desk → Desk
open_verify made desk =
    if is_none desk.verify then with_verify (verify_request made desk.known) (told made TryVerify desk) else desk

-- the proposal and the Verify are brought up to date: at the end of a step, and again before the next
unfoldable pub reconciled : Made → ℕ → Desk → Desk
reconciled made now desk =
    open_verify made
    (open_proposal made (end_waiting made now (abandon_handoff (drop_verify made (drop_proposal made desk)))))

-- Certify requests at or below the last final view are dropped
unfoldable pub drop_certify : Desk → Desk
drop_certify desk =
    record desk {
      certify = filter (λ c. nat_lt (last_finalized desk.known) c.view) desk.certify;
      dropped = fold (λ numbers c. if nat_lt (last_finalized desk.known) c.view
          then numbers else put_number c.number numbers) desk.dropped desk.certify;
    }

abbrev pub open_certify : Desk → Proposal → Desk
open_certify desk p =
    record desk {
      certify = desk.certify ++ record { number = desk.opened; view = view_of p } ∷ [];
      opened = desk.opened + 1;
      asked = desk.asked ++ asks.Certify p.round p.payload ∷ [];
    }

abbrev pub seek_parent : Desk → CertificateFetch → Desk
seek_parent desk f =
    record desk {
      sought = desk.sought ++ record {
        proposal = f.proposal;
        view = f.view;
        kind = missing.Notarization;
        target = None;
      } ∷ [];
    }

-- what can be certified is given to certify, and the parents that this lacks are sought
unfoldable pub certifying : Made → Desk → Desk
certifying made desk =
    fold seek_parent (fold open_certify (told made CertifyCandidates (drop_certify desk)) (certify_requests desk.known))
    (parent_fetches desk.known)

-- the requests at the start of each iteration
unfoldable pub iterated : Made → ℕ → Desk → Desk
iterated made now desk = certifying made (reconciled made now desk)
