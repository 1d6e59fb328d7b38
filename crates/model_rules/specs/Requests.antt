-- What a member asks its application, and which certificates it asks others for.
use Rattle.std.specs.Prelude.{ℕ, ◌+◌, ◌-◌, ◌==◌, ◌&&◌, ◌||◌, nat_lt, nat_le, not, Bool, true, false, List, [], ◌∷◌, map, filter, find, unwrap_or, Option, Some, None, if◌then◌else◌}
use Rattle.std.specs.List.{list_any, range_with_len}
use Rattle.std.specs.Option.{option_or, option_map, option_map_or, option_and_then, is_some, is_none}
use Rattle.simplex_values.specs.declared.proposal.Proposal.{Proposal}
use Rattle.simplex_wire.specs.declared.certificate.Notarization.{Notarization}
use Rattle.simplex_wire.specs.declared.certificate.Certificate.TheVariants as certificates
use Rattle.simplex_values.specs.declared.round.Context.{Context}
use Rattle.simplex_values.specs.declared.ask.Kind.{Kind}
use Rattle.simplex_values.specs.declared.ask.Kind.TheVariants as missing
use Rattle.model_rules.specs.declared.request.ProposalRequest.{ProposalRequest}
use Rattle.model_rules.specs.declared.request.ProposalRequest.TheVariants.{Prepare, Propose}
use Rattle.model_rules.specs.declared.request.Verify.{Verify}
use Rattle.model_rules.specs.declared.request.Verify.TheVariants.{Ready, Resolve, Wait}
use Rattle.model_rules.specs.declared.request.CertificateFetch.{CertificateFetch}
use Rattle.model_rules.specs.Lists.{first_of, last_of}
use Rattle.simplex_values.specs.Terms.{next_term_start, term_start, admission_limit}
use Rattle.model_rules.specs.Known.{Made, Fact, Added, ProposalAsked, ProposalFreed, VerifyAsked, CertifyAsked, MissingAsked, ParentAsked, view_of, notarization_of, finalization_of, verdict_of, own_notarize, has_nullified, was_answered}
use Rattle.model_rules.specs.Views.{last_finalized, current_of}
use Rattle.model_rules.specs.Slot.{slot_of}
use Rattle.model_rules.specs.Ancestry.{has_ancestry, greatest_parent, gap_between, is_certified, is_met, payload_at, has_false_verdict}

-- the leader of a view
unfoldable pub leader_of : Made → ℕ → ℕ
leader_of made view = made.elects (record { epoch = made.epoch; view = view })

-- the views from the current one to the last that is admitted
unfoldable pub admitted_views : Made → List Fact → List ℕ
admitted_views made known =
    range_with_len (current_of made known)
    (admission_limit made.term_length made.lookahead (current_of made known) + 1 - current_of made known)

-- ---- a proposal is asked for

abbrev pub is_asked_in : ℕ → Fact → Option Bool
is_asked_in view (ProposalAsked v) = if v == view then Some true else None
is_asked_in view (ProposalFreed v) = if v == view then Some false else None
is_asked_in view _ = None

-- whether a proposal of the view was asked for, and the view not freed since
unfoldable pub was_proposal_asked : List Fact → ℕ → Bool
was_proposal_asked known view = unwrap_or (last_of (is_asked_in view) known) false

-- whether the member may propose in the view: it leads it, and nothing is proposed, given up or asked for yet
unfoldable pub may_propose : Made → List Fact → ℕ → Bool
may_propose made known view =
    option_map_or (λ me. me == leader_of made view) made.me false
    && is_none (slot_of known view) && not (has_nullified known view) && not (was_proposal_asked known view)
    && is_some (greatest_parent made known view)

-- the first admitted view, or with handoffs the next term's first, in which the member may propose
unfoldable pub proposal_view : Made → List Fact → Option ℕ
proposal_view made known =
    let next = next_term_start made.term_length (current_of made known) in
    option_or (find (may_propose made known) (admitted_views made known))
    (if made.handoff && may_propose made known next then Some next else None)

-- a proposal of the view on this parent
unfoldable pub context_at : Made → List Fact → ℕ → ℕ → Context
context_at made known parent view =
    record {
      round = record { epoch = made.epoch; view = view };
      leader = leader_of made view;
      parent = record { view = parent; payload = payload_at made known parent };
    }

-- whether a term begins on a parent that is not certified
unfoldable pub needs_handoff : Made → List Fact → ℕ → ℕ → Bool
needs_handoff made known parent view = view == term_start made.term_length view && not (is_certified known parent)

-- the request for a proposal of the view on this parent
unfoldable pub request_on : Made → List Fact → ℕ → ℕ → Option ProposalRequest
request_on made known view parent =
    if not (needs_handoff made known parent view) then Some (Propose (context_at made known parent view))
    else if made.handoff then Some (Prepare (context_at made known parent view)) else None

-- the same on the greatest parent
unfoldable pub request_at : Made → List Fact → ℕ → Option ProposalRequest
request_at made known view = option_and_then (request_on made known view) (greatest_parent made known view)

-- the request for a proposal, where none is pending
unfoldable pub proposal_request : Made → List Fact → Option ProposalRequest
proposal_request made known = option_and_then (request_at made known) (proposal_view made known)

-- whether a proposal on this parent makes room for one on another parent
unfoldable pub is_superseded : Made → List Fact → ℕ → ℕ → Bool
is_superseded made known parent view =
    not (has_ancestry made known parent view) && is_some (greatest_parent made known view)

-- whether a handoff is given up: the member gave up the view or the parent, or the parent failed
unfoldable pub is_abandoned : List Fact → ℕ → ℕ → Bool
is_abandoned known parent view =
    has_nullified known view || has_nullified known parent || has_false_verdict known parent

-- ---- a proposal is to be verified

abbrev pub verify_in : ℕ → Fact → Option Proposal
verify_in view (VerifyAsked p) = if view_of p == view then Some p else None
verify_in view _ = None

-- the proposal of the view that the application was asked to verify
unfoldable pub verify_asked : List Fact → ℕ → Option Proposal
verify_asked known view = first_of (verify_in view) known

-- whether the view's slot waits to be verified: another's, in a view without own vote or certificate
unfoldable pub wants_verify : List Fact → ℕ → Bool
wants_verify known view =
    option_map_or (λ p. not (was_answered known p)) (slot_of known view) false
    && is_none (verify_asked known view)
    && is_none (own_notarize known view) && not (has_nullified known view)
    && is_none (notarization_of known view) && is_none (finalization_of known view)

-- whether the view's slot may stand on its parent
unfoldable pub is_founded : Made → List Fact → ℕ → Bool
is_founded made known view = option_map_or (λ p. has_ancestry made known p.parent view) (slot_of known view) false

-- the proposal is given to verify
unfoldable pub verify_of : Made → List Fact → ℕ → Proposal → Verify
verify_of made known view p =
    Ready (record {
      round = p.round;
      leader = leader_of made view;
      parent = record { view = p.parent; payload = payload_at made known p.parent };
    }) p

-- the slot of the least view to verify
unfoldable pub ready_verify : Made → List Fact → Option Verify
ready_verify made known =
    option_and_then (λ view. option_map (verify_of made known view) (slot_of known view))
    (find (λ view. wants_verify known view && is_founded made known view) (admitted_views made known))

-- the least missing view below a proposal of the view, and what is missing of it
unfoldable pub missing_below : Made → List Fact → ℕ → Proposal → Option (ℕ × Kind)
missing_below made known view proposal =
    if nat_le (last_finalized known) proposal.parent && nat_lt proposal.parent view
    then (if not (is_certified known proposal.parent) && is_none (notarization_of known proposal.parent)
    && not (is_met known proposal.parent view)
    then Some (proposal.parent, missing.Notarization)
    else option_map (λ gap. (gap, missing.Nullification)) (gap_between made known proposal.parent view))
    else None

abbrev pub is_kind : Kind → Kind → Bool
is_kind missing.Nullification missing.Nullification = true
is_kind missing.Notarization missing.Notarization = true
is_kind _ _ = false

abbrev pub is_missing_in : ℕ → ℕ → Kind → Fact → Bool
is_missing_in proposal view kind (MissingAsked p v k) = p == proposal && v == view && is_kind k kind
is_missing_in proposal view kind _ = false

-- what is missing is asked for, once
unfoldable pub resolve_of : Made → List Fact → ℕ → ℕ × Kind → Option Verify
resolve_of made known view gap =
    if list_any (is_missing_in view gap.0 gap.1) known then None
    else Some (Resolve view gap.0 gap.1 (leader_of made view))

-- what is missing below the slot of the least view that waits to be verified
unfoldable pub missing_verify : Made → List Fact → Option Verify
missing_verify made known =
    option_and_then (λ view. option_and_then (resolve_of made known view)
    (option_and_then (missing_below made known view) (slot_of known view)))
    (find (wants_verify known) (admitted_views made known))

-- what to verify, else what to ask for, where no Verify is pending
unfoldable pub verify_request : Made → List Fact → Verify
verify_request made known = unwrap_or (option_or (ready_verify made known) (missing_verify made known)) Wait

-- ---- a notarization is to be certified

-- put into a list of rising views, where none of its view is there
unfoldable pub put_notarization : Notarization → List Notarization → List Notarization
put_notarization n [] = n ∷ []
put_notarization n (m ∷ rest) =
    if view_of n.proposal == view_of m.proposal then m ∷ rest
    else if nat_lt (view_of n.proposal) (view_of m.proposal) then n ∷ m ∷ rest
    else m ∷ put_notarization n rest

-- the known notarizations, in rising order of view
unfoldable pub notarizations_of : List Fact → List Notarization
notarizations_of [] = []
notarizations_of (Added (certificates.Notarization n) now ∷ known) = put_notarization n (notarizations_of known)
notarizations_of (_ ∷ known) = notarizations_of known

abbrev pub is_certify_in : ℕ → Fact → Bool
is_certify_in view (CertifyAsked v) = v == view
is_certify_in view _ = false

abbrev pub is_parent_in : ℕ → Fact → Bool
is_parent_in view (ParentAsked v) = v == view
is_parent_in view _ = false

-- whether a notarized view waits for its verdict, and the application was not asked for it
unfoldable pub is_unjudged : List Fact → ℕ → Bool
is_unjudged known view =
    nat_lt (last_finalized known) view && is_none (verdict_of known view) && not (list_any (is_certify_in view) known)

-- whether it can be certified now
unfoldable pub may_certify : List Fact → Notarization → Bool
may_certify known n = is_unjudged known (view_of n.proposal) && is_certified known n.proposal.parent

-- whether its parent's notarization has to be asked for, once
unfoldable pub lacks_parent : List Fact → Notarization → Bool
lacks_parent known n =
    is_unjudged known (view_of n.proposal)
    && nat_lt (last_finalized known) n.proposal.parent
    && is_none (verdict_of known n.proposal.parent) && is_none (notarization_of known n.proposal.parent)
    && not (list_any (is_parent_in (view_of n.proposal)) known)

-- what to certify
unfoldable pub certify_requests : List Fact → List Proposal
certify_requests known = map (λ n. n.proposal) (filter (may_certify known) (notarizations_of known))

-- which parents' notarizations to ask for
unfoldable pub parent_fetches : List Fact → List CertificateFetch
parent_fetches known =
    map (λ n. record { proposal = view_of n.proposal; view = n.proposal.parent })
    (filter (lacks_parent known) (notarizations_of known))
