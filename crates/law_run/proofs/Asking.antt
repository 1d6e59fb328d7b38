-- The open requests: what each asks, and that a held payload was answered.
use Rattle.std.proofs.Common.{◌≡◌, ℕ, ◌+◌, ◌&&◌, ◌||◌, not, Bool, true, false, nat_lt, List, [], ◌∷◌, ◌++◌, fold, length, Option, Some, None, refl, sym, ap, ◌∙◌, arith, append_assoc, length-append, if◌then◌else◌}
use Rattle.std.specs.List.{slice_get}
use Rattle.std.specs.Prelude.{find}
use Rattle.std.specs.Option.{IfSome, is_none, option_or, option_map, option_map_or, option_and_then, unwrap_or}
use Rattle.std.proofs.lemmas.Grind.{common_steps}
use Rattle.simplex_values.specs.declared.proposal.Proposal.{Proposal}
use Rattle.simplex_values.specs.declared.round.Context.{Context}
use Rattle.simplex_values.specs.declared.timeout.TimeoutReason.TheVariants.{MissingProposal}
use Rattle.model_rules.specs.declared.request.Asked.{Asked}
use Rattle.model_rules.specs.declared.request.Asked.TheVariants as asks
use Rattle.model_rules.specs.declared.request.ProposalRequest.{ProposalRequest}
use Rattle.model_rules.specs.declared.request.ProposalRequest.TheVariants.{Prepare, Propose}
use Rattle.model_rules.specs.declared.request.ProposalState.{ProposalState}
use Rattle.model_rules.specs.declared.request.ProposalState.TheVariants.{Waiting, Held}
use Rattle.model_rules.specs.declared.request.Verify.{Verify}
use Rattle.model_rules.specs.declared.request.Verify.TheVariants.{Ready, Resolve, Wait}
use Rattle.model_rules.specs.declared.request.CertificateFetch.{CertificateFetch}
use Rattle.model_rules.specs.Lists.{first_of}
use Rattle.model_rules.specs.Known.{Made, Fact, view_of}
use Rattle.model_rules.specs.Views.{current_of}
use Rattle.model_rules.specs.Slot.{slot_of}
use Rattle.model_rules.specs.Ancestry.{has_ancestry, is_certified, greatest_parent}
use Rattle.model_rules.specs.Requests.{admitted_views, needs_handoff, context_at, request_on, request_at, proposal_request, proposal_view, verify_in, verify_asked, wants_verify, is_founded, verify_of, ready_verify, missing_verify, resolve_of, missing_below, verify_request, certify_requests, parent_fetches, is_superseded, is_abandoned}
use Rattle.model_rules.specs.Calls as state
use Rattle.model_rules.specs.Calls.{facts_of, verify_facts}
use Rattle.model_rules.specs.Pending.{Desk, Pending, Opened, told, is_open, is_preparing, is_waiting, is_closed, pending_view, pending_parent, drop_request, drop_number, drop_proposal, drop_verify, abandon_handoff, end_waiting, with_request, open_proposal, with_verify, open_verify, reconciled, drop_certify, open_certify, seek_parent, certifying, iterated}
use Rattle.model_rules.proofs.Soundness.{slot_view}
use Rattle.law_run.specs.Sayings.{Each}
use Rattle.law_run.proofs.Speaking.{Each-append}
use Rattle.law_run.specs.Rooted.{IsRooted, IsRootedContext}
use Rattle.law_run.proofs.AskedListing.{place_front, place_last, first_more, found_passes, greatest_passes}
use Rattle.law_run.proofs.Knowing.{AllFrom, StandsOn, stands_more, ToldFrom, told_from, parent_rooted}

module _ (P : List ℕ → Type 0) (genesis : List ℕ) (earlier : List Asked) where
  abbrev pub StateFrom : ProposalState → Type 0
  StateFrom (Held payload) = P payload
  StateFrom _ = Unit {0}

  abbrev pub PendingFrom : Option Pending → Type 0
  PendingFrom o = IfSome o (λ p. StateFrom p.state)

  -- the Verify asks for the proposal that is known to be asked of its view
  pub record IsAsked (known : List Fact) (asked : List Asked) (v : Opened) : Type 0 where
    pub context : Context
    pub proposal : Proposal
    pub asks : slice_get (earlier ++ asked) v.number ≡ Some (asks.Verify context proposal.payload)
    pub known_so : verify_asked known v.view ≡ Some proposal

  pub record IsSound (known : List Fact) (pending : Option Pending) (verify : Option Opened) (asked : List Asked) (opened : ℕ) : Type 0 where
    pub facts : AllFrom P known
    pub stands : StandsOn genesis known
    pub held : PendingFrom pending
    pub given : IfSome verify (IsAsked known asked)
    pub rooted : Each (IsRooted genesis) asked
    pub count : opened ≡ length (earlier ++ asked)

  abbrev pub IsSoundDesk : Desk → Type 0
  IsSoundDesk desk = IsSound desk.known desk.proposal desk.verify desk.asked desk.opened

  -- ---- as more is known, and more is asked

  asked_known : (new known : List Fact) (asked : List Asked) (o : Option Opened) → IfSome o (IsAsked known asked) → IfSome o (IsAsked (new ++ known) asked)
  unfolding verify_asked
  asked_known new known asked None h = tt
  asked_known new known asked (Some v) h = record { context = h.context; proposal = h.proposal; asks = h.asks; known_so = first_more (verify_in v.view) new known h.proposal h.known_so }

  asked_more : (known : List Fact) (asked : List Asked) (x : Asked) (o : Option Opened) → IfSome o (IsAsked known asked) → IfSome o (IsAsked known (asked ++ x ∷ []))
  asked_more known asked x None h = tt
  asked_more known asked x (Some v) h =
      record {
        context = h.context;
        proposal = h.proposal;
        asks = ap (λ (xs : List Asked). slice_get xs v.number) (sym (append_assoc earlier asked (x ∷ []))) ∙ place_front (earlier ++ asked) (x ∷ []) v.number (asks.Verify h.context h.proposal.payload) h.asks;
        known_so = h.known_so;
      }

  one_more : (asked : List Asked) (x : Asked) (opened : ℕ) → opened ≡ length (earlier ++ asked) → opened + 1 ≡ length (earlier ++ (asked ++ x ∷ []))
  one_more asked x opened e = omega (arith, e, length-append earlier asked, length-append earlier (asked ++ x ∷ []), length-append asked (x ∷ []))

  last_asked : (asked : List Asked) (x : Asked) (opened : ℕ) → opened ≡ length (earlier ++ asked) → slice_get (earlier ++ (asked ++ x ∷ [])) opened ≡ Some x
  last_asked asked x opened e = ap (λ (xs : List Asked). slice_get xs opened) (sym (append_assoc earlier asked (x ∷ []))) ∙ place_last (earlier ++ asked) x opened e

  pub tells : (made : Made) (call : state.Call) (desk : Desk) → ToldFrom P desk.known call → IsSoundDesk desk → IsSoundDesk (told made call desk)
  tells made call desk t n =
      record {
        facts = told_from P made desk.known call t n.facts;
        stands = stands_more genesis (facts_of made desk.known call) desk.known n.stands;
        held = n.held;
        given = asked_known (facts_of made desk.known call) desk.known desk.asked desk.verify n.given;
        rooted = n.rooted;
        count = n.count;
      }

  -- with another proposal pending, or no Verify
  pub settled : (known : List Fact) (o p : Option Pending) (v : Option Opened) (asked : List Asked) (opened : ℕ) → PendingFrom p → IsSound known o v asked opened → IsSound known p v asked opened
  settled known o p v asked opened h n = record { facts = n.facts; stands = n.stands; held = h; given = n.given; rooted = n.rooted; count = n.count }

  pub unverified : (known : List Fact) (p : Option Pending) (v : Option Opened) (asked : List Asked) (opened : ℕ) → IsSound known p v asked opened → IsSound known p None asked opened
  unverified known p v asked opened n = record { facts = n.facts; stands = n.stands; held = n.held; given = tt; rooted = n.rooted; count = n.count }

  -- ---- one pass

  desk_drop_proposal : (made : Made) (desk : Desk) → IsSoundDesk desk → IsSoundDesk (drop_proposal made desk)
  unfolding drop_proposal
  desk_drop_proposal made desk n = at desk.proposal
    where
      dropped : (p : Pending) (b : Bool) → IsSoundDesk (record (if b then drop_number desk p.number else desk) { proposal = None })
      dropped p true = settled desk.known desk.proposal None desk.verify desk.asked desk.opened tt n
      dropped p false = settled desk.known desk.proposal None desk.verify desk.asked desk.opened tt n

      one : (p : Pending) (b : Bool) → IsSoundDesk (if b then record (drop_request desk p) { proposal = None } else desk)
      one p true = dropped p (is_open p.state)
      one p false = n

      at : (o : Option Pending) → IsSoundDesk (option_map_or (λ p.
          if nat_lt (pending_view p) (current_of made desk.known) || is_superseded made desk.known (pending_parent p) (pending_view p)
          then record (drop_request desk p) { proposal = None } else desk) o desk)
      at None = n
      at (Some p) = one p _

  desk_drop_verify : (made : Made) (desk : Desk) → IsSoundDesk desk → IsSoundDesk (drop_verify made desk)
  unfolding drop_verify
  desk_drop_verify made desk n = at desk.verify
    where
      one : (v : Opened) (b : Bool) → IsSoundDesk (if b then record (drop_number desk v.number) { verify = None } else desk)
      one v true = unverified desk.known desk.proposal desk.verify desk.asked desk.opened n
      one v false = n

      at : (o : Option Opened) → IsSoundDesk (option_map_or (λ v.
          if nat_lt v.view (current_of made desk.known) then record (drop_number desk v.number) { verify = None } else desk) o desk)
      at None = n
      at (Some v) = one v _

  desk_abandon : (desk : Desk) → IsSoundDesk desk → IsSoundDesk (abandon_handoff desk)
  unfolding abandon_handoff
  desk_abandon desk n = at desk.proposal
    where
      one : (p : Pending) (b : Bool) → IsSoundDesk (if b then record (drop_number desk p.number) { proposal = Some (record p { state = Waiting }) } else desk)
      one p true = settled desk.known desk.proposal (Some (record p { state = Waiting })) desk.verify desk.asked desk.opened tt n
      one p false = n

      at : (o : Option Pending) → IsSoundDesk (option_map_or (λ p.
          if is_preparing p.state && not p.is_answered && is_abandoned desk.known (pending_parent p) (pending_view p)
          then record (drop_number desk p.number) { proposal = Some (record p { state = Waiting }) } else desk) o desk)
      at None = n
      at (Some p) = one p _

  desk_end_waiting : (made : Made) (now : ℕ) (desk : Desk) → IsSoundDesk desk → IsSoundDesk (end_waiting made now desk)
  unfolding end_waiting
  desk_end_waiting made now desk n = at desk.proposal
    where
      ends : (call : state.Call) → ToldFrom P desk.known call → IsSoundDesk (record (told made call desk) { proposal = None })
      ends call t = settled (told made call desk).known desk.proposal None desk.verify desk.asked desk.opened tt (tells made call desk t n)

      one : (p : Pending) (a b c : Bool) → IsSoundDesk (if a then desk
          else if b then record (told made (state.ReleaseProposalRequest (pending_view p)) desk) { proposal = None }
          else if c then record (told made (state.TriggerTimeout (pending_view p) MissingProposal now) desk) { proposal = None }
          else desk)
      one p true b c = n
      one p false true c = ends (state.ReleaseProposalRequest (pending_view p)) tt
      one p false false true = ends (state.TriggerTimeout (pending_view p) MissingProposal now) tt
      one p false false false = n

      at : (o : Option Pending) → IsSoundDesk (option_map_or (λ p.
          if not (is_certified desk.known (pending_parent p)) then desk
          else if is_waiting p.state then record (told made (state.ReleaseProposalRequest (pending_view p)) desk) { proposal = None }
          else if is_closed p.state
          then record (told made (state.TriggerTimeout (pending_view p) MissingProposal now) desk) { proposal = None }
          else desk) o desk)
      at None = n
      at (Some p) = one p _ _ _

  -- a request on view 0 names the genesis digest
  abbrev RequestRooted : ProposalRequest → Type 0
  RequestRooted (Prepare context) = IsRootedContext genesis context
  RequestRooted (Propose context) = IsRootedContext genesis context

  request_rooted : (made : Made) (known : List Fact) → made.genesis ≡ genesis → StandsOn genesis known → IfSome (proposal_request made known) RequestRooted
  unfolding proposal_request request_at request_on context_at greatest_parent
  request_rooted made known g s = at (proposal_view made known)
    where
      on : (view parent : ℕ) (a b : Bool) → IsRootedContext genesis (context_at made known parent view)
          → IfSome (if a then Some (Propose (context_at made known parent view)) else if b then Some (Prepare (context_at made known parent view)) else None) RequestRooted
      on view parent true b r = r
      on view parent false true r = r
      on view parent false false r = tt

      under : (view : ℕ) (o : Option ℕ) → greatest_parent made known view ≡ o → IfSome (option_and_then (request_on made known view) o) RequestRooted
      under view None e = tt
      under view (Some parent) e =
          on view parent (not (needs_handoff made known parent view)) made.handoff
          (parent_rooted genesis made known parent view g s (greatest_passes (λ (p : ℕ). has_ancestry made known p view) view parent e))

      at : (o : Option ℕ) → IfSome (option_and_then (request_at made known) o) RequestRooted
      at None = tt
      at (Some view) = under view (greatest_parent made known view) refl

  with_request_sound : (o : Option ProposalRequest) (desk : Desk) → IfSome o RequestRooted → IsSoundDesk desk → IsSoundDesk (with_request o desk)
  with_request_sound None desk r n = n
  with_request_sound (Some (Prepare context)) desk r n =
      record { facts = n.facts; stands = n.stands; held = tt; given = asked_more desk.known desk.asked (asks.Prepare context) desk.verify n.given; rooted = Each-append (IsRooted genesis) desk.asked (asks.Prepare context ∷ []) n.rooted (r, tt); count = one_more desk.asked (asks.Prepare context) desk.opened n.count }
  with_request_sound (Some (Propose context)) desk r n =
      record { facts = n.facts; stands = n.stands; held = tt; given = asked_more desk.known desk.asked (asks.Propose context) desk.verify n.given; rooted = Each-append (IsRooted genesis) desk.asked (asks.Propose context ∷ []) n.rooted (r, tt); count = one_more desk.asked (asks.Propose context) desk.opened n.count }

  desk_open_proposal : (made : Made) (desk : Desk) → made.genesis ≡ genesis → IsSoundDesk desk → IsSoundDesk (open_proposal made desk)
  unfolding open_proposal
  desk_open_proposal made desk g n = at (is_none desk.proposal)
    where
      at : (b : Bool) → IsSoundDesk (if b then with_request (proposal_request made desk.known) (told made state.TryPropose desk) else desk)
      at true = with_request_sound (proposal_request made desk.known) (told made state.TryPropose desk) (request_rooted made desk.known g n.stands) (tells made state.TryPropose desk tt n)
      at false = n

  -- what is given to verify is rooted, and not yet asked of its view
  pub record IsNew (known : List Fact) (context : Context) (p : Proposal) : Type 0 where
    pub rooted : IsRootedContext genesis context
    pub fresh : verify_asked known (view_of p) ≡ None

  abbrev VerifyNew : List Fact → Verify → Type 0
  VerifyNew known (Ready context p) = IsNew known context p
  VerifyNew known _ = Unit {0}

  none_of : {A : Type 0} (o : Option A) → is_none o ≡ true → o ≡ None
  none_of None e = refl
  none_of (Some a) e = cc

  fresh : (made : Made) (known : List Fact) (view : ℕ) (p : Proposal) → slot_of known view ≡ Some p → (wants_verify known view && is_founded made known view) ≡ true → is_none (verify_asked known (view_of p)) ≡ true
  unfolding wants_verify
  fresh made known view p e t = (let v = slot_view known view p e in grind (arith, common_steps, t, v))

  founded : (made : Made) (known : List Fact) (view : ℕ) (p : Proposal) → slot_of known view ≡ Some p → (wants_verify known view && is_founded made known view) ≡ true → has_ancestry made known p.parent view ≡ true
  unfolding is_founded
  founded made known view p e t = grind (arith, common_steps, t, e)

  ready_new : (made : Made) (known : List Fact) → made.genesis ≡ genesis → StandsOn genesis known → IfSome (ready_verify made known) (VerifyNew known)
  unfolding ready_verify verify_of
  ready_new made known g s = at (find (λ view. wants_verify known view && is_founded made known view) (admitted_views made known)) refl
    where
      on : (view : ℕ) (o : Option Proposal) → slot_of known view ≡ o → (wants_verify known view && is_founded made known view) ≡ true → IfSome (option_map (verify_of made known view) o) (VerifyNew known)
      on view None e t = tt
      on view (Some p) e t = record {
        rooted = parent_rooted genesis made known p.parent view g s (founded made known view p e t);
        fresh = none_of (verify_asked known (view_of p)) (fresh made known view p e t);
      }

      at : (o : Option ℕ) → find (λ view. wants_verify known view && is_founded made known view) (admitted_views made known) ≡ o
          → IfSome (option_and_then (λ view. option_map (verify_of made known view) (slot_of known view)) o) (VerifyNew known)
      at None e = tt
      at (Some view) e = on view (slot_of known view) refl (found_passes (λ view. wants_verify known view && is_founded made known view) (admitted_views made known) view e)

  missing_new : (made : Made) (known : List Fact) → IfSome (missing_verify made known) (VerifyNew known)
  unfolding missing_verify resolve_of
  missing_new made known = at (find (wants_verify known) (admitted_views made known))
    where
      gap : (view : ℕ) (b : Bool) (x : Verify) → VerifyNew known x → IfSome (if b then None else Some x) (VerifyNew known)
      gap view true x h = tt
      gap view false x h = h

      on : (view : ℕ) (o : Option _) → IfSome (option_and_then (resolve_of made known view) o) (VerifyNew known)
      on view None = tt
      on view (Some g) = gap view _ _ tt

      at : (o : Option ℕ) → IfSome (option_and_then (λ view. option_and_then (resolve_of made known view) (option_and_then (missing_below made known view) (slot_of known view))) o) (VerifyNew known)
      at None = tt
      at (Some view) = on view (option_and_then (missing_below made known view) (slot_of known view))

  verify_new : (made : Made) (known : List Fact) → made.genesis ≡ genesis → StandsOn genesis known → VerifyNew known (verify_request made known)
  unfolding verify_request
  verify_new made known g s = at (ready_verify made known) (missing_verify made known) (ready_new made known g s) (missing_new made known)
    where
      at : (o p : Option Verify) → IfSome o (VerifyNew known) → IfSome p (VerifyNew known) → VerifyNew known (unwrap_or (option_or o p) Wait)
      at (Some v) p h k = h
      at None (Some v) h k = k
      at None None h k = tt

  -- what is asked of a view first is known to be asked of it
  asked_first : (made : Made) (known : List Fact) (context : Context) (p : Proposal) → verify_request made known ≡ Ready context p → verify_asked known (view_of p) ≡ None
      → verify_asked (facts_of made known state.TryVerify ++ known) (view_of p) ≡ Some p
  unfolding facts_of verify_asked first_of
  asked_first made known context p e none = grind (arith, common_steps, e, none)

  desk_open_verify : (made : Made) (desk : Desk) → made.genesis ≡ genesis → IsSoundDesk desk → IsSoundDesk (open_verify made desk)
  unfolding open_verify
  desk_open_verify made desk g n = at (is_none desk.verify)
    where
      told_so : IsSoundDesk (told made state.TryVerify desk)
      told_so = tells made state.TryVerify desk tt n

      with_it : (v : Verify) → verify_request made desk.known ≡ v → VerifyNew desk.known v → IsSoundDesk (with_verify v (told made state.TryVerify desk))
      with_it (Ready context p) e h =
          let x = asks.Verify context p.payload in
          record {
            facts = told_so.facts;
            stands = told_so.stands;
            held = told_so.held;
            given = record { context = context; proposal = p; asks = last_asked desk.asked x desk.opened n.count; known_so = asked_first made desk.known context p e h.fresh };
            rooted = Each-append (IsRooted genesis) desk.asked (x ∷ []) n.rooted (h.rooted, tt);
            count = one_more desk.asked x desk.opened n.count;
          }
      with_it (Resolve proposal view kind target) e h = told_so
      with_it Wait e h = told_so

      at : (b : Bool) → IsSoundDesk (if b then with_verify (verify_request made desk.known) (told made state.TryVerify desk) else desk)
      at true = with_it (verify_request made desk.known) refl (verify_new made desk.known g n.stands)
      at false = n

  pub desk_reconciled : (made : Made) (now : ℕ) (desk : Desk) → made.genesis ≡ genesis → IsSoundDesk desk → IsSoundDesk (reconciled made now desk)
  unfolding reconciled
  desk_reconciled made now desk g n =
      let a = drop_proposal made desk in
      let b = drop_verify made a in
      let c = abandon_handoff b in
      let d = end_waiting made now c in
      desk_open_verify made (open_proposal made d) g (desk_open_proposal made d g (desk_end_waiting made now c (desk_abandon b (desk_drop_verify made a (desk_drop_proposal made desk n)))))

  certify_sound : (xs : List Proposal) (desk : Desk) → IsSoundDesk desk → IsSoundDesk (fold open_certify desk xs)
  certify_sound [] desk n = n
  certify_sound (x ∷ xs) desk n =
      let a = asks.Certify x.round x.payload in
      certify_sound xs (open_certify desk x)
      (record { facts = n.facts; stands = n.stands; held = n.held; given = asked_more desk.known desk.asked a desk.verify n.given; rooted = Each-append (IsRooted genesis) desk.asked (a ∷ []) n.rooted (tt, tt); count = one_more desk.asked a desk.opened n.count })

  parents_sound : (xs : List CertificateFetch) (desk : Desk) → IsSoundDesk desk → IsSoundDesk (fold seek_parent desk xs)
  parents_sound [] desk n = n
  parents_sound (x ∷ xs) desk n = parents_sound xs (seek_parent desk x) n

  desk_certifying : (made : Made) (desk : Desk) → IsSoundDesk desk → IsSoundDesk (certifying made desk)
  unfolding certifying drop_certify
  desk_certifying made desk n =
      let asked = told made state.CertifyCandidates (drop_certify desk) in
      parents_sound (parent_fetches desk.known) (fold open_certify asked (certify_requests desk.known))
      (certify_sound (certify_requests desk.known) asked (tells made state.CertifyCandidates (drop_certify desk) tt n))

  pub desk_iterated : (made : Made) (now : ℕ) (desk : Desk) → made.genesis ≡ genesis → IsSoundDesk desk → IsSoundDesk (iterated made now desk)
  unfolding iterated
  desk_iterated made now desk g n = desk_certifying made (reconciled made now desk) (desk_reconciled made now desk g n)
