-- What each pass does to the open requests.
use Rattle.std.proofs.Common.{◌≡◌, ℕ, ◌+◌, ◌<◌, ◌&&◌, ◌||◌, not, Bool, true, false, nat_lt, List, [], ◌∷◌, ◌++◌, filter, fold, length, Option, Some, None, refl, sym, ap, subst, ◌∙◌, arith, append_assoc, length-append, if◌then◌else◌}
use Rattle.std.specs.List.{slice_get}
use Rattle.std.specs.Prelude.{find}
use Rattle.std.specs.Option.{IfSome, is_none, option_or, option_map, option_map_or, option_and_then, unwrap_or}
use Rattle.std.proofs.lemmas.Grind.{common_steps}
use Rattle.simplex_values.specs.declared.answer.Answer.{Answer}
use Rattle.simplex_values.specs.declared.proposal.Proposal.{Proposal}
use Rattle.simplex_values.specs.declared.round.Context.{Context}
use Rattle.simplex_values.specs.declared.round.Round.{Round}
use Rattle.simplex_values.specs.declared.timeout.TimeoutReason.TheVariants.{MissingProposal}
use Rattle.model_rules.specs.declared.request.Asked.{Asked}
use Rattle.model_rules.specs.declared.request.Asked.TheVariants as asks
use Rattle.model_rules.specs.declared.request.ProposalRequest.{ProposalRequest}
use Rattle.model_rules.specs.declared.request.ProposalRequest.TheVariants.{Prepare, Propose}
use Rattle.model_rules.specs.declared.request.ProposalState.{ProposalState}
use Rattle.model_rules.specs.declared.request.ProposalState.TheVariants.{Preparing, Proposing, Waiting, Held, Closed}
use Rattle.model_rules.specs.declared.request.Verify.{Verify}
use Rattle.model_rules.specs.declared.request.Verify.TheVariants.{Ready, Resolve, Wait}
use Rattle.model_rules.specs.declared.request.CertificateFetch.{CertificateFetch}
use Rattle.model_rules.specs.Lists.{first_of}
use Rattle.model_rules.specs.Known.{Made, Fact, view_of}
use Rattle.model_rules.specs.Views.{last_finalized, current_of}
use Rattle.model_rules.specs.Slot.{slot_of}
use Rattle.model_rules.specs.Ancestry.{is_certified}
use Rattle.model_rules.specs.Requests.{admitted_views, proposal_request, verify_in, verify_asked, wants_verify, is_founded, verify_of, ready_verify, missing_verify, resolve_of, missing_below, verify_request, certify_requests, parent_fetches, is_superseded, is_abandoned}
use Rattle.model_rules.specs.Calls as state
use Rattle.model_rules.specs.Calls.{facts_of, verify_facts, proposal_on}
use Rattle.model_rules.specs.Pending.{Desk, Pending, Opened, told, is_open, is_preparing, is_waiting, is_closed, pending_view, pending_parent, put_number, drop_request, drop_number, drop_proposal, drop_verify, abandon_handoff, end_waiting, with_request, open_proposal, with_verify, open_verify, reconciled, drop_certify, open_certify, seek_parent, certifying, iterated}
use Rattle.model_rules.proofs.Soundness.{slot_view}
use Rattle.law_run.specs.Sayings.{Each}
use Rattle.law_run.proofs.Speaking.{Each-append, Each-weaker}
use Rattle.law_run.proofs.AskedListing.{place_front, place_last, first_more, found_passes}
use Rattle.law_requests.specs.Open.{IsOpen, IsPending, IsVerify, IsCertify, IsFitting, AreOpen}
use Rattle.law_requests.proofs.Numbers.{differ, stands_below, drop_kept, drop_each, fresh, below_more, drop_failing, failing_kept, failing_each}

-- ---- as more is known, and more is asked

known_more : (asked : List Asked) (dropped : List ℕ) (new known : List Fact) (o : Option Opened) → IfSome o (IsVerify asked dropped known) → IfSome o (IsVerify asked dropped (new ++ known))
unfolding verify_asked
known_more asked dropped new known None h = tt
known_more asked dropped new known (Some v) h =
    record { context = h.context; payload = h.payload; request = h.request; same = first_more (verify_in v.view) new known (proposal_on h.context h.payload) h.same; view = h.view }

pub open_known : (asked : List Asked) (dropped : List ℕ) (given : List (ℕ × Answer)) (new known : List Fact) (p : Option Pending) (v : Option Opened) (cs : List Opened) (opened : ℕ)
    → AreOpen asked dropped given known p v cs opened → AreOpen asked dropped given (new ++ known) p v cs opened
open_known asked dropped given new known p v cs opened n =
    record { count = n.count; below = n.below; pending = n.pending; verify = known_more asked dropped new known v n.verify; certify = n.certify; fitting = n.fitting }

module _ (asked more : List Asked) (dropped : List ℕ) where
  open_more : (number : ℕ) (request : Asked) → IsOpen asked dropped number request → IsOpen (asked ++ more) dropped number request
  open_more number request o = record { stands = place_front asked more number request o.stands; kept = o.kept }

  pending_more : (given : List (ℕ × Answer)) (p : Pending) (s : ProposalState) → IsPending asked dropped given p s → IsPending (asked ++ more) dropped given p s
  pending_more given p Preparing h = open_more p.number (asks.Prepare p.context) h
  pending_more given p Proposing h = open_more p.number (asks.Propose p.context) h
  pending_more given p (Held payload) h = record { stands = place_front asked more p.number (asks.Prepare p.context) h.stands; first = h.first }
  pending_more given p Waiting h = tt
  pending_more given p Closed h = tt

  some_pending_more : (given : List (ℕ × Answer)) (o : Option Pending) → IfSome o (λ p. IsPending asked dropped given p p.state) → IfSome o (λ p. IsPending (asked ++ more) dropped given p p.state)
  some_pending_more given None h = tt
  some_pending_more given (Some p) h = pending_more given p p.state h

  verify_more : (known : List Fact) (o : Option Opened) → IfSome o (IsVerify asked dropped known) → IfSome o (IsVerify (asked ++ more) dropped known)
  verify_more known None h = tt
  verify_more known (Some v) h = record { context = h.context; payload = h.payload; request = open_more v.number (asks.Verify h.context h.payload) h.request; same = h.same; view = h.view }

  certify_more : (c : Opened) → IsCertify asked dropped c → IsCertify (asked ++ more) dropped c
  certify_more c h = record { round = h.round; payload = h.payload; request = open_more c.number (asks.Certify h.round h.payload) h.request; view = h.view }

  fitting_more : (g : ℕ × Answer) → IsFitting asked g → IsFitting (asked ++ more) g
  fitting_more g h = record { request = h.request; stands = place_front asked more g.0 h.request h.stands; fits = h.fits }

-- one more is asked
pub open_one : (asked : List Asked) (x : Asked) (dropped : List ℕ) (given : List (ℕ × Answer)) (known : List Fact) (p : Option Pending) (v : Option Opened) (cs : List Opened) (opened : ℕ)
    → AreOpen asked dropped given known p v cs opened → AreOpen (asked ++ x ∷ []) dropped given known p v cs (opened + 1)
open_one asked x dropped given known p v cs opened n =
    record {
      count = omega (arith, n.count, length-append asked (x ∷ []));
      below = below_more opened dropped n.below;
      pending = some_pending_more asked (x ∷ []) dropped given p n.pending;
      verify = verify_more asked (x ∷ []) dropped known v n.verify;
      certify = Each-weaker (IsCertify asked dropped) (IsCertify (asked ++ x ∷ []) dropped) (certify_more asked (x ∷ []) dropped) cs n.certify;
      fitting = Each-weaker (IsFitting asked) (IsFitting (asked ++ x ∷ [])) (fitting_more asked (x ∷ []) dropped) given n.fitting;
    }

-- and it is open
pub last_open : (asked : List Asked) (x : Asked) (dropped : List ℕ) (opened : ℕ) → opened ≡ length asked → Each (λ (n : ℕ). n < opened) dropped → IsOpen (asked ++ x ∷ []) dropped opened x
last_open asked x dropped opened e below = record { stands = place_last asked x opened e; kept = fresh opened dropped below }

-- ---- as one is dropped

module _ (asked : List Asked) (gone dropped : List ℕ) (n : ℕ) (a : Asked) (stands : slice_get asked n ≡ Some a) where
  abbrev later : List ℕ
  later = gone ++ put_number n dropped

  open_kept : (k : ℕ) (b : Asked) → (a ≡ b → ⊥) → IsOpen asked (gone ++ dropped) k b → IsOpen asked later k b
  open_kept k b apart o = record { stands = o.stands; kept = drop_kept gone n k dropped (differ asked n k a b stands o.stands apart) o.kept }

  pending_kept : ((c : Context) → a ≡ asks.Prepare c → ⊥) → ((c : Context) → a ≡ asks.Propose c → ⊥) → (given : List (ℕ × Answer)) (p : Pending) (s : ProposalState)
      → IsPending asked (gone ++ dropped) given p s → IsPending asked later given p s
  pending_kept x y given p Preparing h = open_kept p.number (asks.Prepare p.context) (x p.context) h
  pending_kept x y given p Proposing h = open_kept p.number (asks.Propose p.context) (y p.context) h
  pending_kept x y given p (Held payload) h = record { stands = h.stands; first = h.first }
  pending_kept x y given p Waiting h = tt
  pending_kept x y given p Closed h = tt

  some_pending_kept : ((c : Context) → a ≡ asks.Prepare c → ⊥) → ((c : Context) → a ≡ asks.Propose c → ⊥) → (given : List (ℕ × Answer)) (o : Option Pending)
      → IfSome o (λ p. IsPending asked (gone ++ dropped) given p p.state) → IfSome o (λ p. IsPending asked later given p p.state)
  some_pending_kept x y given None h = tt
  some_pending_kept x y given (Some p) h = pending_kept x y given p p.state h

  verify_kept : ((c : Context) (payload : List ℕ) → a ≡ asks.Verify c payload → ⊥) → (known : List Fact) (o : Option Opened) → IfSome o (IsVerify asked (gone ++ dropped) known) → IfSome o (IsVerify asked later known)
  verify_kept x known None h = tt
  verify_kept x known (Some v) h =
      record { context = h.context; payload = h.payload; request = open_kept v.number (asks.Verify h.context h.payload) (x h.context h.payload) h.request; same = h.same; view = h.view }

  certify_kept : ((r : Round) (payload : List ℕ) → a ≡ asks.Certify r payload → ⊥) → (c : Opened) → IsCertify asked (gone ++ dropped) c → IsCertify asked later c
  certify_kept x c h = record { round = h.round; payload = h.payload; request = open_kept c.number (asks.Certify h.round h.payload) (x h.round h.payload) h.request; view = h.view }

module _ (earlier : List Asked) (gone : List ℕ) (given : List (ℕ × Answer)) where
  -- in a step, behind what was asked and dropped before it
  abbrev pub IsDesk : Desk → Type 0
  IsDesk desk = AreOpen (earlier ++ desk.asked) (gone ++ desk.dropped) given desk.known desk.proposal desk.verify desk.certify desk.opened

  pub desk_told : (made : Made) (call : state.Call) (desk : Desk) → IsDesk desk → IsDesk (told made call desk)
  desk_told made call desk n = open_known (earlier ++ desk.asked) (gone ++ desk.dropped) given (facts_of made desk.known call) desk.known desk.proposal desk.verify desk.certify desk.opened n

  -- with another proposal pending, no Verify, or fewer Certify
  pub desk_settled : (desk : Desk) (p : Option Pending) → IfSome p (λ q. IsPending (earlier ++ desk.asked) (gone ++ desk.dropped) given q q.state) → IsDesk desk → IsDesk (record desk { proposal = p })
  desk_settled desk p h n = record { count = n.count; below = n.below; pending = h; verify = n.verify; certify = n.certify; fitting = n.fitting }

  pub desk_unverified : (desk : Desk) → IsDesk desk → IsDesk (record desk { verify = None })
  desk_unverified desk n = record { count = n.count; below = n.below; pending = n.pending; verify = tt; certify = n.certify; fitting = n.fitting }

  -- a proposal's request is dropped, and stands for nothing that is open
  dropped_proposal : (desk : Desk) (number : ℕ) (a : Asked) (p : Option Pending) → slice_get (earlier ++ desk.asked) number ≡ Some a → ((c : Context) (payload : List ℕ) → a ≡ asks.Verify c payload → ⊥)
      → ((r : Round) (payload : List ℕ) → a ≡ asks.Certify r payload → ⊥) → IfSome p (λ q. IsPending (earlier ++ desk.asked) (gone ++ put_number number desk.dropped) given q q.state) → IsDesk desk
      → IsDesk (record (drop_number desk number) { proposal = p })
  dropped_proposal desk number a p stands x y h n =
      let all = earlier ++ desk.asked in
      record {
        count = n.count;
        below = drop_each (λ (k : ℕ). k < desk.opened) gone number desk.dropped (omega (arith, n.count, stands_below all number a stands)) n.below;
        pending = h;
        verify = verify_kept all gone desk.dropped number a stands x desk.known desk.verify n.verify;
        certify = Each-weaker (IsCertify all (gone ++ desk.dropped)) (IsCertify all (gone ++ put_number number desk.dropped)) (certify_kept all gone desk.dropped number a stands y) desk.certify n.certify;
        fitting = n.fitting;
      }

  desk_drop_proposal : (made : Made) (desk : Desk) → IsDesk desk → IsDesk (drop_proposal made desk)
  unfolding drop_proposal
  desk_drop_proposal made desk n = at desk.proposal n.pending
    where
      all : List Asked
      all = earlier ++ desk.asked

      dropped : (p : Pending) (s : ProposalState) → IsPending all (gone ++ desk.dropped) given p s → IsDesk (record (if is_open s then drop_number desk p.number else desk) { proposal = None })
      dropped p Preparing h = dropped_proposal desk p.number (asks.Prepare p.context) None h.stands (λ c payload e. cc e) (λ c payload e. cc e) tt n
      dropped p Proposing h = dropped_proposal desk p.number (asks.Propose p.context) None h.stands (λ c payload e. cc e) (λ c payload e. cc e) tt n
      dropped p (Held payload) h = desk_settled desk None tt n
      dropped p Waiting h = desk_settled desk None tt n
      dropped p Closed h = desk_settled desk None tt n

      one : (p : Pending) (b : Bool) → IsPending all (gone ++ desk.dropped) given p p.state → IsDesk (if b then record (drop_request desk p) { proposal = None } else desk)
      one p true h = dropped p p.state h
      one p false h = n

      at : (o : Option Pending) → IfSome o (λ p. IsPending all (gone ++ desk.dropped) given p p.state) → IsDesk (option_map_or (λ p.
          if nat_lt (pending_view p) (current_of made desk.known) || is_superseded made desk.known (pending_parent p) (pending_view p)
          then record (drop_request desk p) { proposal = None } else desk) o desk)
      at None h = n
      at (Some p) h = one p _ h

  desk_drop_verify : (made : Made) (desk : Desk) → IsDesk desk → IsDesk (drop_verify made desk)
  unfolding drop_verify
  desk_drop_verify made desk n = at desk.verify n.verify
    where
      all : List Asked
      all = earlier ++ desk.asked

      one : (v : Opened) (b : Bool) → IsVerify all (gone ++ desk.dropped) desk.known v → IsDesk (if b then record (drop_number desk v.number) { verify = None } else desk)
      one v true h =
          let a = asks.Verify h.context h.payload in
          let o = h.request in
          record {
            count = n.count;
            below = drop_each (λ (k : ℕ). k < desk.opened) gone v.number desk.dropped (omega (arith, n.count, stands_below all v.number a o.stands)) n.below;
            pending = some_pending_kept all gone desk.dropped v.number a o.stands (λ c e. cc e) (λ c e. cc e) given desk.proposal n.pending;
            verify = tt;
            certify = Each-weaker (IsCertify all (gone ++ desk.dropped)) (IsCertify all (gone ++ put_number v.number desk.dropped)) (certify_kept all gone desk.dropped v.number a o.stands (λ r payload e. cc e)) desk.certify n.certify;
            fitting = n.fitting;
          }
      one v false h = n

      at : (o : Option Opened) → IfSome o (IsVerify all (gone ++ desk.dropped) desk.known) → IsDesk (option_map_or (λ v.
          if nat_lt v.view (current_of made desk.known) then record (drop_number desk v.number) { verify = None } else desk) o desk)
      at None h = n
      at (Some v) h = one v _ h

  desk_abandon : (desk : Desk) → IsDesk desk → IsDesk (abandon_handoff desk)
  unfolding abandon_handoff
  desk_abandon desk n = at desk.proposal n.pending
    where
      all : List Asked
      all = earlier ++ desk.asked

      one : (p : Pending) (s : ProposalState) (b : Bool) → IsPending all (gone ++ desk.dropped) given p s
          → IsDesk (if is_preparing s && b then record (drop_number desk p.number) { proposal = Some (record p { state = Waiting }) } else desk)
      one p Preparing true h = dropped_proposal desk p.number (asks.Prepare p.context) (Some (record p { state = Waiting })) h.stands (λ c payload e. cc e) (λ c payload e. cc e) tt n
      one p Preparing false h = n
      one p Proposing b h = n
      one p (Held payload) b h = n
      one p Waiting b h = n
      one p Closed b h = n

      at : (o : Option Pending) → IfSome o (λ p. IsPending all (gone ++ desk.dropped) given p p.state) → IsDesk (option_map_or (λ p.
          if is_preparing p.state && not p.is_answered && is_abandoned desk.known (pending_parent p) (pending_view p)
          then record (drop_number desk p.number) { proposal = Some (record p { state = Waiting }) } else desk) o desk)
      at None h = n
      at (Some p) h = subst (λ b. IsDesk (if b then record (drop_number desk p.number) { proposal = Some (record p { state = Waiting }) } else desk))
          (and_assoc (is_preparing p.state) (not p.is_answered) (is_abandoned desk.known (pending_parent p) (pending_view p)))
          (one p p.state (not p.is_answered && is_abandoned desk.known (pending_parent p) (pending_view p)) h)
        where
          and_assoc : (a b c : Bool) → (a && (b && c)) ≡ (a && b && c)
          and_assoc true b c = refl
          and_assoc false b c = refl

  desk_end_waiting : (made : Made) (now : ℕ) (desk : Desk) → IsDesk desk → IsDesk (end_waiting made now desk)
  unfolding end_waiting
  desk_end_waiting made now desk n = at desk.proposal
    where
      ends : (call : state.Call) → IsDesk (record (told made call desk) { proposal = None })
      ends call = desk_settled (told made call desk) None tt (desk_told made call desk n)

      one : (p : Pending) (a b c : Bool) → IsDesk (if a then desk
          else if b then record (told made (state.ReleaseProposalRequest (pending_view p)) desk) { proposal = None }
          else if c then record (told made (state.TriggerTimeout (pending_view p) MissingProposal now) desk) { proposal = None }
          else desk)
      one p true b c = n
      one p false true c = ends (state.ReleaseProposalRequest (pending_view p))
      one p false false true = ends (state.TriggerTimeout (pending_view p) MissingProposal now)
      one p false false false = n

      at : (o : Option Pending) → IsDesk (option_map_or (λ p.
          if not (is_certified desk.known (pending_parent p)) then desk
          else if is_waiting p.state then record (told made (state.ReleaseProposalRequest (pending_view p)) desk) { proposal = None }
          else if is_closed p.state
          then record (told made (state.TriggerTimeout (pending_view p) MissingProposal now) desk) { proposal = None }
          else desk) o desk)
      at None = n
      at (Some p) = one p _ _ _

  -- one more request, behind all that was asked
  abbrev OpenBehind : Desk → Asked → List Fact → Option Pending → Option Opened → List Opened → Type 0
  OpenBehind desk x known p v cs = AreOpen (earlier ++ (desk.asked ++ x ∷ [])) (gone ++ desk.dropped) given known p v cs (desk.opened + 1)

  behind : (desk : Desk) (x : Asked) (known : List Fact) (p : Option Pending) (v : Option Opened) (cs : List Opened)
      → AreOpen ((earlier ++ desk.asked) ++ x ∷ []) (gone ++ desk.dropped) given known p v cs (desk.opened + 1) → OpenBehind desk x known p v cs
  behind desk x known p v cs n = subst (λ all. AreOpen all (gone ++ desk.dropped) given known p v cs (desk.opened + 1)) (append_assoc earlier desk.asked (x ∷ [])) n

  with_request_open : (o : Option ProposalRequest) (desk : Desk) → IsDesk desk → IsDesk (with_request o desk)
  with_request_open None desk n = n
  with_request_open (Some (Prepare context)) desk n =
      let x = asks.Prepare context in
      let p : Pending = record { number = desk.opened; context = context; state = Preparing; is_answered = false } in
      let k = open_one (earlier ++ desk.asked) x (gone ++ desk.dropped) given desk.known desk.proposal desk.verify desk.certify desk.opened n in
      behind desk x desk.known (Some p) desk.verify desk.certify
      (record { count = k.count; below = k.below; pending = last_open (earlier ++ desk.asked) x (gone ++ desk.dropped) desk.opened n.count n.below; verify = k.verify; certify = k.certify; fitting = k.fitting })
  with_request_open (Some (Propose context)) desk n =
      let x = asks.Propose context in
      let p : Pending = record { number = desk.opened; context = context; state = Proposing; is_answered = false } in
      let k = open_one (earlier ++ desk.asked) x (gone ++ desk.dropped) given desk.known desk.proposal desk.verify desk.certify desk.opened n in
      behind desk x desk.known (Some p) desk.verify desk.certify
      (record { count = k.count; below = k.below; pending = last_open (earlier ++ desk.asked) x (gone ++ desk.dropped) desk.opened n.count n.below; verify = k.verify; certify = k.certify; fitting = k.fitting })

  desk_open_proposal : (made : Made) (desk : Desk) → IsDesk desk → IsDesk (open_proposal made desk)
  unfolding open_proposal
  desk_open_proposal made desk n = at (is_none desk.proposal)
    where
      at : (b : Bool) → IsDesk (if b then with_request (proposal_request made desk.known) (told made state.TryPropose desk) else desk)
      at true = with_request_open (proposal_request made desk.known) (told made state.TryPropose desk) (desk_told made state.TryPropose desk n)
      at false = n

  -- what is given to verify is not yet asked of its view, and its context is the proposal's
  record IsNew (known : List Fact) (context : Context) (p : Proposal) : Type 0 where
    pub fresh : verify_asked known (view_of p) ≡ None
    pub same : p ≡ proposal_on context p.payload
    pub view : context.round.view ≡ view_of p

  abbrev VerifyNew : List Fact → Verify → Type 0
  VerifyNew known (Ready context p) = IsNew known context p
  VerifyNew known _ = Unit {0}

  none_of : {A : Type 0} (o : Option A) → is_none o ≡ true → o ≡ None
  none_of None e = refl
  none_of (Some a) e = cc

  unasked : (made : Made) (known : List Fact) (view : ℕ) (p : Proposal) → slot_of known view ≡ Some p → (wants_verify known view && is_founded made known view) ≡ true → is_none (verify_asked known (view_of p)) ≡ true
  unfolding wants_verify
  unasked made known view p e t = (let v = slot_view known view p e in grind (arith, common_steps, t, v))

  ready_new : (made : Made) (known : List Fact) → IfSome (ready_verify made known) (VerifyNew known)
  unfolding ready_verify verify_of
  ready_new made known = at (find (λ view. wants_verify known view && is_founded made known view) (admitted_views made known)) refl
    where
      on : (view : ℕ) (o : Option Proposal) → slot_of known view ≡ o → (wants_verify known view && is_founded made known view) ≡ true → IfSome (option_map (verify_of made known view) o) (VerifyNew known)
      on view None e t = tt
      on view (Some p) e t = record { fresh = none_of (verify_asked known (view_of p)) (unasked made known view p e t); same = refl; view = refl }

      at : (o : Option ℕ) → find (λ view. wants_verify known view && is_founded made known view) (admitted_views made known) ≡ o
          → IfSome (option_and_then (λ view. option_map (verify_of made known view) (slot_of known view)) o) (VerifyNew known)
      at None e = tt
      at (Some view) e = on view (slot_of known view) refl (found_passes (λ view. wants_verify known view && is_founded made known view) (admitted_views made known) view e)

  missing_new : (made : Made) (known : List Fact) → IfSome (missing_verify made known) (VerifyNew known)
  unfolding missing_verify resolve_of
  missing_new made known = at (find (wants_verify known) (admitted_views made known))
    where
      gap : (view : ℕ) (b : Bool) (x : Verify) → VerifyNew known x → IfSome (if b then None else Some x) (VerifyNew known)
      gap view true x h = tt
      gap view false x h = h

      on : (view : ℕ) (o : Option _) → IfSome (option_and_then (resolve_of made known view) o) (VerifyNew known)
      on view None = tt
      on view (Some g) = gap view _ _ tt

      at : (o : Option ℕ) → IfSome (option_and_then (λ view. option_and_then (resolve_of made known view) (option_and_then (missing_below made known view) (slot_of known view))) o) (VerifyNew known)
      at None = tt
      at (Some view) = on view (option_and_then (missing_below made known view) (slot_of known view))

  verify_new : (made : Made) (known : List Fact) → VerifyNew known (verify_request made known)
  unfolding verify_request
  verify_new made known = at (ready_verify made known) (missing_verify made known) (ready_new made known) (missing_new made known)
    where
      at : (o p : Option Verify) → IfSome o (VerifyNew known) → IfSome p (VerifyNew known) → VerifyNew known (unwrap_or (option_or o p) Wait)
      at (Some v) p h k = h
      at None (Some v) h k = k
      at None None h k = tt

  asked_first : (made : Made) (known : List Fact) (context : Context) (p : Proposal) → verify_request made known ≡ Ready context p → verify_asked known (view_of p) ≡ None
      → verify_asked (facts_of made known state.TryVerify ++ known) (view_of p) ≡ Some p
  unfolding facts_of verify_asked first_of
  asked_first made known context p e none = grind (arith, common_steps, e, none)

  desk_open_verify : (made : Made) (desk : Desk) → IsDesk desk → IsDesk (open_verify made desk)
  unfolding open_verify
  desk_open_verify made desk n = at (is_none desk.verify)
    where
      told_so : IsDesk (told made state.TryVerify desk)
      told_so = desk_told made state.TryVerify desk n

      with_it : (v : Verify) → verify_request made desk.known ≡ v → VerifyNew desk.known v → IsDesk (with_verify v (told made state.TryVerify desk))
      with_it (Ready context p) e h =
          let x = asks.Verify context p.payload in
          let known = facts_of made desk.known state.TryVerify ++ desk.known in
          let v : Opened = record { number = desk.opened; view = view_of p } in
          let k = open_one (earlier ++ desk.asked) x (gone ++ desk.dropped) given known desk.proposal desk.verify desk.certify desk.opened told_so in
          behind desk x known desk.proposal (Some v) desk.certify
          (record {
            count = k.count;
            below = k.below;
            pending = k.pending;
            verify = record {
              context = context;
              payload = p.payload;
              request = last_open (earlier ++ desk.asked) x (gone ++ desk.dropped) desk.opened n.count n.below;
              same = asked_first made desk.known context p e h.fresh ∙ ap Some h.same;
              view = h.view;
            };
            certify = k.certify;
            fitting = k.fitting;
          })
      with_it (Resolve proposal view kind target) e h = told_so
      with_it Wait e h = told_so

      at : (b : Bool) → IsDesk (if b then with_verify (verify_request made desk.known) (told made state.TryVerify desk) else desk)
      at true = with_it (verify_request made desk.known) refl (verify_new made desk.known)
      at false = n

  pub desk_reconciled : (made : Made) (now : ℕ) (desk : Desk) → IsDesk desk → IsDesk (reconciled made now desk)
  unfolding reconciled
  desk_reconciled made now desk n =
      let a = drop_proposal made desk in
      let b = drop_verify made a in
      let c = abandon_handoff b in
      let d = end_waiting made now c in
      desk_open_verify made (open_proposal made d) (desk_open_proposal made d (desk_end_waiting made now c (desk_abandon b (desk_drop_verify made a (desk_drop_proposal made desk n)))))

  -- ---- the Certify requests

  module _ (test : ℕ → Bool) where
    abbrev passes : Opened → Bool
    passes c = test c.view

    failing_open : (all : List Asked) (cs : List Opened) (xs : List ℕ) (k : ℕ) (b : Asked) → Each (IsCertify all (gone ++ xs)) cs
        → ((r : Round) (payload : List ℕ) → asks.Certify r payload ≡ b → test r.view ≡ false → ⊥)
        → (ys : List ℕ) → IsOpen all (gone ++ ys) k b → IsOpen all (gone ++ drop_failing passes ys cs) k b
    failing_open all cs xs k b h apart ys o =
        record { stands = o.stands; kept = failing_kept passes gone k cs ys (Each-weaker (IsCertify all (gone ++ xs)) (λ (c : Opened). passes c ≡ false → c.number ≡ k → ⊥) away cs h) o.kept }
      where
        away : (c : Opened) → IsCertify all (gone ++ xs) c → passes c ≡ false → c.number ≡ k → ⊥
        away c i f e =
            let p = i.request in
            differ all c.number k (asks.Certify i.round i.payload) b p.stands o.stands (λ same. apart i.round i.payload same (ap test i.view ∙ f)) e

    kept_certify : (all : List Asked) (cs : List Opened) (xs : List ℕ) → Each (IsCertify all (gone ++ xs)) cs → (ds : List Opened) → Each (IsCertify all (gone ++ xs)) ds
        → Each (IsCertify all (gone ++ drop_failing passes xs cs)) (filter passes ds)
    kept_certify all cs xs h [] k = tt
    kept_certify all cs xs h (d ∷ ds) k = at (passes d) refl (kept_certify all cs xs h ds k.1)
      where
        here : passes d ≡ true → IsCertify all (gone ++ drop_failing passes xs cs) d
        here t =
            let i = k.0 in
            record {
              round = i.round;
              payload = i.payload;
              request = failing_open all cs xs d.number (asks.Certify i.round i.payload) h (λ r payload same f. never (sym t ∙ sym (ap test i.view) ∙ ap test (sym (view_same r i.round payload i.payload same)) ∙ f)) xs i.request;
              view = i.view;
            }
          where
            never : true ≡ false → ⊥
            never e = cc

            view_same : (r s : Round) (p q : List ℕ) → asks.Certify r p ≡ asks.Certify s q → r.view ≡ s.view
            view_same r s p q e = (let same : r ≡ s = cc in ap (λ (x : Round). x.view) same)

        at : (b : Bool) → passes d ≡ b → Each (IsCertify all (gone ++ drop_failing passes xs cs)) (filter passes ds)
            → Each (IsCertify all (gone ++ drop_failing passes xs cs)) (if b then d ∷ filter passes ds else filter passes ds)
        at true t later = (here t, later)
        at false t later = later

  desk_drop_certify : (desk : Desk) → IsDesk desk → IsDesk (drop_certify desk)
  unfolding drop_certify
  desk_drop_certify desk n =
      record {
        count = n.count;
        below = failing_each (λ (k : ℕ). k < desk.opened) (passes final) gone desk.certify desk.dropped (Each-weaker (IsCertify all (gone ++ desk.dropped)) (λ (c : Opened). c.number < desk.opened) under desk.certify n.certify) n.below;
        pending = pending_still desk.proposal n.pending;
        verify = verify_still desk.verify n.verify;
        certify = kept_certify final all desk.certify desk.dropped n.certify desk.certify n.certify;
        fitting = n.fitting;
      }
    where
      all : List Asked
      all = earlier ++ desk.asked

      final : ℕ → Bool
      final view = nat_lt (last_finalized desk.known) view

      under : (c : Opened) → IsCertify all (gone ++ desk.dropped) c → c.number < desk.opened
      under c i = (let o = i.request in omega (arith, n.count, stands_below all c.number (asks.Certify i.round i.payload) o.stands))

      still : (k : ℕ) (b : Asked) → ((r : Round) (payload : List ℕ) → asks.Certify r payload ≡ b → ⊥) → IsOpen all (gone ++ desk.dropped) k b → IsOpen all (gone ++ drop_failing (passes final) desk.dropped desk.certify) k b
      still k b apart o = failing_open final all desk.certify desk.dropped k b n.certify (λ r payload same f. apart r payload same) desk.dropped o

      pending_so : (p : Pending) (s : ProposalState) → IsPending all (gone ++ desk.dropped) given p s → IsPending all (gone ++ drop_failing (passes final) desk.dropped desk.certify) given p s
      pending_so p Preparing h = still p.number (asks.Prepare p.context) (λ r payload e. cc e) h
      pending_so p Proposing h = still p.number (asks.Propose p.context) (λ r payload e. cc e) h
      pending_so p (Held payload) h = record { stands = h.stands; first = h.first }
      pending_so p Waiting h = tt
      pending_so p Closed h = tt

      pending_still : (o : Option Pending) → IfSome o (λ p. IsPending all (gone ++ desk.dropped) given p p.state) → IfSome o (λ p. IsPending all (gone ++ drop_failing (passes final) desk.dropped desk.certify) given p p.state)
      pending_still None h = tt
      pending_still (Some p) h = pending_so p p.state h

      verify_still : (o : Option Opened) → IfSome o (IsVerify all (gone ++ desk.dropped) desk.known) → IfSome o (IsVerify all (gone ++ drop_failing (passes final) desk.dropped desk.certify) desk.known)
      verify_still None h = tt
      verify_still (Some v) h =
          record { context = h.context; payload = h.payload; request = still v.number (asks.Verify h.context h.payload) (λ r payload e. cc e) h.request; same = h.same; view = h.view }

  certify_open : (xs : List Proposal) (desk : Desk) → IsDesk desk → IsDesk (fold open_certify desk xs)
  certify_open [] desk n = n
  certify_open (q ∷ xs) desk n =
      let x = asks.Certify q.round q.payload in
      let c : Opened = record { number = desk.opened; view = view_of q } in
      let k = open_one (earlier ++ desk.asked) x (gone ++ desk.dropped) given desk.known desk.proposal desk.verify desk.certify desk.opened n in
      let all = (earlier ++ desk.asked) ++ x ∷ [] in
      let new : IsCertify all (gone ++ desk.dropped) c = record {
        round = q.round;
        payload = q.payload;
        request = last_open (earlier ++ desk.asked) x (gone ++ desk.dropped) desk.opened n.count n.below;
        view = refl;
      } in
      certify_open xs (open_certify desk q)
      (behind desk x desk.known desk.proposal desk.verify (desk.certify ++ c ∷ [])
      (record { count = k.count; below = k.below; pending = k.pending; verify = k.verify; certify = Each-append (IsCertify all (gone ++ desk.dropped)) desk.certify (c ∷ []) k.certify (new, tt); fitting = k.fitting }))

  parents_open : (xs : List CertificateFetch) (desk : Desk) → IsDesk desk → IsDesk (fold seek_parent desk xs)
  parents_open [] desk n = n
  parents_open (x ∷ xs) desk n = parents_open xs (seek_parent desk x) n

  desk_certifying : (made : Made) (desk : Desk) → IsDesk desk → IsDesk (certifying made desk)
  unfolding certifying
  desk_certifying made desk n =
      let asked = told made state.CertifyCandidates (drop_certify desk) in
      parents_open (parent_fetches desk.known) (fold open_certify asked (certify_requests desk.known))
      (certify_open (certify_requests desk.known) asked (desk_told made state.CertifyCandidates (drop_certify desk) (desk_drop_certify desk n)))

  pub desk_iterated : (made : Made) (now : ℕ) (desk : Desk) → IsDesk desk → IsDesk (iterated made now desk)
  unfolding iterated
  desk_iterated made now desk n = desk_certifying made (reconciled made now desk) (desk_reconciled made now desk n)
