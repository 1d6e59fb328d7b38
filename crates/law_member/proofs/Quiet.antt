-- What the calls on the state add that a step does not write down.
use Rattle.std.proofs.Common.{◌≡◌, ℕ, ◌||◌, not, Bool, true, false, cond, nat_lt, List, [], ◌∷◌, ◌++◌, map, fold, filter, Option, Some, None, refl, sym, ap, ◌∙◌, subst, arith, if◌then◌else◌}
use Rattle.std.specs.Option.{is_none, option_map_or}
use Rattle.std.proofs.lemmas.Grind.{common_steps}
use Rattle.simplex_values.specs.declared.proposal.Proposal.{Proposal}
use Rattle.simplex_values.specs.declared.timeout.TimeoutReason.{TimeoutReason}
use Rattle.simplex_values.specs.declared.timeout.TimeoutReason.TheVariants.{MissingProposal}
use Rattle.model_rules.specs.declared.request.Verify.{Verify}
use Rattle.model_rules.specs.declared.request.Verify.TheVariants.{Ready, Resolve, Wait}
use Rattle.model_rules.specs.declared.request.ProposalRequest.{ProposalRequest}
use Rattle.model_rules.specs.declared.request.ProposalRequest.TheVariants.{Prepare, Propose}
use Rattle.model_rules.specs.declared.request.CertificateFetch.{CertificateFetch}
use Rattle.model_rules.specs.Known.{Made, Fact, Expired, Failed}
use Rattle.model_rules.specs.Deadline.{expires, fails, triggered}
use Rattle.model_rules.specs.Requests.{proposal_request, verify_request, certify_requests, parent_fetches, is_superseded}
use Rattle.model_rules.specs.Calls.{Call, SetFloor, Replay, SetProposal, Proposed, Verified, VerificationFailed, Certified, AddNotarization, AddNullification, AddFinalization, TriggerTimeout, ConstructNotarize, ConstructNullify, ConstructFinalize, BroadcastNotarization, BroadcastNullification, BroadcastFinalization, TryPropose, TryVerify, CertifyCandidates, ReleaseProposalRequest, Prune, only_if, fact_of, facts_of, verify_facts}
use Rattle.model_rules.specs.Pending.{Desk, Pending, Opened, told, is_open, is_waiting, is_closed, pending_view, pending_parent, drop_request, drop_number, drop_proposal, drop_verify, abandon_handoff, end_waiting, with_request, open_proposal, with_verify, open_verify, reconciled, drop_certify, open_certify, seek_parent, certifying, iterated}
use Rattle.model_rules.specs.Ancestry.{is_certified}
use Rattle.model_rules.specs.Views.{current_of}
use Rattle.law_member.specs.Learned.{is_lasting, lasting, is_addition, additions, is_publication, publications}
use Rattle.law_member.specs.Tidings.{is_of_proposal, of_proposals}

-- ---- what is known later, with the same certificates, verdicts, own votes, publications and proposals

pub record Same (before after : List Fact) : Type 0 where
  pub lasts : lasting after ≡ lasting before
  pub adds : additions after ≡ additions before
  pub publishes : publications after ≡ publications before
  pub learns : of_proposals after ≡ of_proposals before

pub same_itself : (known : List Fact) → Same known known
same_itself known = record { lasts = refl; adds = refl; publishes = refl; learns = refl }

pub same_then : (a b c : List Fact) → Same a b → Same b c → Same a c
same_then a b c p q = record { lasts = q.lasts ∙ p.lasts; adds = q.adds ∙ p.adds; publishes = q.publishes ∙ p.publishes; learns = q.learns ∙ p.learns }

-- ---- facts of none of these kinds

abbrev pub IsQuietFact : Fact → Type 0
IsQuietFact fact = (is_lasting fact ≡ false) × (is_addition fact ≡ false) × (is_publication fact ≡ false) × (is_of_proposal fact ≡ false)

abbrev pub Quiet : List Fact → Type 0
Quiet [] = Unit {0}
Quiet (fact ∷ rest) = IsQuietFact fact × Quiet rest

pub left_out : (test : Fact → Bool) (fact : Fact) (known : List Fact) → test fact ≡ false → filter test (fact ∷ known) ≡ filter test known
left_out test fact known e = ap (λ b. cond b (fact ∷ filter test known) (filter test known)) e

pub quiet_same : (facts known : List Fact) → Quiet facts → Same known (facts ++ known)
quiet_same [] known q = same_itself known
quiet_same (fact ∷ rest) known q =
    let s = quiet_same rest known q.1 in
    record {
      lasts = left_out is_lasting fact (rest ++ known) q.0.0 ∙ s.lasts;
      adds = left_out is_addition fact (rest ++ known) q.0.1 ∙ s.adds;
      publishes = left_out is_publication fact (rest ++ known) q.0.2 ∙ s.publishes;
      learns = left_out is_of_proposal fact (rest ++ known) q.0.3 ∙ s.learns;
    }

Quiet-append : (xs ys : List Fact) → Quiet xs → Quiet ys → Quiet (xs ++ ys)
Quiet-append [] ys p q = q
Quiet-append (x ∷ xs) ys p q = (p.0, Quiet-append xs ys p.1 q)

Quiet-only_if : (test : Bool) (fact : Fact) → IsQuietFact fact → Quiet (only_if test fact)
Quiet-only_if true fact q = (q, tt)
Quiet-only_if false fact q = tt

Quiet-fact_of : {A : Type 0} (f : A → Fact) (o : Option A) → ((a : A) → IsQuietFact (f a)) → Quiet (fact_of f o)
Quiet-fact_of f (Some a) q = (q a, tt)
Quiet-fact_of f None q = tt

Quiet-map : {A : Type 0} (f : A → Fact) (xs : List A) → ((a : A) → IsQuietFact (f a)) → Quiet (map f xs)
Quiet-map f [] q = tt
Quiet-map f (x ∷ xs) q = (q x, Quiet-map f xs q)

pub Quiet-triggered : (made : Made) (known : List Fact) (view : ℕ) (reason : TimeoutReason) (now : ℕ) → Quiet (triggered made known view reason now)
unfolding triggered
Quiet-triggered made known view reason now = at (expires made known view reason) (fails made known view reason)
  where
    at : (a b : Bool) → Quiet (if a then Expired view reason now ∷ [] else if b then Failed view reason ∷ [] else [])
    at true b = ((refl, refl, refl, refl), tt)
    at false true = ((refl, refl, refl, refl), tt)
    at false false = tt

Quiet-verify : (v : Verify) → Quiet (verify_facts v)
Quiet-verify (Ready context proposal) = ((refl, refl, refl, refl), tt)
Quiet-verify (Resolve proposal view kind target) = ((refl, refl, refl, refl), tt)
Quiet-verify Wait = tt

-- ---- the calls that add nothing else

abbrev pub IsQuiet : Call → Type 0
IsQuiet (SetFloor floor now) = ⊥
IsQuiet (Replay artifact now) = ⊥
IsQuiet (SetProposal view proposal) = ⊥
IsQuiet (Proposed context payload) = ⊥
IsQuiet (Verified view) = ⊥
IsQuiet (Certified view good now) = ⊥
IsQuiet (AddNotarization n now) = ⊥
IsQuiet (AddNullification n now) = ⊥
IsQuiet (AddFinalization f now) = ⊥
IsQuiet (ConstructNotarize view) = ⊥
IsQuiet (ConstructNullify view reason now) = ⊥
IsQuiet (ConstructFinalize view) = ⊥
IsQuiet _ = Unit {0}

quiet_facts : (made : Made) (known : List Fact) (call : Call) → IsQuiet call → Quiet (facts_of made known call)
unfolding facts_of
quiet_facts made known (SetProposal view proposal) q = absurd q
quiet_facts made known (Proposed context payload) q = absurd q
quiet_facts made known (Verified view) q = absurd q
quiet_facts made known (VerificationFailed view reason now) q = Quiet-triggered made known view reason now
quiet_facts made known (TriggerTimeout view reason now) q = Quiet-triggered made known view reason now
quiet_facts made known (BroadcastNotarization view) q = Quiet-only_if _ _ (refl, refl, refl, refl)
quiet_facts made known (BroadcastNullification view) q = Quiet-only_if _ _ (refl, refl, refl, refl)
quiet_facts made known (BroadcastFinalization view) q = Quiet-only_if _ _ (refl, refl, refl, refl)
quiet_facts made known TryPropose q = Quiet-fact_of _ _ (λ a. (refl, refl, refl, refl))
quiet_facts made known TryVerify q = Quiet-verify (verify_request made known)
quiet_facts made known CertifyCandidates q =
    Quiet-append _ _ (Quiet-map _ (parent_fetches known) (λ a. (refl, refl, refl, refl))) (Quiet-map _ (certify_requests known) (λ a. (refl, refl, refl, refl)))
quiet_facts made known (ReleaseProposalRequest view) q = ((refl, refl, refl, refl), tt)
quiet_facts made known Prune q = Quiet-fact_of _ _ (λ a. (refl, refl, refl, refl))
quiet_facts made known (SetFloor floor now) q = absurd q
quiet_facts made known (Replay artifact now) q = absurd q
quiet_facts made known (Certified view good now) q = absurd q
quiet_facts made known (AddNotarization n now) q = absurd q
quiet_facts made known (AddNullification n now) q = absurd q
quiet_facts made known (AddFinalization f now) q = absurd q
quiet_facts made known (ConstructNotarize view) q = absurd q
quiet_facts made known (ConstructNullify view reason now) q = absurd q
quiet_facts made known (ConstructFinalize view) q = absurd q

pub told_quiet : (made : Made) (known : List Fact) (call : Call) → IsQuiet call → Same known (facts_of made known call ++ known)
told_quiet made known call q = quiet_same (facts_of made known call) known (quiet_facts made known call q)

-- ---- the open requests

drop_request_known : (desk : Desk) (p : Pending) → (drop_request desk p).known ≡ desk.known
drop_request_known desk p = at (is_open p.state)
  where
    at : (b : Bool) → (if b then drop_number desk p.number else desk).known ≡ desk.known
    at true = refl
    at false = refl

drop_proposal_known : (made : Made) (desk : Desk) → (drop_proposal made desk).known ≡ desk.known
unfolding drop_proposal
drop_proposal_known made desk = at desk.proposal
  where
    one : (p : Pending) (b : Bool) → (if b then record (drop_request desk p) { proposal = None } else desk).known ≡ desk.known
    one p true = drop_request_known desk p
    one p false = refl

    at : (o : Option Pending) → (option_map_or (λ p.
        if nat_lt (pending_view p) (current_of made desk.known) || is_superseded made desk.known (pending_parent p) (pending_view p)
        then record (drop_request desk p) { proposal = None } else desk) o desk).known ≡ desk.known
    at None = refl
    at (Some p) = one p _

drop_verify_known : (made : Made) (desk : Desk) → (drop_verify made desk).known ≡ desk.known
unfolding drop_verify
drop_verify_known made desk = at desk.verify
  where
    one : (v : Opened) (b : Bool) → (if b then record (drop_number desk v.number) { verify = None } else desk).known ≡ desk.known
    one v true = refl
    one v false = refl

    at : (o : Option Opened) → (option_map_or (λ v.
        if nat_lt v.view (current_of made desk.known) then record (drop_number desk v.number) { verify = None } else desk) o desk).known ≡ desk.known
    at None = refl
    at (Some v) = one v _

abandon_known : (desk : Desk) → (abandon_handoff desk).known ≡ desk.known
unfolding abandon_handoff
abandon_known desk = grind (arith, common_steps)

end_waiting_same : (made : Made) (now : ℕ) (desk : Desk) → Same desk.known (end_waiting made now desk).known
unfolding end_waiting
end_waiting_same made now desk = at desk.proposal
  where
    one : (p : Pending) (a b c : Bool) → Same desk.known (if a then desk
        else if b then record (told made (ReleaseProposalRequest (pending_view p)) desk) { proposal = None }
        else if c then record (told made (TriggerTimeout (pending_view p) MissingProposal now) desk) { proposal = None }
        else desk).known
    one p true b c = same_itself desk.known
    one p false true c = told_quiet made desk.known (ReleaseProposalRequest (pending_view p)) tt
    one p false false true = told_quiet made desk.known (TriggerTimeout (pending_view p) MissingProposal now) tt
    one p false false false = same_itself desk.known

    at : (o : Option Pending) → Same desk.known (option_map_or (λ p.
        if not (is_certified desk.known (pending_parent p)) then desk
        else if is_waiting p.state then record (told made (ReleaseProposalRequest (pending_view p)) desk) { proposal = None }
        else if is_closed p.state
        then record (told made (TriggerTimeout (pending_view p) MissingProposal now) desk) { proposal = None }
        else desk) o desk).known
    at None = same_itself desk.known
    at (Some p) = one p _ _ _

with_request_known : (o : Option ProposalRequest) (desk : Desk) → (with_request o desk).known ≡ desk.known
with_request_known (Some (Prepare context)) desk = refl
with_request_known (Some (Propose context)) desk = refl
with_request_known None desk = refl

with_verify_known : (v : Verify) (desk : Desk) → (with_verify v desk).known ≡ desk.known
with_verify_known (Ready context proposal) desk = refl
with_verify_known (Resolve proposal view kind target) desk = refl
with_verify_known Wait desk = refl

open_proposal_same : (made : Made) (desk : Desk) → Same desk.known (open_proposal made desk).known
unfolding open_proposal
open_proposal_same made desk = at (is_none desk.proposal)
  where
    at : (b : Bool) → Same desk.known (if b then with_request (proposal_request made desk.known) (told made TryPropose desk) else desk).known
    at true = subst (Same desk.known) (sym (with_request_known (proposal_request made desk.known) (told made TryPropose desk))) (told_quiet made desk.known TryPropose tt)
    at false = same_itself desk.known

open_verify_same : (made : Made) (desk : Desk) → Same desk.known (open_verify made desk).known
unfolding open_verify
open_verify_same made desk = at (is_none desk.verify)
  where
    at : (b : Bool) → Same desk.known (if b then with_verify (verify_request made desk.known) (told made TryVerify desk) else desk).known
    at true = subst (Same desk.known) (sym (with_verify_known (verify_request made desk.known) (told made TryVerify desk))) (told_quiet made desk.known TryVerify tt)
    at false = same_itself desk.known

pub reconciled_same : (made : Made) (now : ℕ) (desk : Desk) → Same desk.known (reconciled made now desk).known
unfolding reconciled
reconciled_same made now desk =
    let dropped = drop_verify made (drop_proposal made desk) in
    let first = abandon_handoff dropped in
    let known : first.known ≡ desk.known = abandon_known dropped ∙ drop_verify_known made (drop_proposal made desk) ∙ drop_proposal_known made desk in
    let second = end_waiting made now first in
    let third = open_proposal made second in
    same_then desk.known second.known (open_verify made third).known
    (subst (λ k. Same k second.known) known (end_waiting_same made now first))
    (same_then second.known third.known (open_verify made third).known (open_proposal_same made second) (open_verify_same made third))

certify_known : (xs : List Proposal) (desk : Desk) → (fold open_certify desk xs).known ≡ desk.known
certify_known [] desk = refl
certify_known (x ∷ xs) desk = certify_known xs (open_certify desk x)

parents_known : (xs : List CertificateFetch) (desk : Desk) → (fold seek_parent desk xs).known ≡ desk.known
parents_known [] desk = refl
parents_known (x ∷ xs) desk = parents_known xs (seek_parent desk x)

certifying_same : (made : Made) (desk : Desk) → Same desk.known (certifying made desk).known
unfolding certifying drop_certify
certifying_same made desk =
    let asked = told made CertifyCandidates (drop_certify desk) in
    let opened = fold open_certify asked (certify_requests desk.known) in
    let known : (fold seek_parent opened (parent_fetches desk.known)).known ≡ asked.known = parents_known (parent_fetches desk.known) opened ∙ certify_known (certify_requests desk.known) asked in
    subst (Same desk.known) (sym known) (told_quiet made desk.known CertifyCandidates tt)

pub iterated_same : (made : Made) (now : ℕ) (desk : Desk) → Same desk.known (iterated made now desk).known
unfolding iterated
iterated_same made now desk =
    same_then desk.known (reconciled made now desk).known (certifying made (reconciled made now desk)).known
    (reconciled_same made now desk) (certifying_same made (reconciled made now desk))
