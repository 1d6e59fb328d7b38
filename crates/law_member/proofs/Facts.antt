-- What a call on the state adds to what is remembered.
use Rattle.std.proofs.Common.{◌≡◌, ℕ, ◌||◌, not, Bool, true, false, nat_lt, option_to_list, List, [], ◌∷◌, ◌++◌, map, fold, Contains, Option, Some, None, refl, sym, ap, ◌∙◌, subst, inl, inr, arith, append-nil, if◌then◌else◌}
use Rattle.std.specs.Option.{is_some, is_none, option_or, option_map_or}
use Rattle.std.proofs.lemmas.Grind.{common_steps}
use Rattle.simplex_values.specs.declared.proposal.Proposal.{Proposal}
use Rattle.simplex_values.specs.declared.timeout.TimeoutReason.{TimeoutReason}
use Rattle.simplex_values.specs.declared.timeout.TimeoutReason.TheVariants.{MissingProposal}
use Rattle.simplex_wire.specs.declared.vote.Vote.TheVariants as votes
use Rattle.simplex_wire.specs.declared.vote.Nullify.{Nullify}
use Rattle.simplex_wire.specs.declared.certificate.Certificate.{Certificate}
use Rattle.simplex_wire.specs.declared.certificate.Notarization.{Notarization}
use Rattle.model_rules.specs.declared.request.Verify.{Verify}
use Rattle.model_rules.specs.declared.request.Verify.TheVariants.{Ready, Resolve, Wait}
use Rattle.model_rules.specs.declared.request.ProposalRequest.{ProposalRequest}
use Rattle.model_rules.specs.declared.request.ProposalRequest.TheVariants.{Prepare, Propose}
use Rattle.model_rules.specs.declared.request.CertificateFetch.{CertificateFetch}
use Rattle.model_rules.specs.Lists.{first_of}
use Rattle.model_rules.specs.Known.{Made, Fact, Added, Judged, Voted, Expired, Failed, notarization_in, notarization_of}
use Rattle.model_rules.specs.Deadline.{expires, fails, triggered}
use Rattle.model_rules.specs.Requests.{proposal_request, verify_request, certify_requests, parent_fetches, is_superseded}
use Rattle.model_rules.specs.Calls.{Call, SetFloor, Replay, SetProposal, Proposed, Verified, VerificationFailed, Certified, AddNotarization, AddNullification, AddFinalization, TriggerTimeout, ConstructNotarize, ConstructNullify, ConstructFinalize, BroadcastNotarization, BroadcastNullification, BroadcastFinalization, TryPropose, TryVerify, CertifyCandidates, ReleaseProposalRequest, Prune, only_if, fact_of, facts_of, verify_facts}
use Rattle.model_rules.specs.Pending.{Desk, Pending, Opened, told, is_open, is_waiting, is_closed, pending_view, pending_parent, drop_request, drop_number, drop_proposal, drop_verify, abandon_handoff, end_waiting, with_request, open_proposal, with_verify, open_verify, reconciled, drop_certify, open_certify, seek_parent, certifying, iterated}
use Rattle.model_rules.specs.Ancestry.{is_certified}
use Rattle.model_rules.specs.Views.{current_of}
use Rattle.law_agreement.proofs.ListFacts.{Contains-cons_cases}
use Rattle.law_member.specs.Life.{noted, remembered, IsInOrder}

-- ---- one more fact

-- what a fact asks of what was known before it
abbrev pub Fits : Made → List Fact → Fact → Type 0
Fits made known (Judged view good now) = is_some (notarization_of known view) ≡ true
Fits made known (Voted (votes.Nullify v)) = v.round.epoch ≡ made.epoch
Fits made known _ = Unit {0}

notarization_stays : (fact : Fact) (known : List Fact) (view : ℕ) → is_some (notarization_of known view) ≡ true → is_some (notarization_of (fact ∷ known) view) ≡ true
unfolding notarization_of first_of
notarization_stays fact known view h = at (first_of (notarization_in view) known) (notarization_in view fact) h
  where
    at : (o p : Option Notarization) → is_some o ≡ true → is_some (option_or o p) ≡ true
    at (Some n) p e = refl
    at None p e = cc

fits_judged : (made : Made) (known : List Fact) (fact : Fact) (view : ℕ) (good : Bool) (now : ℕ) → fact ≡ Judged view good now → Fits made known fact
    → is_some (notarization_of known view) ≡ true
fits_judged made known fact view good now e h = subst (Fits made known) e h

fits_nullify : (made : Made) (known : List Fact) (fact : Fact) (v : Nullify) → fact ≡ Voted (votes.Nullify v) → Fits made known fact → v.round.epoch ≡ made.epoch
fits_nullify made known fact v e h = subst (Fits made known) e h

pub one_more : (made : Made) (known : List Fact) (fact : Fact) → Fits made known fact → IsInOrder made known → IsInOrder made (fact ∷ known)
one_more made known fact fits order =
    record {
      judged = λ view good now c. notarization_stays fact known view (elim (Contains-cons_cases fact known (Judged view good now) c) [
        | inl same ↦ fits_judged made known fact view good now same fits
        | inr before ↦ order.judged view good now before
      ]);
      own = λ v c. elim (Contains-cons_cases fact known (Voted (votes.Nullify v)) c) [
        | inl same ↦ fits_nullify made known fact v same fits
        | inr before ↦ order.own v before
      ];
    }

quiet_fits : (made : Made) (known : List Fact) (fact : Fact) → noted fact ≡ None → Fits made known fact
quiet_fits made known (Judged view good now) e = cc
quiet_fits made known (Voted (votes.Notarize v)) e = cc
quiet_fits made known (Voted (votes.Nullify v)) e = cc
quiet_fits made known (Voted (votes.Finalize v)) e = cc
quiet_fits made known (Added c now) e = cc
quiet_fits made known _ e = tt

-- ---- facts that are not remembered

abbrev pub Quiet : List Fact → Type 0
Quiet [] = Unit {0}
Quiet (fact ∷ rest) = (noted fact ≡ None) × Quiet rest

pub quiet_memory : (facts known : List Fact) → Quiet facts → remembered (facts ++ known) ≡ remembered known
unfolding remembered
quiet_memory [] known q = refl
quiet_memory (fact ∷ rest) known q =
    ap (λ o. remembered (rest ++ known) ++ option_to_list o) q.0 ∙ append-nil (remembered (rest ++ known)) ∙ quiet_memory rest known q.1

pub quiet_order : (made : Made) (facts known : List Fact) → Quiet facts → IsInOrder made known → IsInOrder made (facts ++ known)
quiet_order made [] known q order = order
quiet_order made (fact ∷ rest) known q order = one_more made (rest ++ known) fact (quiet_fits made (rest ++ known) fact q.0) (quiet_order made rest known q.1 order)

quiet_added : (facts known : List Fact) → Quiet facts → (c : Certificate) (now : ℕ) → Contains (facts ++ known) (Added c now) → Contains known (Added c now)
quiet_added [] known q c now h = h
quiet_added (fact ∷ rest) known q c now h =
    elim (Contains-cons_cases fact (rest ++ known) (Added c now) h) [
      | inl same ↦ (let is = ap noted same in cc (q.0, is))
      | inr there ↦ quiet_added rest known q.1 c now there
    ]

Quiet-append : (xs ys : List Fact) → Quiet xs → Quiet ys → Quiet (xs ++ ys)
Quiet-append [] ys p q = q
Quiet-append (x ∷ xs) ys p q = (p.0, Quiet-append xs ys p.1 q)

Quiet-only_if : (test : Bool) (fact : Fact) → noted fact ≡ None → Quiet (only_if test fact)
Quiet-only_if true fact e = (e, tt)
Quiet-only_if false fact e = tt

Quiet-fact_of : {A : Type 0} (f : A → Fact) (o : Option A) → ((a : A) → noted (f a) ≡ None) → Quiet (fact_of f o)
Quiet-fact_of f (Some a) e = (e a, tt)
Quiet-fact_of f None e = tt

Quiet-map : {A : Type 0} (f : A → Fact) (xs : List A) → ((a : A) → noted (f a) ≡ None) → Quiet (map f xs)
Quiet-map f [] e = tt
Quiet-map f (x ∷ xs) e = (e x, Quiet-map f xs e)

pub Quiet-triggered : (made : Made) (known : List Fact) (view : ℕ) (reason : TimeoutReason) (now : ℕ) → Quiet (triggered made known view reason now)
unfolding triggered
Quiet-triggered made known view reason now = at (expires made known view reason) (fails made known view reason)
  where
    at : (a b : Bool) → Quiet (if a then Expired view reason now ∷ [] else if b then Failed view reason ∷ [] else [])
    at true b = (refl, tt)
    at false true = (refl, tt)
    at false false = tt

Quiet-verify : (v : Verify) → Quiet (verify_facts v)
Quiet-verify (Ready context proposal) = (refl, tt)
Quiet-verify (Resolve proposal view kind target) = (refl, tt)
Quiet-verify Wait = tt

-- the calls that add nothing to what is remembered
abbrev pub IsQuiet : Call → Type 0
IsQuiet (SetFloor floor now) = ⊥
IsQuiet (Replay artifact now) = ⊥
IsQuiet (Certified view good now) = ⊥
IsQuiet (AddNotarization n now) = ⊥
IsQuiet (AddNullification n now) = ⊥
IsQuiet (AddFinalization f now) = ⊥
IsQuiet (ConstructNotarize view) = ⊥
IsQuiet (ConstructNullify view reason now) = ⊥
IsQuiet (ConstructFinalize view) = ⊥
IsQuiet _ = Unit {0}

pub quiet_facts : (made : Made) (known : List Fact) (call : Call) → IsQuiet call → Quiet (facts_of made known call)
unfolding facts_of
quiet_facts made known (SetProposal view proposal) q = Quiet-only_if _ _ refl
quiet_facts made known (Proposed context payload) q = Quiet-only_if _ _ refl
quiet_facts made known (Verified view) q = Quiet-fact_of _ _ (λ a. refl)
quiet_facts made known (VerificationFailed view reason now) q = Quiet-triggered made known view reason now
quiet_facts made known (TriggerTimeout view reason now) q = Quiet-triggered made known view reason now
quiet_facts made known (BroadcastNotarization view) q = Quiet-only_if _ _ refl
quiet_facts made known (BroadcastNullification view) q = Quiet-only_if _ _ refl
quiet_facts made known (BroadcastFinalization view) q = Quiet-only_if _ _ refl
quiet_facts made known TryPropose q = Quiet-fact_of _ _ (λ a. refl)
quiet_facts made known TryVerify q = Quiet-verify (verify_request made known)
quiet_facts made known CertifyCandidates q = Quiet-append _ _ (Quiet-map _ (parent_fetches known) (λ a. refl)) (Quiet-map _ (certify_requests known) (λ a. refl))
quiet_facts made known (ReleaseProposalRequest view) q = (refl, tt)
quiet_facts made known Prune q = Quiet-fact_of _ _ (λ a. refl)
quiet_facts made known (SetFloor floor now) q = absurd q
quiet_facts made known (Replay artifact now) q = absurd q
quiet_facts made known (Certified view good now) q = absurd q
quiet_facts made known (AddNotarization n now) q = absurd q
quiet_facts made known (AddNullification n now) q = absurd q
quiet_facts made known (AddFinalization f now) q = absurd q
quiet_facts made known (ConstructNotarize view) q = absurd q
quiet_facts made known (ConstructNullify view reason now) q = absurd q
quiet_facts made known (ConstructFinalize view) q = absurd q

-- ---- what is known later, with the same remembered

pub record SameMemory (made : Made) (before after : List Fact) : Type 0 where
  pub memory : remembered after ≡ remembered before
  pub order : IsInOrder made before → IsInOrder made after
  pub added : (c : Certificate) (now : ℕ) → Contains after (Added c now) → Contains before (Added c now)

pub same_memory : (made : Made) (known : List Fact) → SameMemory made known known
same_memory made known = record { memory = refl; order = λ o. o; added = λ c now h. h }

pub same_then : (made : Made) (a b c : List Fact) → SameMemory made a b → SameMemory made b c → SameMemory made a c
same_then made a b c p q = record { memory = q.memory ∙ p.memory; order = λ o. q.order (p.order o); added = λ c now h. p.added c now (q.added c now h) }

pub quiet_same : (made : Made) (facts known : List Fact) → Quiet facts → SameMemory made known (facts ++ known)
quiet_same made facts known q = record { memory = quiet_memory facts known q; order = quiet_order made facts known q; added = quiet_added facts known q }

pub told_quiet : (made : Made) (known : List Fact) (call : Call) → IsQuiet call → SameMemory made known (facts_of made known call ++ known)
told_quiet made known call q =
    quiet_same made (facts_of made known call) known (quiet_facts made known call q)

-- ---- the open requests

drop_request_known : (desk : Desk) (p : Pending) → (drop_request desk p).known ≡ desk.known
drop_request_known desk p = at (is_open p.state)
  where
    at : (b : Bool) → (if b then drop_number desk p.number else desk).known ≡ desk.known
    at true = refl
    at false = refl

drop_proposal_known : (made : Made) (desk : Desk) → (drop_proposal made desk).known ≡ desk.known
unfolding drop_proposal
drop_proposal_known made desk = at desk.proposal
  where
    one : (p : Pending) (b : Bool) → (if b then record (drop_request desk p) { proposal = None } else desk).known ≡ desk.known
    one p true = drop_request_known desk p
    one p false = refl

    at : (o : Option Pending) → (option_map_or (λ p.
        if nat_lt (pending_view p) (current_of made desk.known) || is_superseded made desk.known (pending_parent p) (pending_view p)
        then record (drop_request desk p) { proposal = None } else desk) o desk).known ≡ desk.known
    at None = refl
    at (Some p) = one p _

drop_verify_known : (made : Made) (desk : Desk) → (drop_verify made desk).known ≡ desk.known
unfolding drop_verify
drop_verify_known made desk = at desk.verify
  where
    one : (v : Opened) (b : Bool) → (if b then record (drop_number desk v.number) { verify = None } else desk).known ≡ desk.known
    one v true = refl
    one v false = refl

    at : (o : Option Opened) → (option_map_or (λ v.
        if nat_lt v.view (current_of made desk.known) then record (drop_number desk v.number) { verify = None } else desk) o desk).known ≡ desk.known
    at None = refl
    at (Some v) = one v _

abandon_known : (desk : Desk) → (abandon_handoff desk).known ≡ desk.known
unfolding abandon_handoff
abandon_known desk = grind (arith, common_steps)

end_waiting_same : (made : Made) (now : ℕ) (desk : Desk) → SameMemory made desk.known (end_waiting made now desk).known
unfolding end_waiting
end_waiting_same made now desk = at desk.proposal
  where
    one : (p : Pending) (a b c : Bool) → SameMemory made desk.known (if a then desk
        else if b then record (told made (ReleaseProposalRequest (pending_view p)) desk) { proposal = None }
        else if c then record (told made (TriggerTimeout (pending_view p) MissingProposal now) desk) { proposal = None }
        else desk).known
    one p true b c = same_memory made desk.known
    one p false true c = told_quiet made desk.known (ReleaseProposalRequest (pending_view p)) tt
    one p false false true = told_quiet made desk.known (TriggerTimeout (pending_view p) MissingProposal now) tt
    one p false false false = same_memory made desk.known

    at : (o : Option Pending) → SameMemory made desk.known (option_map_or (λ p.
        if not (is_certified desk.known (pending_parent p)) then desk
        else if is_waiting p.state then record (told made (ReleaseProposalRequest (pending_view p)) desk) { proposal = None }
        else if is_closed p.state
        then record (told made (TriggerTimeout (pending_view p) MissingProposal now) desk) { proposal = None }
        else desk) o desk).known
    at None = same_memory made desk.known
    at (Some p) = one p _ _ _

with_request_known : (o : Option ProposalRequest) (desk : Desk) → (with_request o desk).known ≡ desk.known
with_request_known (Some (Prepare context)) desk = refl
with_request_known (Some (Propose context)) desk = refl
with_request_known None desk = refl

with_verify_known : (v : Verify) (desk : Desk) → (with_verify v desk).known ≡ desk.known
with_verify_known (Ready context proposal) desk = refl
with_verify_known (Resolve proposal view kind target) desk = refl
with_verify_known Wait desk = refl

open_proposal_same : (made : Made) (desk : Desk) → SameMemory made desk.known (open_proposal made desk).known
unfolding open_proposal
open_proposal_same made desk = at (is_none desk.proposal)
  where
    at : (b : Bool) → SameMemory made desk.known (if b then with_request (proposal_request made desk.known) (told made TryPropose desk) else desk).known
    at true = subst (SameMemory made desk.known) (sym (with_request_known (proposal_request made desk.known) (told made TryPropose desk))) (told_quiet made desk.known TryPropose tt)
    at false = same_memory made desk.known

open_verify_same : (made : Made) (desk : Desk) → SameMemory made desk.known (open_verify made desk).known
unfolding open_verify
open_verify_same made desk = at (is_none desk.verify)
  where
    at : (b : Bool) → SameMemory made desk.known (if b then with_verify (verify_request made desk.known) (told made TryVerify desk) else desk).known
    at true = subst (SameMemory made desk.known) (sym (with_verify_known (verify_request made desk.known) (told made TryVerify desk))) (told_quiet made desk.known TryVerify tt)
    at false = same_memory made desk.known

pub reconciled_same : (made : Made) (now : ℕ) (desk : Desk) → SameMemory made desk.known (reconciled made now desk).known
unfolding reconciled
reconciled_same made now desk =
    let dropped = drop_verify made (drop_proposal made desk) in
    let first = abandon_handoff dropped in
    let known : first.known ≡ desk.known = abandon_known dropped ∙ drop_verify_known made (drop_proposal made desk) ∙ drop_proposal_known made desk in
    let second = end_waiting made now first in
    let third = open_proposal made second in
    same_then made desk.known second.known (open_verify made third).known
    (subst (λ k. SameMemory made k second.known) known (end_waiting_same made now first))
    (same_then made second.known third.known (open_verify made third).known (open_proposal_same made second) (open_verify_same made third))

certify_known : (xs : List Proposal) (desk : Desk) → (fold open_certify desk xs).known ≡ desk.known
certify_known [] desk = refl
certify_known (x ∷ xs) desk = certify_known xs (open_certify desk x)

parents_known : (xs : List CertificateFetch) (desk : Desk) → (fold seek_parent desk xs).known ≡ desk.known
parents_known [] desk = refl
parents_known (x ∷ xs) desk = parents_known xs (seek_parent desk x)

certifying_same : (made : Made) (desk : Desk) → SameMemory made desk.known (certifying made desk).known
unfolding certifying drop_certify
certifying_same made desk =
    let asked = told made CertifyCandidates (drop_certify desk) in
    let opened = fold open_certify asked (certify_requests desk.known) in
    let known : (fold seek_parent opened (parent_fetches desk.known)).known ≡ asked.known = parents_known (parent_fetches desk.known) opened ∙ certify_known (certify_requests desk.known) asked in
    subst (SameMemory made desk.known) (sym known) (told_quiet made desk.known CertifyCandidates tt)

pub iterated_same : (made : Made) (now : ℕ) (desk : Desk) → SameMemory made desk.known (iterated made now desk).known
unfolding iterated
iterated_same made now desk =
    same_then made desk.known (reconciled made now desk).known (certifying made (reconciled made now desk)).known
    (reconciled_same made now desk) (certifying_same made (reconciled made now desk))
