-- What is told as pruned is the least active view, wherever a voter stands.
use Rattle.std.proofs.Common.{◌≡◌, ℕ, ◌-◌, ◌≤◌, Bool, true, false, nat_lt, List, [], ◌∷◌, ◌++◌, map, Option, Some, None, refl, sym, ◌∙◌, subst, inl, inr, ◌⊎◌, arith, ltb-false, if◌then◌else◌}
use Rattle.std.specs.Option.{option_map, option_map_or}
use Rattle.simplex_values.specs.declared.answer.Answer.{Answer}
use Rattle.simplex_values.specs.declared.timeout.TimeoutReason.{TimeoutReason}
use Rattle.simplex_values.specs.declared.timeout.TimeoutReason.TheVariants.{FailedCertification}
use Rattle.simplex_wire.specs.declared.artifact.Artifact.{Artifact}
use Rattle.simplex_wire.specs.declared.artifact.Artifact.TheVariants as artifacts
use Rattle.simplex_wire.specs.declared.vote.Nullify.{Nullify}
use Rattle.simplex_wire.specs.declared.vote.Vote.TheVariants as votes
use Rattle.simplex_types.specs.declared.floor.Floor.{Floor}
use Rattle.simplex_types.specs.declared.floor.Floor.TheVariants as floors
use Rattle.model_rules.specs.declared.request.Asked.{Asked}
use Rattle.model_rules.specs.declared.request.CertificateFetch.{CertificateFetch}
use Rattle.model_rules.specs.declared.request.Verify.{Verify}
use Rattle.model_rules.specs.declared.request.Verify.TheVariants.{Ready, Resolve, Wait}
use Rattle.model_rules.specs.Lists.{greatest_of}
use Rattle.model_rules.specs.Known.{Made, Fact, Taken, Answered, Approved, Voted, ProposalAsked, ParentAsked, CertifyAsked, Expired, Failed, Judged, Pruned, view_of}
use Rattle.model_rules.specs.Views.{finalized_view, last_finalized, current_of, least_active}
use Rattle.model_rules.specs.Deadline.{expires, fails, triggered}
use Rattle.model_rules.specs.Requests.{proposal_request, verify_asked, verify_request, certify_requests, parent_fetches}
use Rattle.model_rules.specs.Votes.{notarize_at, nullify_at, finalize_at}
use Rattle.model_rules.specs.Calls as state
use Rattle.model_rules.specs.Calls.{facts_of, judged, takes_verdict, only_if, fact_of, nullify_facts, request_context, verify_facts, replay_facts, floor_facts, proposal_on, pruned_view, prune_answer}
use Rattle.model_rules.specs.Pending.{iterated}
use Rattle.simplex_messages.specs.declared.voter.VoterInput.{VoterInput}
use Rattle.simplex_transcript.specs.declared.node.Node.{Node}
use Rattle.model_steps.specs.Desk.{Doing, tell, seek}
use Rattle.model_steps.specs.Voter.{Standing, prune_at, prune, begin_iteration, end_of_step, ended, finished, acted, stepped, started}
use Rattle.model_steps.specs.VoterLife.{place_of}
use Rattle.model_steps.specs.Engine.{EngineMade, Did, voter_in, voter_past}
use Rattle.model_run.specs.Setting.{Setting}
use Rattle.model_run.specs.Kinds.{runs_engine}
use Rattle.model_run.specs.Life.{Noted, Running, life_in}
use Rattle.law_run.specs.Histories.{IsRun}
use Rattle.law_run.specs.Sayings.{Each}
use Rattle.law_run.proofs.Speaking.{Each-append, Each-map}
use Rattle.law_run.proofs.Telling.{some_is}
use Rattle.law_run.specs.Asked.{asked_of}
use Rattle.law_run.proofs.AskedListing.{greatest_more}
use Rattle.law_requests.specs.Since.{dropped_of, answers_of}
use Rattle.law_requests.proofs.Told as told
use Rattle.law_requests.proofs.Living.{IsKept, IsLife, lives}

-- ---- what is told but by a prune

abbrev IsUnpruned : Fact → Type 0
IsUnpruned f = pruned_view f ≡ 0

only_unpruned : (b : Bool) (f : Fact) → IsUnpruned f → Each IsUnpruned (only_if b f)
only_unpruned true f h = (h, tt)
only_unpruned false f h = tt

fact_unpruned : {A : Type 0} (g : A → Fact) (o : Option A) → ((a : A) → IsUnpruned (g a)) → Each IsUnpruned (fact_of g o)
fact_unpruned g None h = tt
fact_unpruned g (Some a) h = (h a, tt)

triggered_unpruned : (made : Made) (known : List Fact) (view : ℕ) (reason : TimeoutReason) (now : ℕ) → Each IsUnpruned (triggered made known view reason now)
unfolding triggered
triggered_unpruned made known view reason now = at (expires made known view reason) (fails made known view reason)
  where
    at : (a b : Bool) → Each IsUnpruned (if a then Expired view reason now ∷ [] else if b then Failed view reason ∷ [] else [])
    at true b = (refl, tt)
    at false true = (refl, tt)
    at false false = tt

judged_unpruned : (made : Made) (known : List Fact) (view : ℕ) (good : Bool) (now : ℕ) → Each IsUnpruned (judged made known view good now)
unfolding judged
judged_unpruned made known view good now = at (takes_verdict known view) good
  where
    at : (t g : Bool) → Each IsUnpruned (if t then (if g then [] else triggered made known view FailedCertification now) ++ Judged view good now ∷ [] else [])
    at true true = (refl, tt)
    at true false = Each-append IsUnpruned (triggered made known view FailedCertification now) (Judged view good now ∷ []) (triggered_unpruned made known view FailedCertification now) (refl, tt)
    at false g = tt

nullify_unpruned : (known : List Fact) (view now : ℕ) (o : Option Nullify) → Each IsUnpruned (option_map_or (nullify_facts known view now) o [])
nullify_unpruned known view now None = tt
nullify_unpruned known view now (Some n) = (refl, only_unpruned _ (Voted (votes.Nullify n)) refl)

verify_unpruned : (v : Verify) → Each IsUnpruned (verify_facts v)
verify_unpruned (Ready context p) = (refl, tt)
verify_unpruned (Resolve proposal view kind target) = (refl, tt)
verify_unpruned Wait = tt

new_unpruned : (made : Made) (known : List Fact) (call : state.Call) → (call ≡ state.Prune) ⊎ Each IsUnpruned (facts_of made known call)
unfolding facts_of
new_unpruned made known (state.SetFloor (floors.Genesis payload) now) = inr (refl, tt)
new_unpruned made known (state.SetFloor (floors.Finalized f) now) = inr (refl, (refl, (refl, tt)))
new_unpruned made known (state.Replay (artifacts.Notarize v) now) = inr (refl, tt)
new_unpruned made known (state.Replay (artifacts.Nullify v) now) = inr (refl, tt)
new_unpruned made known (state.Replay (artifacts.Finalize v) now) = inr (refl, tt)
new_unpruned made known (state.Replay (artifacts.Notarization v) now) = inr (refl, (refl, tt))
new_unpruned made known (state.Replay (artifacts.Nullification v) now) = inr (refl, (refl, tt))
new_unpruned made known (state.Replay (artifacts.Finalization v) now) = inr (refl, (refl, tt))
new_unpruned made known (state.Replay (artifacts.Certification r good) now) = inr (judged_unpruned made known r.view good now)
new_unpruned made known (state.SetProposal view proposal) = inr (only_unpruned _ (Taken proposal) refl)
new_unpruned made known (state.Proposed context payload) = inr (only_unpruned _ (Answered (proposal_on context payload)) refl)
new_unpruned made known (state.Verified view) = inr (fact_unpruned Approved (verify_asked known view) (λ p. refl))
new_unpruned made known (state.VerificationFailed view reason now) = inr (triggered_unpruned made known view reason now)
new_unpruned made known (state.Certified view good now) = inr (judged_unpruned made known view good now)
new_unpruned made known (state.AddNotarization n now) = inr (only_unpruned _ _ refl)
new_unpruned made known (state.AddNullification n now) = inr (only_unpruned _ _ refl)
new_unpruned made known (state.AddFinalization f now) = inr (only_unpruned _ _ refl)
new_unpruned made known (state.TriggerTimeout view reason now) = inr (triggered_unpruned made known view reason now)
new_unpruned made known (state.ConstructNotarize view) = inr (fact_unpruned (λ v. Voted (votes.Notarize v)) (notarize_at made known view) (λ v. refl))
new_unpruned made known (state.ConstructNullify view reason now) = inr (nullify_unpruned known view now (nullify_at made view))
new_unpruned made known (state.ConstructFinalize view) = inr (fact_unpruned (λ v. Voted (votes.Finalize v)) (finalize_at made known view) (λ v. refl))
new_unpruned made known (state.BroadcastNotarization view) = inr (only_unpruned _ _ refl)
new_unpruned made known (state.BroadcastNullification view) = inr (only_unpruned _ _ refl)
new_unpruned made known (state.BroadcastFinalization view) = inr (only_unpruned _ _ refl)
new_unpruned made known state.TryPropose = inr (fact_unpruned (λ r. ProposalAsked (request_context r).round.view) (proposal_request made known) (λ r. refl))
new_unpruned made known state.TryVerify = inr (verify_unpruned (verify_request made known))
new_unpruned made known state.CertifyCandidates =
    inr (Each-append IsUnpruned (map (λ (f : CertificateFetch). ParentAsked f.proposal) (parent_fetches known)) _
    (Each-map IsUnpruned (λ (f : CertificateFetch). ParentAsked f.proposal) (parent_fetches known) (λ a. refl))
    (Each-map IsUnpruned (λ p. CertifyAsked (view_of p)) (certify_requests known) (λ a. refl)))
new_unpruned made known (state.ReleaseProposalRequest view) = inr (refl, tt)
new_unpruned made known state.Prune = inl refl

-- ---- no prune is above the least active view

greatest_still : (new known : List Fact) → Each IsUnpruned new → greatest_of pruned_view (new ++ known) ≡ greatest_of pruned_view known
unfolding greatest_of
greatest_still [] known h = refl
greatest_still (f ∷ new) known h = omega (arith, h.0, greatest_still new known h.1)

abbrev pub IsLow : Made → List Fact → Type 0
IsLow made known = greatest_of pruned_view known ≤ least_active made known

low_new : (made : Made) (new known : List Fact) → Each IsUnpruned new → IsLow made known → IsLow made (new ++ known)
unfolding least_active last_finalized
low_new made new known u h = omega (arith, h, greatest_still new known u, greatest_more finalized_view new known)

-- a prune rises to it
prunes : (made : Made) (known : List Fact) → IsLow made known → (let behind = facts_of made known state.Prune ++ known in greatest_of pruned_view behind ≡ least_active made behind)
unfolding facts_of prune_answer least_active last_finalized greatest_of
prunes made known h = at (nat_lt (greatest_of pruned_view known) (greatest_of finalized_view known - made.retention)) refl
  where
    at : (b : Bool) → nat_lt (greatest_of pruned_view known) (greatest_of finalized_view known - made.retention) ≡ b
        → (let behind = fact_of Pruned (if b then Some (greatest_of finalized_view known - made.retention) else None) ++ known in greatest_of pruned_view behind ≡ greatest_of finalized_view behind - made.retention)
    at true e = omega (arith, h)
    at false e = omega (arith, h, ltb-false (greatest_of pruned_view known) (greatest_of finalized_view known - made.retention) e)

low_told : (made : Made) (call : state.Call) (known : List Fact) → IsLow made known → IsLow made (facts_of made known call ++ known)
low_told made call known h = elim (new_unpruned made known call) [
  | inl e ↦ subst (λ (c : state.Call). IsLow made (facts_of made known c ++ known)) (sym e) (omega (arith, prunes made known h))
  | inr u ↦ low_new made (facts_of made known call) known u h
]

low_quiet : (made : Made) (call : state.Call) (known : List Fact) → told.IsNoPrune call → IsLow made known → IsLow made (facts_of made known call ++ known)
low_quiet made call known quiet h = low_told made call known h

-- ---- wherever a voter stands

abbrev pub IsPruned : Made → List Asked → List ℕ → List (ℕ × Answer) → Standing → Type 0
IsPruned made asked dropped given s = greatest_of pruned_view s.desk.known ≡ least_active made s.desk.known

-- each iteration prunes once its requests are open
iteration_prunes : (made : Made) (now : ℕ) (d : Doing) → IsLow made (iterated made now d.desk).known → (let k = (begin_iteration made now d).desk.known in greatest_of pruned_view k ≡ least_active made k)
unfolding begin_iteration prune
iteration_prunes made now d h = at (seek (record d { desk = iterated made now d.desk })) (prune_answer made (iterated made now d.desk).known) (prunes made (iterated made now d.desk).known h)
  where
    at : (b : Doing) (o : Option ℕ) → (let k = (tell made state.Prune b).desk.known in greatest_of pruned_view k ≡ least_active made k) → (let k = (prune_at o (tell made state.Prune b)).desk.known in greatest_of pruned_view k ≡ least_active made k)
    at b None h = h
    at b (Some least) h = h

finish_prunes : (made : Made) (now before : ℕ) (outcome : Doing × Option ℕ) → IsLow made outcome.0.desk.known → (let k = (finished made now before outcome).desk.known in greatest_of pruned_view k ≡ least_active made k)
unfolding finished
finish_prunes made now before (d, None) h = iteration_prunes made now d (told.kept_iterated made (IsLow made) (low_quiet made) now d.desk h)
finish_prunes made now before (d, Some view) h =
    iteration_prunes made now (end_of_step made now before view d)
    (told.kept_iterated made (IsLow made) (low_quiet made) now (end_of_step made now before view d).desk (told.kept_end made (IsLow made) (low_quiet made) now before view d h))

step_prunes : (made : Made) (now : ℕ) (s : Standing) (input : VoterInput) (d : Doing) → IsLow made s.desk.known → stepped made now s input ≡ Some d → greatest_of pruned_view d.desk.known ≡ least_active made d.desk.known
unfolding stepped
step_prunes made now s input d h e = at (acted made now s input) refl e
  where
    at : (o : Option (Doing × Option ℕ)) → acted made now s input ≡ o → option_map (finished made now (current_of made s.desk.known)) o ≡ Some d → greatest_of pruned_view d.desk.known ≡ least_active made d.desk.known
    at None f k = cc
    at (Some outcome) f k =
        subst (λ (x : Doing). greatest_of pruned_view x.desk.known ≡ least_active made x.desk.known) (some_is _ d k)
        (finish_prunes made now (current_of made s.desk.known) outcome (told.kept_input made (IsLow made) (low_quiet made) now s input outcome h f))

-- up to the prune of its end a step prunes nothing
pub still_quiet : (made : Made) (least : ℕ) (call : state.Call) (known : List Fact) → told.IsNoPrune call → greatest_of pruned_view known ≡ least → greatest_of pruned_view (facts_of made known call ++ known) ≡ least
still_quiet made least call known quiet h = elim (new_unpruned made known call) [
  | inl e ↦ absurd (subst told.IsNoPrune e quiet)
  | inr u ↦ greatest_still (facts_of made known call) known u ∙ h
]

pub prune_stands : (made : Made) (now : ℕ) (s : Standing) (input : VoterInput) (outcome : Doing × Option ℕ) → acted made now s input ≡ Some outcome
    → greatest_of pruned_view (iterated made now (ended made now (current_of made s.desk.known) outcome).desk).known ≡ greatest_of pruned_view s.desk.known
prune_stands made now s input outcome e = at outcome (told.kept_input made (λ (known : List Fact). greatest_of pruned_view known ≡ greatest_of pruned_view s.desk.known) quiet now s input outcome refl e)
  where
    quiet : (call : state.Call) (known : List Fact) → told.IsNoPrune call → greatest_of pruned_view known ≡ greatest_of pruned_view s.desk.known
        → greatest_of pruned_view (facts_of made known call ++ known) ≡ greatest_of pruned_view s.desk.known
    quiet call known q h = still_quiet made (greatest_of pruned_view s.desk.known) call known q h

    at : (o : Doing × Option ℕ) → greatest_of pruned_view o.0.desk.known ≡ greatest_of pruned_view s.desk.known
        → greatest_of pruned_view (iterated made now (ended made now (current_of made s.desk.known) o).desk).known ≡ greatest_of pruned_view s.desk.known
    at (d, None) h = told.kept_iterated made (λ (known : List Fact). greatest_of pruned_view known ≡ greatest_of pruned_view s.desk.known) quiet now d.desk h
    at (d, Some view) h =
        told.kept_iterated made (λ (known : List Fact). greatest_of pruned_view known ≡ greatest_of pruned_view s.desk.known) quiet now (end_of_step made now (current_of made s.desk.known) view d).desk
        (told.kept_end made (λ (known : List Fact). greatest_of pruned_view known ≡ greatest_of pruned_view s.desk.known) quiet now (current_of made s.desk.known) view d h)

none_low : (made : Made) → IsLow made []
unfolding greatest_of
none_low made = omega arith

start_prunes : (made : Made) (now : ℕ) (floor : Floor) (records : List Artifact) → (let k = (started made now floor records).desk.known in greatest_of pruned_view k ≡ least_active made k)
unfolding started
start_prunes made now floor records = iteration_prunes made now _ (told.kept_iterated made (IsLow made) (low_quiet made) now _ (told.kept_begun made (IsLow made) (low_quiet made) now floor records (none_low made)))

pruned_kept : IsKept IsPruned
pruned_kept = record {
  steps = λ made asked dropped given now s input d h e. step_prunes made now s input d (omega (arith, h)) e;
  replies = λ made asked dropped given s number answer h t.
      told.answer_keeps made (λ (known : List Fact). greatest_of pruned_view known ≡ least_active made known) number answer s h;
  starts = λ made now floor records. start_prunes made now floor records;
}

pub pruned_in : (setting : Setting) (noted : List Noted) (node : Node) (made : EngineMade) (past : List Did) → IsRun setting noted → runs_engine setting.setup node.member ≡ true → life_in setting noted node ≡ Running made past
    → (let known = (place_of (voter_in made past) (voter_past past)).standing.desk.known in greatest_of pruned_view known ≡ least_active (voter_in made past).rules known)
pruned_in setting noted node made past ran good running =
    subst (IsLife IsPruned pruned_kept setting node (asked_of noted node) (dropped_of noted node) (answers_of noted node)) running (lives IsPruned pruned_kept setting node good noted ran)
