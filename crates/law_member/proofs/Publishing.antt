-- The end of a step, and the start of the next iteration.
use Rattle.std.proofs.Common.{◌≡◌, ℕ, ◌-◌, ◌≤◌, Bool, true, false, nat_lt, List, [], ◌∷◌, ◌++◌, option_to_list, Option, Some, None, refl, sym, ◌∙◌, subst, arith, append-nil, append_assoc, if◌then◌else◌}
use Rattle.std.specs.Option.{option_map_or}
use Rattle.simplex_values.specs.declared.plan.Channel.TheVariants as channels
use Rattle.simplex_values.specs.declared.plan.Recipients.TheVariants as recipients
use Rattle.simplex_wire.specs.declared.vote.Notarize.{Notarize}
use Rattle.simplex_wire.specs.declared.vote.Nullify.{Nullify}
use Rattle.simplex_wire.specs.declared.vote.Finalize.{Finalize}
use Rattle.simplex_wire.specs.declared.vote.Vote.{Vote}
use Rattle.simplex_wire.specs.declared.vote.Vote.TheVariants as votes
use Rattle.simplex_wire.specs.declared.certificate.Certificate.{Certificate}
use Rattle.simplex_wire.specs.declared.certificate.Certificate.TheVariants as certificates
use Rattle.simplex_wire.specs.declared.certificate.Notarization.{Notarization}
use Rattle.simplex_wire.specs.declared.certificate.Nullification.{Nullification}
use Rattle.simplex_wire.specs.declared.certificate.Finalization.{Finalization}
use Rattle.simplex_wire.specs.declared.artifact.Artifact.TheVariants as artifacts
use Rattle.simplex_wire.specs.Message as format
use Rattle.simplex_types.specs.declared.activity.Activity.{Activity}
use Rattle.simplex_types.specs.declared.activity.Activity.TheVariants as activities
use Rattle.simplex_messages.specs.declared.call.Call.TheVariants as calls
use Rattle.simplex_messages.specs.declared.handed.Handed.TheVariants as handed
use Rattle.simplex_messages.specs.declared.resolver.MailboxMessage.TheVariants as resolver
use Rattle.model_rules.specs.Known.{Made, Fact, Voted, view_of}
use Rattle.model_rules.specs.Views as rules
use Rattle.model_rules.specs.Views.{least_active, current_of}
use Rattle.model_rules.specs.Best.{forwardable_at}
use Rattle.model_rules.specs.Lists.{greatest_of}
use Rattle.model_rules.specs.Votes.{notarize_at, finalize_at}
use Rattle.model_rules.specs.Calls as state
use Rattle.model_rules.specs.Calls.{facts_of, unsent_notarization, unsent_nullification, unsent_finalization, prune_answer, pruned_view}
use Rattle.model_rules.specs.Pending.{reconciled, iterated}
use Rattle.model_rules.proofs.Soundness.{notarize_parts, finalize_parts, slot_view}
use Rattle.model_steps.specs.Desk.{Doing, tell, make, hand, append, seek, send_vote, send_certificate, report}
use Rattle.model_steps.specs.Voter.{vote_notarize, vote_finalize, open_requests, sync, publish_verdict, publish_nullify, publish_notarization, publish_nullification, publish_finalization, with_certificate, update_message, update_batcher, end_of_step, prune_at, prune, begin_iteration}
use Rattle.law_agreement.specs.Artifacts as member
use Rattle.law_agreement.specs.Member.{Member}
use Rattle.law_member.specs.Life.{noted, remembered}
use Rattle.law_member.proofs.Remembering.{final_is}
use Rattle.law_member.proofs.LifeVoting.{may_notarize, may_finalize}
use Rattle.law_member.proofs.Facts.{told_quiet, IsQuiet, one_more, reconciled_same, iterated_same}
use Rattle.law_member.proofs.Constructing.{AreSilent, all_silent, Published, published_known, published_plain, published_hand, published_send}
use Rattle.law_member.proofs.Silent.{silent_notarize, silent_finalize, silent_requests, silent_sync, iteration_hands}
use Rattle.law_member.proofs.Living.{behind}
use Rattle.law_member.proofs.Simulating.{Writes, Stores, writes_known, writes_note, writes_sync, stores_known, stores_prune}
use Rattle.law_member.proofs.Signing.{notarize_signed, finalize_signed}

-- what a step has done so far is lived by the member; it writes to this view's section, or all is stored
abbrev pub Writing : Made → Member → ℕ → Doing → List Vote → Type 0
Writing made m view d queue = Writes made m view d.calls d.wrote d.desk.known queue

abbrev pub Storing : Made → Member → Doing → List Vote → Type 0
Storing made m d queue = Stores made m d.calls d.desk.known queue

-- and each vote that it handed to the batcher as constructed was sent
abbrev pub Publishing : Made → Member → Doing → List Vote → Type 0
Publishing made m d queue = Published made m d.calls d.handed d.desk.known queue

-- one more fact is remembered behind the others
pub remembered_push : (fact : Fact) (known : List Fact) → remembered (fact ∷ known) ≡ remembered known ++ option_to_list (noted fact)
unfolding remembered
remembered_push fact known = refl

-- ---- votes

abbrev pub notarize_waiting : Option Notarize → List Vote
notarize_waiting None = []
notarize_waiting (Some n) = votes.Notarize n ∷ []

abbrev pub finalize_waiting : Option Finalize → List Vote
finalize_waiting None = []
finalize_waiting (Some f) = votes.Finalize f ∷ []

pub writing_notarize : (made : Made) (m : Member) (view : ℕ) (d : Doing) (queue : List Vote) → Writing made m view d queue
    → Writing made m view (vote_notarize made view d) (queue ++ notarize_waiting (notarize_at made d.desk.known view))
unfolding vote_notarize facts_of
writing_notarize made m view d queue w = at (notarize_at made d.desk.known view) refl
  where
    at : (o : Option Notarize) → notarize_at made d.desk.known view ≡ o
        → (let told = record d { desk = record d.desk { known = state.fact_of (λ v. Voted (votes.Notarize v)) o ++ d.desk.known } } in
        Writing made m view (option_map_or (λ n. append (artifacts.Notarize n) told) o told) (queue ++ notarize_waiting o))
    at None e = subst (Writes made m view d.calls d.wrote d.desk.known) (sym (append-nil queue)) w
    at (Some n) e =
        let parts = notarize_parts made d.desk.known view n e in
        writes_note made m view d.calls d.wrote d.desk.known (Voted (votes.Notarize n) ∷ d.desk.known) queue (view_of n.proposal) (artifacts.Notarize n) w
        (slot_view d.desk.known view n.proposal parts.0)
        (may_notarize made d.desk.known view n e)
        (remembered_push (Voted (votes.Notarize n)) d.desk.known)
        (one_more made d.desk.known (Voted (votes.Notarize n)) tt w.sim.order)
        refl ((notarize_signed made d.desk.known view n e, tt), tt)

pub writing_finalize : (made : Made) (m : Member) (view : ℕ) (d : Doing) (queue : List Vote) → Writing made m view d queue
    → Writing made m view (vote_finalize made view d) (queue ++ finalize_waiting (finalize_at made d.desk.known view))
unfolding vote_finalize facts_of
writing_finalize made m view d queue w = at (finalize_at made d.desk.known view) refl
  where
    at : (o : Option Finalize) → finalize_at made d.desk.known view ≡ o
        → (let told = record d { desk = record d.desk { known = state.fact_of (λ v. Voted (votes.Finalize v)) o ++ d.desk.known } } in
        Writing made m view (option_map_or (λ n. append (artifacts.Finalize n) told) o told) (queue ++ finalize_waiting o))
    at None e = subst (Writes made m view d.calls d.wrote d.desk.known) (sym (append-nil queue)) w
    at (Some f) e =
        let parts = finalize_parts made d.desk.known view f e in
        writes_note made m view d.calls d.wrote d.desk.known (Voted (votes.Finalize f) ∷ d.desk.known) queue (view_of f.proposal) (artifacts.Finalize f) w
        (slot_view d.desk.known view f.proposal parts.0)
        (may_finalize made d.desk.known view f w.sim.order e)
        (remembered_push (Voted (votes.Finalize f)) d.desk.known)
        (one_more made d.desk.known (Voted (votes.Finalize f)) tt w.sim.order)
        refl ((finalize_signed made d.desk.known view f e, tt), tt)

notarize_keeps : (made : Made) (view : ℕ) (d : Doing) → (vote_notarize made view d).nullify ≡ d.nullify
unfolding vote_notarize
notarize_keeps made view d = at (notarize_at made d.desk.known view)
  where
    at : (o : Option Notarize) → (option_map_or (λ n. append (artifacts.Notarize n) (tell made (state.ConstructNotarize view) d)) o (tell made (state.ConstructNotarize view) d)).nullify ≡ d.nullify
    at None = refl
    at (Some n) = refl

finalize_keeps : (made : Made) (view : ℕ) (d : Doing) → (vote_finalize made view d).nullify ≡ d.nullify
unfolding vote_finalize
finalize_keeps made view d = at (finalize_at made d.desk.known view)
  where
    at : (o : Option Finalize) → (option_map_or (λ f. append (artifacts.Finalize f) (tell made (state.ConstructFinalize view) d)) o (tell made (state.ConstructFinalize view) d)).nullify ≡ d.nullify
    at None = refl
    at (Some n) = refl

-- ---- the requests, and the sync

writing_requests : (made : Made) (m : Member) (now view : ℕ) (d : Doing) (queue : List Vote) → Writing made m view d queue
    → Writing made m view (open_requests made now d) queue
unfolding open_requests
writing_requests made m now view d queue w =
    writes_known made m view d.calls d.wrote d.desk.known (reconciled made now d.desk).known queue (reconciled_same made now d.desk) w

requests_keep : (made : Made) (now : ℕ) (d : Doing) → (open_requests made now d).nullify ≡ d.nullify
unfolding open_requests
requests_keep made now d = refl

synced : (made : Made) (m : Member) (view : ℕ) (d : Doing) (queue : List Vote) → Writing made m view d queue → Storing made m (sync view d) queue
synced made m view d queue w = at d.wrote refl
  where
    at : (b : Bool) → d.wrote ≡ b → Storing made m (if b then make (calls.Sync view) d else d) queue
    at true e = writes_sync made m view d.calls d.wrote d.desk.known queue w
    at false e = record { sim = w.sim; stored = w.unwritten e; kept = w.earlier e }

sync_keeps : (view : ℕ) (d : Doing) → (sync view d).nullify ≡ d.nullify
sync_keeps view d = at d.wrote
  where
    at : (b : Bool) → (if b then make (calls.Sync view) d else d).nullify ≡ d.nullify
    at true = refl
    at false = refl

-- ---- what is published

verdict_out : (made : Made) (m : Member) (d : Doing) (queue : List Vote) → Publishing made m d queue → Publishing made m (publish_verdict d) queue
unfolding publish_verdict
verdict_out made m d queue s = at d.verdict
  where
    one : (n : Notarization) (good b : Bool) → (let told = hand (handed.Resolver (resolver.Certified n good)) d in
        Publishing made m (if b then report (activities.Certification n) told else told) queue)
    one n good true =
        published_plain made m d.calls (hand (handed.Resolver (resolver.Certified n good)) d).handed d.desk.known queue (calls.Report (activities.Certification n)) tt
        (published_hand made m d.calls d.handed d.desk.known queue (handed.Resolver (resolver.Certified n good)) tt s)
    one n good false = published_hand made m d.calls d.handed d.desk.known queue (handed.Resolver (resolver.Certified n good)) tt s

    at : (o : Option (Notarization × Bool)) → Publishing made m (option_map_or (λ v.
        let told = hand (handed.Resolver (resolver.Certified v.0 v.1)) d in
        if v.1 then report (activities.Certification v.0) told else told) o d) queue
    at None = s
    at (Some v) = one v.0 v.1 v.1

verdict_keeps : (d : Doing) → (publish_verdict d).nullify ≡ d.nullify
unfolding publish_verdict
verdict_keeps d = at d.verdict
  where
    one : (n : Notarization) (good b : Bool) → (let told = hand (handed.Resolver (resolver.Certified n good)) d in
        (if b then report (activities.Certification n) told else told).nullify ≡ d.nullify)
    one n good true = refl
    one n good false = refl

    at : (o : Option (Notarization × Bool)) → (option_map_or (λ v.
        let told = hand (handed.Resolver (resolver.Certified v.0 v.1)) d in
        if v.1 then report (activities.Certification v.0) told else told) o d).nullify ≡ d.nullify
    at None = refl
    at (Some v) = one v.0 v.1 v.1

-- the nullify that waits to be published
abbrev pub nullify_waiting : Option (Nullify × Option Certificate) → List Vote
nullify_waiting None = []
nullify_waiting (Some n) = votes.Nullify n.0 ∷ []

certificate_out : (made : Made) (m : Member) (d : Doing) (queue : List Vote) (o : Option Certificate) → Publishing made m d queue → Publishing made m (with_certificate o d) queue
certificate_out made m d queue None s = s
certificate_out made m d queue (Some c) s =
    published_plain made m d.calls d.handed d.desk.known queue (calls.Send channels.Certificate recipients.All (format.certificate.spelling c)) tt s

nullify_out : (made : Made) (m : Member) (d : Doing) (queue : List Vote) → Publishing made m d (nullify_waiting d.nullify ++ queue) → Publishing made m (publish_nullify d) queue
unfolding publish_nullify
nullify_out made m d queue s = at d.nullify s
  where
    at : (o : Option (Nullify × Option Certificate)) → Publishing made m d (nullify_waiting o ++ queue)
        → Publishing made m (option_map_or (λ n. with_certificate n.1 (send_vote (votes.Nullify n.0) d)) o d) queue
    at None h = h
    at (Some n) h = certificate_out made m (send_vote (votes.Nullify n.0) d) queue n.1 (published_send made m d.calls d.handed d.desk.known queue (votes.Nullify n.0) h)

notarize_out : (made : Made) (m : Member) (d : Doing) (queue : List Vote) (o : Option Notarize) → Publishing made m d (notarize_waiting o ++ queue)
    → Publishing made m (option_map_or (λ n. send_vote (votes.Notarize n) d) o d) queue
notarize_out made m d queue None s = s
notarize_out made m d queue (Some n) s = published_send made m d.calls d.handed d.desk.known queue (votes.Notarize n) s

finalize_out : (made : Made) (m : Member) (d : Doing) (queue : List Vote) (o : Option Finalize) → Publishing made m d (finalize_waiting o ++ queue)
    → Publishing made m (option_map_or (λ n. send_vote (votes.Finalize n) d) o d) queue
finalize_out made m d queue None s = s
finalize_out made m d queue (Some n) s = published_send made m d.calls d.handed d.desk.known queue (votes.Finalize n) s

-- a certificate is sent and reported
both_out : (made : Made) (m : Member) (d : Doing) (queue : List Vote) (c : Certificate) (a : Activity) → Publishing made m d queue → Publishing made m (report a (send_certificate c d)) queue
both_out made m d queue c a s =
    published_plain made m (send_certificate c d).calls d.handed d.desk.known queue (calls.Report a) tt
    (published_plain made m d.calls d.handed d.desk.known queue (calls.Send channels.Certificate recipients.All (format.certificate.spelling c)) tt s)

told_out : (made : Made) (m : Member) (d : Doing) (queue : List Vote) (call : state.Call) → IsQuiet call → Publishing made m d queue → Publishing made m (tell made call d) queue
told_out made m d queue call q s = published_known made m d.calls d.handed d.desk.known (facts_of made d.desk.known call ++ d.desk.known) queue (told_quiet made d.desk.known call q) s

notarization_out : (made : Made) (m : Member) (view : ℕ) (d : Doing) (queue : List Vote) → Publishing made m d queue → Publishing made m (publish_notarization made view d) queue
unfolding publish_notarization
notarization_out made m view d queue s = at (unsent_notarization d.desk.known view)
  where
    at : (o : Option Notarization) → Publishing made m (option_map_or (λ n. report (activities.Notarization n) (send_certificate (certificates.Notarization n) (tell made (state.BroadcastNotarization view) d))) o (tell made (state.BroadcastNotarization view) d)) queue
    at None = told_out made m d queue (state.BroadcastNotarization view) tt s
    at (Some n) = both_out made m (tell made (state.BroadcastNotarization view) d) queue _ _ (told_out made m d queue (state.BroadcastNotarization view) tt s)

nullification_out : (made : Made) (m : Member) (view : ℕ) (d : Doing) (queue : List Vote) → Publishing made m d queue → Publishing made m (publish_nullification made view d) queue
unfolding publish_nullification
nullification_out made m view d queue s = at (unsent_nullification d.desk.known view)
  where
    at : (o : Option Nullification) → Publishing made m (option_map_or (λ n. report (activities.Nullification n) (send_certificate (certificates.Nullification n) (tell made (state.BroadcastNullification view) d))) o (tell made (state.BroadcastNullification view) d)) queue
    at None = told_out made m d queue (state.BroadcastNullification view) tt s
    at (Some n) = both_out made m (tell made (state.BroadcastNullification view) d) queue _ _ (told_out made m d queue (state.BroadcastNullification view) tt s)

finalization_out : (made : Made) (m : Member) (view : ℕ) (d : Doing) (queue : List Vote) → Publishing made m d queue → Publishing made m (publish_finalization made view d) queue
unfolding publish_finalization
finalization_out made m view d queue s = at (unsent_finalization d.desk.known view)
  where
    at : (o : Option Finalization) → Publishing made m (option_map_or (λ n. report (activities.Finalization n) (send_certificate (certificates.Finalization n) (tell made (state.BroadcastFinalization view) d))) o (tell made (state.BroadcastFinalization view) d)) queue
    at None = told_out made m d queue (state.BroadcastFinalization view) tt s
    at (Some n) = both_out made m (tell made (state.BroadcastFinalization view) d) queue _ _ (told_out made m d queue (state.BroadcastFinalization view) tt s)

update_out : (made : Made) (m : Member) (before : ℕ) (d : Doing) (queue : List Vote) → Publishing made m d queue → Publishing made m (update_batcher made before d) queue
unfolding update_batcher
update_out made m before d queue s = at (nat_lt before (current_of made d.desk.known))
  where
    at : (b : Bool) → Publishing made m (if b then hand (update_message made d.desk.known (forwardable_at d.desk.known (current_of made d.desk.known - 1))) d else d) queue
    at true = published_hand made m d.calls d.handed d.desk.known queue (update_message made d.desk.known (forwardable_at d.desk.known (current_of made d.desk.known - 1))) tt s
    at false = s

-- ---- the end of a step

pub step_ends : (made : Made) (m : Member) (now before view : ℕ) (d : Doing) → Writing made m view d (nullify_waiting d.nullify)
    → AreSilent d.handed → Publishing made m (end_of_step made now before view d) []
unfolding end_of_step
step_ends made m now before view d w silent =
    let notarize = notarize_at made d.desk.known view in
    let voted = vote_notarize made view d in
    let finalize = finalize_at made voted.desk.known view in
    let finalized = vote_finalize made view voted in
    let asked = open_requests made now finalized in
    let opened = sync view asked in
    let first = nullify_waiting d.nullify in
    let all : List Vote = first ++ (notarize_waiting notarize ++ finalize_waiting finalize) in
    let stored : Storing made m opened all =
    synced made m view asked all
    (writing_requests made m now view finalized all
    (subst (Writing made m view finalized) (append_assoc first (notarize_waiting notarize) (finalize_waiting finalize))
    (writing_finalize made m view voted (first ++ notarize_waiting notarize) (writing_notarize made m view d first w)))) in
    let published : Publishing made m opened all = record {
      stores = stored;
      constructed = all_silent (behind m opened.calls).sent opened.handed
          (silent_sync view asked (silent_requests made now finalized (silent_finalize made view voted (silent_notarize made view d silent))));
    } in
    let kept : opened.nullify ≡ d.nullify =
    sync_keeps view asked ∙ requests_keep made now finalized ∙ finalize_keeps made view voted ∙ notarize_keeps made view d in
    let judged = publish_verdict opened in
    let kept' : judged.nullify ≡ d.nullify = verdict_keeps opened ∙ kept in
    let nullified : Publishing made m (publish_nullify judged) (notarize_waiting notarize ++ finalize_waiting finalize) =
    nullify_out made m judged (notarize_waiting notarize ++ finalize_waiting finalize)
    (subst (λ o. Publishing made m judged (nullify_waiting o ++ (notarize_waiting notarize ++ finalize_waiting finalize))) (sym kept')
    (verdict_out made m opened all published)) in
    let out1 = publish_nullify judged in
    let out2 = option_map_or (λ n. send_vote (votes.Notarize n) out1) notarize out1 in
    let out3 = publish_notarization made view out2 in
    let out4 = publish_nullification made view out3 in
    let out5 = option_map_or (λ f. send_vote (votes.Finalize f) out4) finalize out4 in
    let out6 = publish_finalization made view out5 in
    let left = finalize_waiting finalize in
    let given_up : Publishing made m out4 left =
    nullification_out made m view out3 left (notarization_out made m view out2 left (notarize_out made m out1 left notarize nullified)) in
    update_out made m before out6 []
    (finalization_out made m view out5 [] (finalize_out made m out4 [] finalize (subst (Publishing made m out4) (sym (append-nil left)) given_up)))

-- ---- the start of the next iteration

pruned_low : (made : Made) (known : List Fact) (least : ℕ) → prune_answer made known ≡ Some least → least ≤ member.last_finalized (remembered known)
unfolding prune_answer least_active
pruned_low made known least e = at (nat_lt (greatest_of pruned_view known) (rules.last_finalized known - made.retention)) e
  where
    at : (b : Bool) → (if b then Some (rules.last_finalized known - made.retention) else None) ≡ Some least → least ≤ member.last_finalized (remembered known)
    at true h = let same : rules.last_finalized known - made.retention ≡ least = cc in omega (arith, same, final_is known)
    at false h = cc

told_stored : (made : Made) (m : Member) (d : Doing) (queue : List Vote) (call : state.Call) → IsQuiet call → Storing made m d queue → Storing made m (tell made call d) queue
told_stored made m d queue call q s = stores_known made m d.calls d.desk.known (facts_of made d.desk.known call ++ d.desk.known) queue (told_quiet made d.desk.known call q) s

pub iteration_begins : (made : Made) (m : Member) (now : ℕ) (d : Doing) → Storing made m d [] → Storing made m (begin_iteration made now d) []
unfolding begin_iteration prune
iteration_begins made m now d s =
    let begun = seek (record d { desk = iterated made now d.desk }) in
    let known = begun.desk.known in
    let ready : Storing made m begun [] = stores_known made m d.calls d.desk.known known [] (iterated_same made now d.desk) s in
    at begun ready (prune_answer made known) refl
  where
    at : (b : Doing) → Storing made m b [] → (o : Option ℕ) → prune_answer made b.desk.known ≡ o → Storing made m (prune_at o (tell made state.Prune b)) []
    at b ready None e = told_stored made m b [] state.Prune tt ready
    at b ready (Some least) e =
        let told = told_quiet made b.desk.known state.Prune tt in
        stores_prune made m b.calls (tell made state.Prune b).desk.known [] least
        (subst (λ known. least ≤ member.last_finalized known) (sym told.memory) (pruned_low made b.desk.known least e))
        (told_stored made m b [] state.Prune tt ready)

-- and what it handed on is what it handed on before, and what it seeks
pub iteration_publishes : (made : Made) (m : Member) (now : ℕ) (d : Doing) → Publishing made m d [] → Publishing made m (begin_iteration made now d) []
iteration_publishes made m now d p =
    record { stores = iteration_begins made m now d p.stores; constructed = iteration_hands made m now d p.constructed }
