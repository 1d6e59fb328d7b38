-- The end of a step, and the start of the next iteration.
use Rattle.std.proofs.Common.{◌≡◌, ℕ, ◌-◌, Bool, true, false, nat_lt, List, [], ◌∷◌, ◌++◌, map, Option, Some, None, refl, sym, ap, ◌∙◌, subst, append-nil, append_assoc, if◌then◌else◌}
use Rattle.std.specs.Option.{option_map_or}
use Rattle.simplex_values.specs.declared.plan.Channel.TheVariants as channels
use Rattle.simplex_values.specs.declared.plan.Recipients.TheVariants as recipients
use Rattle.simplex_wire.specs.declared.vote.Notarize.{Notarize}
use Rattle.simplex_wire.specs.declared.vote.Nullify.{Nullify}
use Rattle.simplex_wire.specs.declared.vote.Finalize.{Finalize}
use Rattle.simplex_wire.specs.declared.vote.Vote.{Vote}
use Rattle.simplex_wire.specs.declared.vote.Vote.TheVariants as votes
use Rattle.simplex_wire.specs.declared.certificate.Certificate.{Certificate}
use Rattle.simplex_wire.specs.declared.certificate.Certificate.TheVariants as certificates
use Rattle.simplex_wire.specs.declared.certificate.Notarization.{Notarization}
use Rattle.simplex_wire.specs.declared.certificate.Nullification.{Nullification}
use Rattle.simplex_wire.specs.declared.certificate.Finalization.{Finalization}
use Rattle.simplex_wire.specs.declared.artifact.Artifact.TheVariants as artifacts
use Rattle.simplex_wire.specs.Message as format
use Rattle.simplex_types.specs.declared.activity.Activity.{Activity}
use Rattle.simplex_types.specs.declared.activity.Activity.TheVariants as activities
use Rattle.simplex_messages.specs.declared.call.Call.TheVariants as calls
use Rattle.simplex_messages.specs.declared.handed.Handed.TheVariants as handed
use Rattle.simplex_messages.specs.declared.resolver.MailboxMessage.TheVariants as resolver
use Rattle.model_rules.specs.Known.{Made, Fact, Voted, view_of}
use Rattle.model_rules.specs.Views.{current_of}
use Rattle.model_rules.specs.Best.{forwardable_at}
use Rattle.model_rules.specs.Votes.{notarize_at, finalize_at}
use Rattle.model_rules.specs.Calls as state
use Rattle.model_rules.specs.Calls.{fact_of, facts_of, unsent_notarization, unsent_nullification, unsent_finalization, prune_answer}
use Rattle.model_rules.specs.Pending.{reconciled, iterated}
use Rattle.model_rules.proofs.Soundness.{notarize_parts, finalize_parts, slot_view}
use Rattle.model_steps.specs.Desk.{Doing, tell, make, hand, append, seek, send_vote, send_certificate, report}
use Rattle.model_steps.specs.Voter.{vote_notarize, vote_finalize, open_requests, sync, publish_verdict, publish_nullify, publish_notarization, publish_nullification, publish_finalization, with_certificate, update_message, update_batcher, end_of_step, prune_at, prune, begin_iteration, finished}
use Rattle.law_member.specs.VoterVotes.{votes_of, votes_on, votes_at_end}
use Rattle.law_member.specs.Learned.{lasting, additions, publications}
use Rattle.law_member.specs.Tidings.{of_proposals}
use Rattle.law_member.proofs.Quiet.{IsQuiet, told_quiet, reconciled_same, iterated_same}
use Rattle.law_member.proofs.Tallies.{Due, Tally, Tallied, tally_known, tally_plain, tally_note, tally_hands, tally_send, tally_synced, tally_added, once_synced, sought_silent}
use Rattle.law_member.proofs.Syncing.{sync_ends, untouched, Flagged}
use Rattle.law_member.specs.Outgoing.{IsAdded, MayGoOut}
use Rattle.law_member.proofs.Adding.{IfAdded, IsAlong, IsJudged, Unpublished, unsent_notarization_added, unsent_nullification_added, unsent_finalization_added}

-- the nullify that waits to go out
abbrev pub nullify_waiting : Option (Nullify × Option Certificate) → List Vote
nullify_waiting None = []
nullify_waiting (Some n) = votes.Nullify n.0 ∷ []

-- ---- the votes

notarizing_facts : (made : Made) (known : List Fact) (view : ℕ) (o : Option Notarize) → notarize_at made known view ≡ o
    → facts_of made known (state.ConstructNotarize view) ≡ fact_of (λ v. Voted (votes.Notarize v)) o
unfolding facts_of
notarizing_facts made known view o e = ap (fact_of (λ v. Voted (votes.Notarize v))) e

finalizing_facts : (made : Made) (known : List Fact) (view : ℕ) (o : Option Finalize) → finalize_at made known view ≡ o
    → facts_of made known (state.ConstructFinalize view) ≡ fact_of (λ v. Voted (votes.Finalize v)) o
unfolding facts_of
finalizing_facts made known view o e = ap (fact_of (λ v. Voted (votes.Finalize v))) e

notarize_view : (made : Made) (known : List Fact) (view : ℕ) (n : Notarize) → notarize_at made known view ≡ Some n → view_of n.proposal ≡ view
notarize_view made known view n e = slot_view known view n.proposal (notarize_parts made known view n e).0

finalize_view : (made : Made) (known : List Fact) (view : ℕ) (f : Finalize) → finalize_at made known view ≡ Some f → view_of f.proposal ≡ view
finalize_view made known view f e = slot_view known view f.proposal (finalize_parts made known view f e).0

notarize_written : (now : ℕ) (before : List Fact) (made : Made) (view : ℕ) (due : Due) (sent : List Vote) (d : Doing) → due.synced ≡ false → Tallied now before (Some view) due sent d
    → Tallied now before (Some view) due sent (vote_notarize made view d)
unfolding vote_notarize
notarize_written now before made view due sent d unsaved t = at (notarize_at made d.desk.known view) refl
  where
    at : (o : Option Notarize) → notarize_at made d.desk.known view ≡ o
        → Tallied now before (Some view) due sent (option_map_or (λ n. append (artifacts.Notarize n) (tell made (state.ConstructNotarize view) d)) o (tell made (state.ConstructNotarize view) d))
    at None e =
        subst (λ facts. Tally now before (Some view) due sent d.calls d.handed d.added (facts ++ d.desk.known)) (sym (notarizing_facts made d.desk.known view None e)) t
    at (Some n) e =
        let same = ap (λ facts. facts ++ d.desk.known) (notarizing_facts made d.desk.known view (Some n) e) in
        tally_note now before (Some view) due sent d.calls d.handed d.added d.desk.known (tell made (state.ConstructNotarize view) d).desk.known (artifacts.Notarize n) unsaved
        (ap (λ v. Some v) (sym (notarize_view made d.desk.known view n e)))
        (record { lasts = ap lasting same; adds = ap additions same; publishes = ap publications same; learns = ap of_proposals same }) t

finalize_written : (now : ℕ) (before : List Fact) (made : Made) (view : ℕ) (due : Due) (sent : List Vote) (d : Doing) → due.synced ≡ false → Tallied now before (Some view) due sent d
    → Tallied now before (Some view) due sent (vote_finalize made view d)
unfolding vote_finalize
finalize_written now before made view due sent d unsaved t = at (finalize_at made d.desk.known view) refl
  where
    at : (o : Option Finalize) → finalize_at made d.desk.known view ≡ o
        → Tallied now before (Some view) due sent (option_map_or (λ f. append (artifacts.Finalize f) (tell made (state.ConstructFinalize view) d)) o (tell made (state.ConstructFinalize view) d))
    at None e =
        subst (λ facts. Tally now before (Some view) due sent d.calls d.handed d.added (facts ++ d.desk.known)) (sym (finalizing_facts made d.desk.known view None e)) t
    at (Some f) e =
        let same = ap (λ facts. facts ++ d.desk.known) (finalizing_facts made d.desk.known view (Some f) e) in
        tally_note now before (Some view) due sent d.calls d.handed d.added d.desk.known (tell made (state.ConstructFinalize view) d).desk.known (artifacts.Finalize f) unsaved
        (ap (λ v. Some v) (sym (finalize_view made d.desk.known view f e)))
        (record { lasts = ap lasting same; adds = ap additions same; publishes = ap publications same; learns = ap of_proposals same }) t

-- the notarize counts at once
notarize_counts : (made : Made) (view : ℕ) (d : Doing)
    → (vote_notarize made view d).desk.known ≡ map Voted (votes_of votes.Notarize (notarize_at made d.desk.known view)) ++ d.desk.known
unfolding vote_notarize
notarize_counts made view d = at (notarize_at made d.desk.known view) refl
  where
    at : (o : Option Notarize) → notarize_at made d.desk.known view ≡ o
        → (option_map_or (λ n. append (artifacts.Notarize n) (tell made (state.ConstructNotarize view) d)) o (tell made (state.ConstructNotarize view) d)).desk.known
        ≡ map Voted (votes_of votes.Notarize o) ++ d.desk.known
    at None e = ap (λ facts. facts ++ d.desk.known) (notarizing_facts made d.desk.known view None e)
    at (Some n) e = ap (λ facts. facts ++ d.desk.known) (notarizing_facts made d.desk.known view (Some n) e)

notarize_flags : (made : Made) (view : ℕ) (d : Doing) → Flagged d → Flagged (vote_notarize made view d)
unfolding vote_notarize
notarize_flags made view d flag = at (notarize_at made d.desk.known view)
  where
    at : (o : Option Notarize) → Flagged (option_map_or (λ n. append (artifacts.Notarize n) (tell made (state.ConstructNotarize view) d)) o (tell made (state.ConstructNotarize view) d))
    at None = flag
    at (Some n) = λ e. cc

notarize_keeps : (made : Made) (view : ℕ) (d : Doing) → (vote_notarize made view d).nullify ≡ d.nullify
unfolding vote_notarize
notarize_keeps made view d = at (notarize_at made d.desk.known view)
  where
    at : (o : Option Notarize) → (option_map_or (λ n. append (artifacts.Notarize n) (tell made (state.ConstructNotarize view) d)) o (tell made (state.ConstructNotarize view) d)).nullify ≡ d.nullify
    at None = refl
    at (Some n) = refl

notarize_shows : (made : Made) (view : ℕ) (d : Doing) (known : List Fact) → Unpublished known d → Unpublished known (vote_notarize made view d)
unfolding vote_notarize
notarize_shows made view d known h = at (notarize_at made d.desk.known view)
  where
    at : (o : Option Notarize) → Unpublished known (option_map_or (λ n. append (artifacts.Notarize n) (tell made (state.ConstructNotarize view) d)) o (tell made (state.ConstructNotarize view) d))
    at None = h
    at (Some n) = h

finalize_flags : (made : Made) (view : ℕ) (d : Doing) → Flagged d → Flagged (vote_finalize made view d)
unfolding vote_finalize
finalize_flags made view d flag = at (finalize_at made d.desk.known view)
  where
    at : (o : Option Finalize) → Flagged (option_map_or (λ f. append (artifacts.Finalize f) (tell made (state.ConstructFinalize view) d)) o (tell made (state.ConstructFinalize view) d))
    at None = flag
    at (Some f) = λ e. cc

finalize_keeps : (made : Made) (view : ℕ) (d : Doing) → (vote_finalize made view d).nullify ≡ d.nullify
unfolding vote_finalize
finalize_keeps made view d = at (finalize_at made d.desk.known view)
  where
    at : (o : Option Finalize) → (option_map_or (λ f. append (artifacts.Finalize f) (tell made (state.ConstructFinalize view) d)) o (tell made (state.ConstructFinalize view) d)).nullify ≡ d.nullify
    at None = refl
    at (Some f) = refl

finalize_shows : (made : Made) (view : ℕ) (d : Doing) (known : List Fact) → Unpublished known d → Unpublished known (vote_finalize made view d)
unfolding vote_finalize
finalize_shows made view d known h = at (finalize_at made d.desk.known view)
  where
    at : (o : Option Finalize) → Unpublished known (option_map_or (λ f. append (artifacts.Finalize f) (tell made (state.ConstructFinalize view) d)) o (tell made (state.ConstructFinalize view) d))
    at None = h
    at (Some f) = h

-- ---- the requests, and the sync

sought_out : (now : ℕ) (before : List Fact) (touched : Option ℕ) (due : Due) (sent : List Vote) (d : Doing) → Tallied now before touched due sent d → Tallied now before touched due sent (seek d)
sought_out now before touched due sent d t = tally_hands now before touched due sent d.calls d.handed _ d.added d.desk.known (sought_silent d.desk.sought) t

requests_open : (now : ℕ) (before : List Fact) (touched : Option ℕ) (due : Due) (sent : List Vote) (made : Made) (d : Doing) → Tallied now before touched due sent d
    → Tallied now before touched due sent (open_requests made now d)
unfolding open_requests
requests_open now before touched due sent made d t =
    sought_out now before touched due sent (record d { desk = reconciled made now d.desk })
    (tally_known now before touched due sent d.calls d.handed d.added d.desk.known (reconciled made now d.desk).known (reconciled_same made now d.desk) t)

requests_flag : (made : Made) (now : ℕ) (d : Doing) → Flagged d → Flagged (open_requests made now d)
unfolding open_requests
requests_flag made now d flag = flag

requests_keep : (made : Made) (now : ℕ) (d : Doing) → (open_requests made now d).nullify ≡ d.nullify
unfolding open_requests
requests_keep made now d = refl

requests_show : (made : Made) (now : ℕ) (d : Doing) (known : List Fact) → Unpublished known d → Unpublished known (open_requests made now d)
unfolding open_requests
requests_show made now d known h = h

synced : (now : ℕ) (before : List Fact) (view : ℕ) (due : Due) (sent : List Vote) (d : Doing) → Flagged d → Tallied now before (Some view) due sent d
    → Tallied now before (Some view) (once_synced due) sent (sync view d)
synced now before view due sent d flag t = at d.wrote refl
  where
    at : (b : Bool) → d.wrote ≡ b → Tallied now before (Some view) (once_synced due) sent (if b then make (calls.Sync view) d else d)
    at true e =
        tally_synced now before (Some view) due sent (d.calls ++ calls.Sync view ∷ []) d.handed d.added d.desk.known (sync_ends view d.calls t.sections)
        (tally_plain now before (Some view) due sent d.calls d.handed d.added d.desk.known (calls.Sync view) (refl, refl, refl, λ out. cc, tt) t)
    at false e = tally_synced now before (Some view) due sent d.calls d.handed d.added d.desk.known (flag e) t

sync_keeps : (view : ℕ) (d : Doing) → (sync view d).nullify ≡ d.nullify
sync_keeps view d = at d.wrote
  where
    at : (b : Bool) → (if b then make (calls.Sync view) d else d).nullify ≡ d.nullify
    at true = refl
    at false = refl

sync_shows : (view : ℕ) (d : Doing) (known : List Fact) → Unpublished known d → Unpublished known (sync view d)
sync_shows view d known h = at d.wrote
  where
    at : (b : Bool) → Unpublished known (if b then make (calls.Sync view) d else d)
    at true = h
    at false = h

-- ---- what is published

verdict_out : (now : ℕ) (before : List Fact) (touched : Option ℕ) (due : Due) (sent : List Vote) (d : Doing) → due.synced ≡ true → IsJudged (additions before) d.verdict → Tallied now before touched due sent d → Tallied now before touched due sent (publish_verdict d)
unfolding publish_verdict
verdict_out now before touched due sent d done known t = at d.verdict known
  where
    one : (n : Notarization) (good b : Bool) → IsAdded (additions before) (certificates.Notarization n) → (let told = hand (handed.Resolver (resolver.Certified n good)) d in
        Tallied now before touched due sent (if b then report (activities.Certification n) told else told))
    one n good true k =
        tally_plain now before touched due sent d.calls (hand (handed.Resolver (resolver.Certified n good)) d).handed d.added d.desk.known (calls.Report (activities.Certification n)) (tt, refl, refl, λ out. done, tally_added now before touched due sent d.calls d.handed d.added d.desk.known (certificates.Notarization n) t k)
        (tally_hands now before touched due sent d.calls d.handed (handed.Resolver (resolver.Certified n good) ∷ []) d.added d.desk.known refl t)
    one n good false k = tally_hands now before touched due sent d.calls d.handed (handed.Resolver (resolver.Certified n good) ∷ []) d.added d.desk.known refl t

    at : (o : Option (Notarization × Bool)) → IsJudged (additions before) o → Tallied now before touched due sent (option_map_or (λ v.
        let told = hand (handed.Resolver (resolver.Certified v.0 v.1)) d in
        if v.1 then report (activities.Certification v.0) told else told) o d)
    at None k = t
    at (Some v) k = one v.0 v.1 v.1 k

verdict_keeps : (d : Doing) → (publish_verdict d).nullify ≡ d.nullify
unfolding publish_verdict
verdict_keeps d = at d.verdict
  where
    one : (n : Notarization) (good b : Bool) → (let told = hand (handed.Resolver (resolver.Certified n good)) d in
        (if b then report (activities.Certification n) told else told).nullify ≡ d.nullify)
    one n good true = refl
    one n good false = refl

    at : (o : Option (Notarization × Bool)) → (option_map_or (λ v.
        let told = hand (handed.Resolver (resolver.Certified v.0 v.1)) d in
        if v.1 then report (activities.Certification v.0) told else told) o d).nullify ≡ d.nullify
    at None = refl
    at (Some v) = one v.0 v.1 v.1

verdict_shows : (d : Doing) (known : List Fact) → Unpublished known d → IsAlong known (publish_verdict d).nullify
verdict_shows d known h = subst (IsAlong known) (sym (verdict_keeps d)) h.0

certificate_out : (now : ℕ) (before : List Fact) (touched : Option ℕ) (due : Due) (sent : List Vote) (d : Doing) (c : Certificate) → due.synced ≡ true → IsAdded (additions d.desk.known) c
    → Tallied now before touched due sent d → Tallied now before touched due sent (send_certificate c d)
certificate_out now before touched due sent d c done known t =
    tally_plain now before touched due sent d.calls d.handed d.added d.desk.known (calls.Send channels.Certificate recipients.All (format.certificate.spelling c))
    (tt, refl, refl, λ out. done, (c, known, refl, refl)) t

certificate_along : (now : ℕ) (before : List Fact) (touched : Option ℕ) (due : Due) (sent : List Vote) (d : Doing) (o : Option Certificate) → due.synced ≡ true → IfAdded (additions d.desk.known) o
    → Tallied now before touched due sent d → Tallied now before touched due sent (with_certificate o d)
certificate_along now before touched due sent d None done known t = t
certificate_along now before touched due sent d (Some c) done known t = certificate_out now before touched due sent d c done known t

vote_out : (now : ℕ) (before : List Fact) (touched : Option ℕ) (due : Due) (sent : List Vote) (d : Doing) (v : Vote) → due.synced ≡ true → Tallied now before touched due sent d → Tallied now before touched due (sent ++ v ∷ []) (send_vote v d)
vote_out now before touched due sent d v done t = tally_send now before touched due sent d.calls d.handed d.added d.desk.known v done t

nothing_out : (now : ℕ) (before : List Fact) (touched : Option ℕ) (due : Due) (sent : List Vote) (d : Doing) → Tallied now before touched due sent d → Tallied now before touched due (sent ++ []) d
nothing_out now before touched due sent d t = subst (λ vs. Tallied now before touched due vs d) (sym (append-nil sent)) t

nullify_out : (now : ℕ) (before : List Fact) (touched : Option ℕ) (due : Due) (sent : List Vote) (d : Doing) → due.synced ≡ true → IsAlong (additions before) d.nullify → Tallied now before touched due sent d
    → Tallied now before touched due (sent ++ nullify_waiting d.nullify) (publish_nullify d)
unfolding publish_nullify
nullify_out now before touched due sent d done known t = at d.nullify known
  where
    along : (o : Option Certificate) → IfAdded (additions before) o → IfAdded (additions d.desk.known) o
    along None k = tt
    along (Some c) k = tally_added now before touched due sent d.calls d.handed d.added d.desk.known c t k

    at : (o : Option (Nullify × Option Certificate)) → IsAlong (additions before) o
        → Tallied now before touched due (sent ++ nullify_waiting o) (option_map_or (λ n. with_certificate n.1 (send_vote (votes.Nullify n.0) d)) o d)
    at None k = nothing_out now before touched due sent d t
    at (Some n) k =
        certificate_along now before touched due (sent ++ votes.Nullify n.0 ∷ []) (send_vote (votes.Nullify n.0) d) n.1 done (along n.1 k) (vote_out now before touched due sent d (votes.Nullify n.0) done t)

notarize_out : (now : ℕ) (before : List Fact) (touched : Option ℕ) (due : Due) (sent : List Vote) (d : Doing) (o : Option Notarize) → due.synced ≡ true → Tallied now before touched due sent d
    → Tallied now before touched due (sent ++ votes_of votes.Notarize o) (option_map_or (λ n. send_vote (votes.Notarize n) d) o d)
notarize_out now before touched due sent d None done t = nothing_out now before touched due sent d t
notarize_out now before touched due sent d (Some n) done t = vote_out now before touched due sent d (votes.Notarize n) done t

finalize_out : (now : ℕ) (before : List Fact) (touched : Option ℕ) (due : Due) (sent : List Vote) (d : Doing) (o : Option Finalize) → due.synced ≡ true → Tallied now before touched due sent d
    → Tallied now before touched due (sent ++ votes_of votes.Finalize o) (option_map_or (λ f. send_vote (votes.Finalize f) d) o d)
finalize_out now before touched due sent d None done t = nothing_out now before touched due sent d t
finalize_out now before touched due sent d (Some f) done t = vote_out now before touched due sent d (votes.Finalize f) done t

pub told_quietly : (now : ℕ) (before : List Fact) (touched : Option ℕ) (due : Due) (sent : List Vote) (made : Made) (d : Doing) (call : state.Call) → IsQuiet call → Tallied now before touched due sent d
    → Tallied now before touched due sent (tell made call d)
told_quietly now before touched due sent made d call q t =
    tally_known now before touched due sent d.calls d.handed d.added d.desk.known (facts_of made d.desk.known call ++ d.desk.known) (told_quiet made d.desk.known call q) t

-- a certificate is sent and reported
both_out : (now : ℕ) (before : List Fact) (touched : Option ℕ) (due : Due) (sent : List Vote) (d : Doing) (c : Certificate) (a : Activity) → due.synced ≡ true → IsAdded (additions d.desk.known) c → MayGoOut (additions d.desk.known) (calls.Report a) → Tallied now before touched due sent d
    → Tallied now before touched due sent (report a (send_certificate c d))
both_out now before touched due sent d c a done known same t =
    tally_plain now before touched due sent (send_certificate c d).calls d.handed d.added d.desk.known (calls.Report a) (tt, refl, refl, λ out. done, same) (certificate_out now before touched due sent d c done known t)

notarization_out : (now : ℕ) (before : List Fact) (touched : Option ℕ) (due : Due) (sent : List Vote) (made : Made) (view : ℕ) (d : Doing) → due.synced ≡ true → Tallied now before touched due sent d
    → Tallied now before touched due sent (publish_notarization made view d)
unfolding publish_notarization
notarization_out now before touched due sent made view d done t = at (unsent_notarization d.desk.known view) refl
  where
    told : Tallied now before touched due sent (tell made (state.BroadcastNotarization view) d)
    told = told_quietly now before touched due sent made d (state.BroadcastNotarization view) tt t

    known : (o : Notarization) → unsent_notarization d.desk.known view ≡ Some o → IsAdded (additions (tell made (state.BroadcastNotarization view) d).desk.known) (certificates.Notarization o)
    known o e =
        let same = told_quiet made d.desk.known (state.BroadcastNotarization view) tt in
        subst (λ facts. IsAdded facts (certificates.Notarization o)) (sym same.adds) (unsent_notarization_added d.desk.known view o e)

    at : (o : Option Notarization) → unsent_notarization d.desk.known view ≡ o → Tallied now before touched due sent (option_map_or (λ n. report (activities.Notarization n) (send_certificate (certificates.Notarization n) (tell made (state.BroadcastNotarization view) d))) o (tell made (state.BroadcastNotarization view) d))
    at None e = told
    at (Some n) e = both_out now before touched due sent (tell made (state.BroadcastNotarization view) d) _ _ done (known n e) (known n e) told

nullification_out : (now : ℕ) (before : List Fact) (touched : Option ℕ) (due : Due) (sent : List Vote) (made : Made) (view : ℕ) (d : Doing) → due.synced ≡ true → Tallied now before touched due sent d
    → Tallied now before touched due sent (publish_nullification made view d)
unfolding publish_nullification
nullification_out now before touched due sent made view d done t = at (unsent_nullification d.desk.known view) refl
  where
    told : Tallied now before touched due sent (tell made (state.BroadcastNullification view) d)
    told = told_quietly now before touched due sent made d (state.BroadcastNullification view) tt t

    known : (o : Nullification) → unsent_nullification d.desk.known view ≡ Some o → IsAdded (additions (tell made (state.BroadcastNullification view) d).desk.known) (certificates.Nullification o)
    known o e =
        let same = told_quiet made d.desk.known (state.BroadcastNullification view) tt in
        subst (λ facts. IsAdded facts (certificates.Nullification o)) (sym same.adds) (unsent_nullification_added d.desk.known view o e)

    at : (o : Option Nullification) → unsent_nullification d.desk.known view ≡ o → Tallied now before touched due sent (option_map_or (λ n. report (activities.Nullification n) (send_certificate (certificates.Nullification n) (tell made (state.BroadcastNullification view) d))) o (tell made (state.BroadcastNullification view) d))
    at None e = told
    at (Some n) e = both_out now before touched due sent (tell made (state.BroadcastNullification view) d) _ _ done (known n e) (known n e) told

finalization_out : (now : ℕ) (before : List Fact) (touched : Option ℕ) (due : Due) (sent : List Vote) (made : Made) (view : ℕ) (d : Doing) → due.synced ≡ true → Tallied now before touched due sent d
    → Tallied now before touched due sent (publish_finalization made view d)
unfolding publish_finalization
finalization_out now before touched due sent made view d done t = at (unsent_finalization d.desk.known view) refl
  where
    told : Tallied now before touched due sent (tell made (state.BroadcastFinalization view) d)
    told = told_quietly now before touched due sent made d (state.BroadcastFinalization view) tt t

    known : (o : Finalization) → unsent_finalization d.desk.known view ≡ Some o → IsAdded (additions (tell made (state.BroadcastFinalization view) d).desk.known) (certificates.Finalization o)
    known o e =
        let same = told_quiet made d.desk.known (state.BroadcastFinalization view) tt in
        subst (λ facts. IsAdded facts (certificates.Finalization o)) (sym same.adds) (unsent_finalization_added d.desk.known view o e)

    at : (o : Option Finalization) → unsent_finalization d.desk.known view ≡ o → Tallied now before touched due sent (option_map_or (λ f. report (activities.Finalization f) (send_certificate (certificates.Finalization f) (tell made (state.BroadcastFinalization view) d))) o (tell made (state.BroadcastFinalization view) d))
    at None e = told
    at (Some n) e = both_out now before touched due sent (tell made (state.BroadcastFinalization view) d) _ _ done (known n e) (known n e) told

update_out : (now : ℕ) (before : List Fact) (touched : Option ℕ) (due : Due) (sent : List Vote) (made : Made) (first : ℕ) (d : Doing) → Tallied now before touched due sent d
    → Tallied now before touched due sent (update_batcher made first d)
unfolding update_batcher
update_out now before touched due sent made first d t = at (nat_lt first (current_of made d.desk.known))
  where
    at : (b : Bool) → Tallied now before touched due sent (if b then hand (update_message made d.desk.known (forwardable_at d.desk.known (current_of made d.desk.known - 1))) d else d)
    at true = tally_hands now before touched due sent d.calls d.handed (update_message made d.desk.known (forwardable_at d.desk.known (current_of made d.desk.known - 1)) ∷ []) d.added d.desk.known refl t
    at false = t

-- ---- the end of a step

pub step_ends : (now : ℕ) (before : List Fact) (made : Made) (first view : ℕ) (d : Doing) (due : Due) → due.synced ≡ false → Flagged d → Unpublished (additions before) d → Tallied now before (Some view) due [] d → nullify_waiting d.nullify ≡ due.votes
    → Tallied now before (Some view) (once_synced due) (due.votes ++ votes_on made d.desk.known view) (end_of_step made now first view d)
unfolding end_of_step votes_on
step_ends now before made first view d due unsaved flag shown t waits =
    let touched = Some view in
    let safe = once_synced due in
    let notarize = notarize_at made d.desk.known view in
    let voted = vote_notarize made view d in
    let finalize = finalize_at made voted.desk.known view in
    let finalized = vote_finalize made view voted in
    let asked = open_requests made now finalized in
    let opened = sync view asked in
    let judged = publish_verdict opened in
    let kept : judged.nullify ≡ d.nullify =
    verdict_keeps opened ∙ sync_keeps view asked ∙ requests_keep made now finalized ∙ finalize_keeps made view voted ∙ notarize_keeps made view d in
    let unpublished =
    sync_shows view asked (additions before)
    (requests_show made now finalized (additions before) (finalize_shows made view voted (additions before) (notarize_shows made view d (additions before) shown))) in
    let stored : Tallied now before touched safe [] judged =
    verdict_out now before touched safe [] opened refl unpublished.1
    (synced now before view due [] asked (requests_flag made now finalized (finalize_flags made view voted (notarize_flags made view d flag)))
    (requests_open now before touched due [] made finalized
    (finalize_written now before made view due [] voted unsaved (notarize_written now before made view due [] d unsaved t)))) in
    let out1 = publish_nullify judged in
    let nullified : Tallied now before touched safe due.votes out1 =
    subst (λ vs. Tallied now before touched safe vs out1) (ap nullify_waiting kept ∙ waits) (nullify_out now before touched safe [] judged refl (verdict_shows opened (additions before) unpublished) stored) in
    let out2 = option_map_or (λ n. send_vote (votes.Notarize n) out1) notarize out1 in
    let out3 = publish_notarization made view out2 in
    let out4 = publish_nullification made view out3 in
    let out5 = option_map_or (λ f. send_vote (votes.Finalize f) out4) finalize out4 in
    let out6 = publish_finalization made view out5 in
    let notarizes = votes_of votes.Notarize notarize in
    let some = due.votes ++ notarizes in
    let all = some ++ votes_of votes.Finalize finalize in
    let given_up : Tallied now before touched safe some out4 =
    nullification_out now before touched safe some made view out3 refl
    (notarization_out now before touched safe some made view out2 refl (notarize_out now before touched safe due.votes out1 notarize refl nullified)) in
    subst (λ vs. Tallied now before touched safe vs (update_batcher made first out6))
    (append_assoc due.votes notarizes (votes_of votes.Finalize finalize)
    ∙ ap (λ known. due.votes ++ (notarizes ++ votes_of votes.Finalize (finalize_at made known view))) (notarize_counts made view d))
    (update_out now before touched safe all made first out6
    (finalization_out now before touched safe all made view out5 refl (finalize_out now before touched safe some out4 finalize refl given_up)))

-- ---- the start of the next iteration

iteration_begins : (now : ℕ) (before : List Fact) (touched : Option ℕ) (due : Due) (sent : List Vote) (made : Made) (d : Doing) → due.synced ≡ true → Tallied now before touched due sent d
    → Tallied now before touched due sent (begin_iteration made now d)
unfolding begin_iteration prune
iteration_begins now before touched due sent made d done t =
    let asked = record d { desk = iterated made now d.desk } in
    let known = asked.desk.known in
    let begun = seek asked in
    let ready : Tallied now before touched due sent begun =
    sought_out now before touched due sent asked
    (tally_known now before touched due sent d.calls d.handed d.added d.desk.known known (iterated_same made now d.desk) t) in
    at begun ready (prune_answer made begun.desk.known)
  where
    at : (b : Doing) → Tallied now before touched due sent b → (o : Option ℕ) → Tallied now before touched due sent (prune_at o (tell made state.Prune b))
    at b ready None = told_quietly now before touched due sent made b state.Prune tt ready
    at b ready (Some least) =
        tally_plain now before touched due sent b.calls b.handed b.added (tell made state.Prune b).desk.known (calls.Prune least) (tt, refl, refl, λ out. done, tt)
        (told_quietly now before touched due sent made b state.Prune tt ready)

pub step_finishes : (now : ℕ) (before : List Fact) (made : Made) (first : ℕ) (d : Doing) (o : Option ℕ) (due : Due) → due.synced ≡ false → Flagged d → Unpublished (additions before) d → Tallied now before o due [] d → nullify_waiting d.nullify ≡ due.votes → (o ≡ None → due.votes ≡ [])
    → Tallied now before o (once_synced due) (due.votes ++ votes_at_end made (d, o)) (finished made now first (d, o))
unfolding finished
step_finishes now before made first d None due unsaved flag shown t waits ends =
    let none : Tallied now before None due (due.votes ++ []) d = subst (λ vs. Tallied now before None due (vs ++ []) d) (sym (ends refl)) t in
    iteration_begins now before None (once_synced due) (due.votes ++ []) made d refl
    (tally_synced now before None due (due.votes ++ []) d.calls d.handed d.added d.desk.known (untouched d.calls t.sections) none)
step_finishes now before made first d (Some view) due unsaved flag shown t waits ends =
    iteration_begins now before (Some view) (once_synced due) (due.votes ++ votes_on made d.desk.known view) made (end_of_step made now first view d) refl
    (step_ends now before made first view d due unsaved flag shown t waits)
