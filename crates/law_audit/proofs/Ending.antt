-- The calls of the journal that a step makes are those by the rules, with the same prunes at the same places.
use Rattle.std.proofs.Common.{◌≡◌, ℕ, ◌-◌, ◌||◌, nat_lt, Bool, true, false, List, [], ◌∷◌, ◌++◌, map, Option, Some, None, refl, sym, ap, ◌∙◌, subst, append-nil, if◌then◌else◌}
use Rattle.std.proofs.lemmas.List.{append_assoc, map-append}
use Rattle.std.specs.Option.{option_map, option_map_or}
use Rattle.law_member.proofs.Adding.{some_is}
use Rattle.simplex_wire.specs.declared.artifact.Artifact.{Artifact}
use Rattle.simplex_wire.specs.declared.certificate.Certificate.{Certificate}
use Rattle.simplex_wire.specs.declared.certificate.Certificate.TheVariants as certificates
use Rattle.simplex_wire.specs.declared.certificate.Notarization.{Notarization}
use Rattle.simplex_wire.specs.declared.certificate.Nullification.{Nullification}
use Rattle.simplex_wire.specs.declared.certificate.Finalization.{Finalization}
use Rattle.simplex_wire.specs.declared.vote.Notarize.{Notarize}
use Rattle.simplex_wire.specs.declared.vote.Nullify.{Nullify}
use Rattle.simplex_wire.specs.declared.vote.Finalize.{Finalize}
use Rattle.simplex_wire.specs.declared.vote.Vote.{Vote}
use Rattle.simplex_wire.specs.declared.vote.Vote.TheVariants as votes
use Rattle.simplex_types.specs.declared.activity.Activity.TheVariants as activities
use Rattle.model_rules.specs.declared.request.Asked.TheVariants as asks
use Rattle.simplex_values.specs.declared.answer.Answer.TheVariants as answers
use Rattle.model_rules.specs.Lists.{greatest_of}
use Rattle.model_rules.specs.Known.{Made, Fact, Voted}
use Rattle.model_rules.specs.Views.{current_of, least_active}
use Rattle.model_rules.specs.Votes.{notarize_at, finalize_at}
use Rattle.model_rules.specs.Calls as state
use Rattle.model_rules.specs.Calls.{facts_of, unsent_notarization, unsent_nullification, unsent_finalization, pruned_view, prune_answer}
use Rattle.model_rules.specs.Pending.{iterated}
use Rattle.simplex_messages.specs.declared.call.Call.{Call}
use Rattle.simplex_messages.specs.declared.call.Call.TheVariants as calls
use Rattle.simplex_messages.specs.declared.handed.Handed.TheVariants as handed
use Rattle.simplex_messages.specs.declared.resolver.MailboxMessage.TheVariants as resolver
use Rattle.simplex_messages.specs.declared.voter.Message.TheVariants as mail
use Rattle.simplex_messages.specs.declared.voter.VoterInput.{VoterInput}
use Rattle.model_rules.specs.Best.{forwardable_at}
use Rattle.model_steps.specs.Desk.{Doing, tell, make, hand, seek, send_vote, send_certificate, report}
use Rattle.model_steps.specs.Voter.{Standing, stepped, adds, vote_notarize, vote_finalize, open_requests, sync, publish_verdict, with_certificate, publish_nullify, publish_notarization, publish_nullification, publish_finalization, update_message, update_batcher, end_of_step, prune_at, prune, begin_iteration, ended, finished}
use Rattle.model_steps.specs.Voter as voter
use Rattle.law_member.specs.Learned.{additions}
use Rattle.law_member.specs.VoterVotes.{votes_of, votes_on}
use Rattle.law_member.proofs.Quiet.{iterated_same}
use Rattle.law_requests.proofs.Pruning.{prune_stands}
use Rattle.model_audit.specs.Alike.{AreAlike}
use Rattle.model_audit.specs.Taking.{Taking, Deadline, Mail, Reply, acted, touched, newly_known, votes_then}
use Rattle.model_audit.specs.JournalCalls.{vote_record, added_by, records_taken, known_then, records_made, append_of, syncs_of, prunes_of, journal_calls}
use Rattle.law_audit.specs.Taken.{Takes}
use Rattle.law_audit.specs.Recording.{shape_of}
use Rattle.law_audit.proofs.Looking.{finalized_by, same_current, same_nullified, same_takes, same_active, same_adds_notarization, same_adds_nullification, same_adds_finalization}
use Rattle.law_audit.proofs.Alike.{alike_behind, alike_acted, same_touched, same_newly, same_votes_then}
use Rattle.law_audit.proofs.Finishing.{ends_later}
use Rattle.law_audit.proofs.Acting.{ActsAs, acts}
use Rattle.law_audit.proofs.Writing.{Mark, Written, Dropped, mark_of, marks_of, prune_of, is_any, marks-append, marks_still, shape_told, WritesAs, writes}

-- ---- by the rules: the same of lists that are alike

module _ (made : Made) (now : ℕ) (a b : List Fact) (alike : AreAlike a b) where
  same_adds : (c : Certificate) → adds made a c ≡ adds made b c
  same_adds (certificates.Notarization n) = same_adds_notarization a b alike made n
  same_adds (certificates.Nullification n) = same_adds_nullification a b alike made n
  same_adds (certificates.Finalization f) = same_adds_finalization a b alike made f

  same_added_by : (taking : Taking) → added_by made a taking ≡ added_by made b taking
  same_added_by Deadline = refl
  same_added_by (Mail (mail.Proposal proposal)) = refl
  same_added_by (Mail (mail.Timeout round reason)) = refl
  same_added_by (Mail (mail.Verified c)) = ap (λ t. if t then c ∷ [] else []) (same_adds c)
  same_added_by (Reply asked answer) = refl

  same_records_taken : (taking : Taking) → records_taken made a taking ≡ records_taken made b taking
  same_records_taken Deadline = rw (same_current a b alike made, same_nullified a b alike (current_of made b)) refl
  same_records_taken (Mail message) = ap (map voter.record_of) (same_added_by (Mail message))
  same_records_taken (Reply (asks.Prepare context) answer) = refl
  same_records_taken (Reply (asks.Propose context) answer) = refl
  same_records_taken (Reply (asks.Verify context payload) answer) = refl
  same_records_taken (Reply (asks.Certify round payload) (answers.Verdict good)) = rw (same_takes a b alike round.view) refl
  same_records_taken (Reply (asks.Certify round payload) (answers.Payload p)) = refl
  same_records_taken (Reply (asks.Certify round payload) (answers.Handoff decision)) = refl
  same_records_taken (Reply (asks.Certify round payload) answers.Closed) = refl

  alike_known : (taking : Taking) → AreAlike (known_then made now a taking) (known_then made now b taking)
  alike_known taking =
      subst (λ (xs : List Fact). AreAlike (xs ++ acted made now a (added_by made a taking) taking) (known_then made now b taking)) (sym (same_newly made a b alike taking))
      (subst (λ (cs : List Certificate). AreAlike (newly_known made b taking ++ acted made now a cs taking) (known_then made now b taking)) (sym (same_added_by taking))
      (alike_behind (newly_known made b taking) (acted made now a (added_by made b taking) taking) (acted made now b (added_by made b taking) taking)
      (alike_acted made a b alike now (added_by made b taking) taking)))

  same_records : (taking : Taking) → records_made made now a taking ≡ records_made made now b taking
  same_records taking =
      ap (λ (xs : List Artifact). xs ++ map vote_record (votes_then made (known_then made now a taking) (touched made a taking))) (same_records_taken taking)
      ∙ ap (λ (vs : List Vote). records_taken made b taking ++ map vote_record vs)
      (same_votes_then made (known_then made now a taking) (known_then made now b taking) (alike_known taking) (touched made a taking)
      ∙ ap (votes_then made (known_then made now b taking)) (same_touched made a b alike taking))

  abbrev levels : ℕ → ℕ → List Call
  levels before after = if nat_lt before after then calls.Prune after ∷ [] else []

  pub same_journal_calls : (taking : Taking) → journal_calls made now a taking ≡ journal_calls made now b taking
  unfolding journal_calls
  same_journal_calls taking =
      let x = known_then made now a taking in
      let y = known_then made now b taking in
      ap (λ (rs : List Artifact). map append_of rs ++ syncs_of rs ++ prunes_of made a x) (same_records taking)
      ∙ ap (λ (ps : List Call). map append_of (records_made made now b taking) ++ syncs_of (records_made made now b taking) ++ ps)
      (ap (λ before. levels before (least_active made x)) (same_active a b alike made) ∙ ap (levels (least_active made b)) (same_active x y (alike_known taking) made))

-- ---- what is told of them

or_false : (b : Bool) → b ≡ (b || false)
or_false true = refl
or_false false = refl

or_true : (b : Bool) → true ≡ (b || true)
or_true true = refl
or_true false = refl

or_assoc : (a b c : Bool) → (a || (b || c)) ≡ ((a || b) || c)
or_assoc true b c = refl
or_assoc false b c = refl

any-append : (xs ys : List Artifact) → is_any (xs ++ ys) ≡ (is_any xs || is_any ys)
any-append [] ys = refl
any-append (x ∷ xs) ys = refl

appends_shape : (rs : List Artifact) → marks_of (map append_of rs) ≡ map mark_of rs
appends_shape [] = refl
appends_shape (r ∷ rs) = ap (λ xs. mark_of r ∷ xs) (appends_shape rs)

abbrev pub synced : Bool → List Mark
synced wrote = if wrote then Written None ∷ [] else []

syncs_shape : (rs : List Artifact) → marks_of (syncs_of rs) ≡ synced (is_any rs)
syncs_shape [] = refl
syncs_shape (r ∷ rs) = refl

abbrev pub pruned_at : Option ℕ → List Mark
pruned_at None = []
pruned_at (Some least) = Dropped least ∷ []

prunes_shape : (before after : ℕ) → pruned_at (if nat_lt before after then Some after else None) ≡ marks_of (if nat_lt before after then calls.Prune after ∷ [] else [])
prunes_shape before after = at (nat_lt before after)
  where
    at : (b : Bool) → pruned_at (if b then Some after else None) ≡ marks_of (if b then calls.Prune after ∷ [] else [])
    at true = refl
    at false = refl

-- ---- the end of a step: two votes at most are appended

module _ (made : Made) (view : ℕ) where
  abbrev notarizes_of : List Fact → List Vote
  notarizes_of known = votes_of votes.Notarize (notarize_at made known view)

  abbrev finalizes_of : List Fact → List Vote
  finalizes_of known = votes_of votes.Finalize (finalize_at made known view)

  -- these were appended
  record Appended (before after : Doing) (rs : List Artifact) : Type 0 where
    shape : marks_of after.calls ≡ marks_of before.calls ++ map mark_of rs
    wrote : after.wrote ≡ (before.wrote || is_any rs)

  notarized : (d : Doing) → Appended d (vote_notarize made view d) (map vote_record (notarizes_of d.desk.known)) × ((vote_notarize made view d).desk.known ≡ map Voted (notarizes_of d.desk.known) ++ d.desk.known)
  unfolding vote_notarize facts_of
  notarized d = at (notarize_at made d.desk.known view) refl
    where
      at : (o : Option Notarize) → notarize_at made d.desk.known view ≡ o
          → Appended d (vote_notarize made view d) (map vote_record (notarizes_of d.desk.known)) × ((vote_notarize made view d).desk.known ≡ map Voted (notarizes_of d.desk.known) ++ d.desk.known)
      at None e = (record { shape = rw e (sym (append-nil (marks_of d.calls))); wrote = rw e (or_false d.wrote) }, rw e refl)
      at (Some n) e = (record { shape = rw e (marks-append d.calls _); wrote = rw e (or_true d.wrote) }, rw e refl)

  finalized : (d : Doing) → Appended d (vote_finalize made view d) (map vote_record (finalizes_of d.desk.known))
  unfolding vote_finalize
  finalized d = at (finalize_at made d.desk.known view) refl
    where
      at : (o : Option Finalize) → finalize_at made d.desk.known view ≡ o → Appended d (vote_finalize made view d) (map vote_record (finalizes_of d.desk.known))
      at None e = record { shape = rw e (sym (append-nil (marks_of d.calls))); wrote = rw e (or_false d.wrote) }
      at (Some n) e = record { shape = rw e (marks-append d.calls _); wrote = rw e (or_true d.wrote) }

  votes_appended : (d : Doing) → Appended d (vote_finalize made view (vote_notarize made view d)) (map vote_record (votes_on made d.desk.known view))
  unfolding votes_on
  votes_appended d =
      let voted = vote_notarize made view d in
      let first = notarized d in
      let second = finalized voted in
      let ns = map vote_record (notarizes_of d.desk.known) in
      let fs = map vote_record (finalizes_of voted.desk.known) in
      let all : map vote_record (votes_on made d.desk.known view) ≡ ns ++ fs =
      map-append vote_record (notarizes_of d.desk.known) (finalizes_of (map Voted (notarizes_of d.desk.known) ++ d.desk.known))
      ∙ ap (λ (known : List Fact). ns ++ map vote_record (finalizes_of known)) (sym first.1) in
      record {
        shape =
            second.shape ∙ ap (λ xs. xs ++ map mark_of fs) first.0.shape ∙ append_assoc (marks_of d.calls) (map mark_of ns) (map mark_of fs)
            ∙ ap (λ xs. marks_of d.calls ++ xs) (sym (map-append mark_of ns fs) ∙ ap (map mark_of) (sym all));
        wrote = second.wrote ∙ ap (λ b. b || is_any fs) first.0.wrote ∙ sym (or_assoc d.wrote (is_any ns) (is_any fs)) ∙ ap (λ b. d.wrote || b) (sym (any-append ns fs) ∙ ap is_any (sym all));
      }

  -- ---- what is published is none of the journal

  sync_shape : (d : Doing) → marks_of (sync view d).calls ≡ marks_of d.calls ++ synced d.wrote
  sync_shape d = at d.wrote
    where
      at : (b : Bool) → marks_of (if b then make (calls.Sync view) d else d).calls ≡ marks_of d.calls ++ synced b
      at true = marks-append d.calls (calls.Sync view ∷ [])
      at false = sym (append-nil (marks_of d.calls))

  verdict_shape : (d : Doing) → marks_of (publish_verdict d).calls ≡ marks_of d.calls
  unfolding publish_verdict
  verdict_shape d = at d.verdict
    where
      judged : (n : Notarization) (good : Bool) → marks_of (if good then report (activities.Certification n) (hand (handed.Resolver (resolver.Certified n good)) d) else hand (handed.Resolver (resolver.Certified n good)) d).calls ≡ marks_of d.calls
      judged n true = marks_still d.calls _ refl
      judged n false = refl

      at : (o : Option (Notarization × Bool)) → marks_of (option_map_or (λ v. let told = hand (handed.Resolver (resolver.Certified v.0 v.1)) d in if v.1 then report (activities.Certification v.0) told else told) o d).calls ≡ marks_of d.calls
      at None = refl
      at (Some v) = judged v.0 v.1

  vote_shape : (v : Vote) (d : Doing) → marks_of (send_vote v d).calls ≡ marks_of d.calls
  vote_shape v d = marks_still d.calls _ refl

  certificate_shape : (c : Certificate) (d : Doing) → marks_of (send_certificate c d).calls ≡ marks_of d.calls
  certificate_shape c d = marks_still d.calls _ refl

  nullify_shape : (d : Doing) → marks_of (publish_nullify d).calls ≡ marks_of d.calls
  unfolding publish_nullify
  nullify_shape d = at d.nullify
    where
      along : (n : Nullify) (o : Option Certificate) → marks_of (with_certificate o (send_vote (votes.Nullify n) d)).calls ≡ marks_of d.calls
      along n None = vote_shape (votes.Nullify n) d
      along n (Some c) = certificate_shape c (send_vote (votes.Nullify n) d) ∙ vote_shape (votes.Nullify n) d

      at : (o : Option (Nullify × Option Certificate)) → marks_of (option_map_or (λ n. with_certificate n.1 (send_vote (votes.Nullify n.0) d)) o d).calls ≡ marks_of d.calls
      at None = refl
      at (Some n) = along n.0 n.1

  notarization_shape : (d : Doing) → marks_of (publish_notarization made view d).calls ≡ marks_of d.calls
  unfolding publish_notarization
  notarization_shape d = at (unsent_notarization d.desk.known view)
    where
      at : (o : Option Notarization) → marks_of (option_map_or (λ n. report (activities.Notarization n) (send_certificate (certificates.Notarization n) (tell made (state.BroadcastNotarization view) d))) o (tell made (state.BroadcastNotarization view) d)).calls ≡ marks_of d.calls
      at None = refl
      at (Some n) = marks_still (send_certificate (certificates.Notarization n) d).calls _ refl ∙ certificate_shape (certificates.Notarization n) d

  nullification_shape : (d : Doing) → marks_of (publish_nullification made view d).calls ≡ marks_of d.calls
  unfolding publish_nullification
  nullification_shape d = at (unsent_nullification d.desk.known view)
    where
      at : (o : Option Nullification) → marks_of (option_map_or (λ n. report (activities.Nullification n) (send_certificate (certificates.Nullification n) (tell made (state.BroadcastNullification view) d))) o (tell made (state.BroadcastNullification view) d)).calls ≡ marks_of d.calls
      at None = refl
      at (Some n) = marks_still (send_certificate (certificates.Nullification n) d).calls _ refl ∙ certificate_shape (certificates.Nullification n) d

  finalization_shape : (d : Doing) → marks_of (publish_finalization made view d).calls ≡ marks_of d.calls
  unfolding publish_finalization
  finalization_shape d = at (unsent_finalization d.desk.known view)
    where
      at : (o : Option Finalization) → marks_of (option_map_or (λ f. report (activities.Finalization f) (send_certificate (certificates.Finalization f) (tell made (state.BroadcastFinalization view) d))) o (tell made (state.BroadcastFinalization view) d)).calls ≡ marks_of d.calls
      at None = refl
      at (Some n) = marks_still (send_certificate (certificates.Finalization n) d).calls _ refl ∙ certificate_shape (certificates.Finalization n) d

  sent_shape : {A : Type 0} (kind : A → Vote) (o : Option A) (d : Doing) → marks_of (option_map_or (λ a. send_vote (kind a) d) o d).calls ≡ marks_of d.calls
  sent_shape kind None d = refl
  sent_shape kind (Some a) d = vote_shape (kind a) d

  update_shape : (before : ℕ) (d : Doing) → marks_of (update_batcher made before d).calls ≡ marks_of d.calls
  unfolding update_batcher
  update_shape before d = at (nat_lt before (current_of made d.desk.known))
    where
      at : (b : Bool) → marks_of (if b then hand (update_message made d.desk.known (forwardable_at d.desk.known (current_of made d.desk.known - 1))) d else d).calls ≡ marks_of d.calls
      at true = refl
      at false = refl

  -- ---- the end on a view

  asked_same : (now : ℕ) (d : Doing) → ((open_requests made now d).calls ≡ d.calls) × ((open_requests made now d).wrote ≡ d.wrote)
  unfolding open_requests
  asked_same now d = (refl, refl)

  end_shape : (now before : ℕ) (d : Doing) → (let rs = map vote_record (votes_on made d.desk.known view) in marks_of (end_of_step made now before view d).calls ≡ marks_of d.calls ++ map mark_of rs ++ synced (d.wrote || is_any rs))
  unfolding end_of_step
  end_shape now before d =
      let rs = map vote_record (votes_on made d.desk.known view) in
      let notarize = notarize_at made d.desk.known view in
      let voted = vote_notarize made view d in
      let finalize = finalize_at made voted.desk.known view in
      let both = vote_finalize made view voted in
      let asked = open_requests made now both in
      let opened = sync view asked in
      let judged = publish_verdict opened in
      let nullified = publish_nullify judged in
      let sent = option_map_or (λ n. send_vote (votes.Notarize n) nullified) notarize nullified in
      let notarized = publish_notarization made view sent in
      let given_up = publish_nullification made view notarized in
      let last = option_map_or (λ f. send_vote (votes.Finalize f) given_up) finalize given_up in
      let final = publish_finalization made view last in
      let appended = votes_appended d in
      update_shape before final ∙ finalization_shape last ∙ sent_shape votes.Finalize finalize given_up ∙ nullification_shape notarized ∙ notarization_shape sent
      ∙ sent_shape votes.Notarize notarize nullified ∙ nullify_shape judged ∙ verdict_shape opened ∙ sync_shape asked
      ∙ ap (λ (cs : List Call). marks_of cs ++ synced asked.wrote) (asked_same now both).0
      ∙ ap (λ b. marks_of both.calls ++ synced b) ((asked_same now both).1 ∙ appended.wrote)
      ∙ ap (λ xs. xs ++ synced (d.wrote || is_any rs)) appended.shape

-- ---- a step

pub begin_shape : (made : Made) (now : ℕ) (d : Doing) → marks_of (begin_iteration made now d).calls ≡ marks_of d.calls ++ pruned_at (prune_answer made (iterated made now d.desk).known)
unfolding begin_iteration prune
begin_shape made now d = at (prune_answer made (iterated made now d.desk).known)
  where
    at : (o : Option ℕ) → marks_of (prune_at o (tell made state.Prune (seek (record d { desk = iterated made now d.desk })))).calls ≡ marks_of d.calls ++ pruned_at o
    at None = sym (append-nil (marks_of d.calls))
    at (Some least) = marks-append d.calls (calls.Prune least ∷ [])

-- what is pruned is told by the least active views before and behind
same_prune : (made : Made) (known before after : List Fact) → greatest_of pruned_view known ≡ least_active made before → least_active made known ≡ least_active made after
    → pruned_at (prune_answer made known) ≡ marks_of (prunes_of made before after)
unfolding prune_answer
same_prune made known before after low high =
    ap (λ n. pruned_at (if nat_lt n (least_active made known) then Some (least_active made known) else None)) low
    ∙ ap (λ n. pruned_at (if nat_lt (least_active made before) n then Some n else None)) high
    ∙ prunes_shape (least_active made before) (least_active made after)

module _ (made : Made) (now : ℕ) (s : Standing) (input : VoterInput) (taking : Taking) (takes : Takes s input taking) (low : greatest_of pruned_view s.desk.known ≡ least_active made s.desk.known) where
  abbrev known : List Fact
  known = s.desk.known

  abbrev behind : List Fact
  behind = known_then made now known taking

  -- the calls by the rules
  pub ruled_shape : marks_of (journal_calls made now known taking)
      ≡ map mark_of (records_made made now known taking) ++ synced (is_any (records_made made now known taking)) ++ marks_of (prunes_of made known behind)
  unfolding journal_calls
  ruled_shape =
      let rs = records_made made now known taking in
      marks-append (map append_of rs ++ syncs_of rs) (prunes_of made known behind)
      ∙ ap (λ xs. xs ++ marks_of (prunes_of made known behind))
      (marks-append (map append_of rs) (syncs_of rs) ∙ ap (λ xs. xs ++ marks_of (syncs_of rs)) (appends_shape rs) ∙ ap (λ xs. map mark_of rs ++ xs) (syncs_shape rs))

  module _ (outcome : Doing × Option ℕ) (e : voter.acted made now s input ≡ Some outcome) where
    w : WritesAs made known taking outcome
    w = writes made now s input taking outcome takes e

    a : ActsAs made now known taking outcome
    a = acts made now s input taking outcome takes e

    knows : AreAlike behind outcome.0.desk.known
    knows = subst (λ (cs : List Certificate). AreAlike (newly_known made known taking ++ acted made now known cs taking) outcome.0.desk.known) w.added a.knows

    active : (d : Doing) → additions d.desk.known ≡ additions outcome.0.desk.known → least_active made (iterated made now d.desk).known ≡ least_active made behind
    unfolding least_active
    active d same =
        ap (λ n. n - made.retention) (finalized_by (iterated made now d.desk).known outcome.0.desk.known ((iterated_same made now d.desk).adds ∙ same))
        ∙ sym (same_active behind outcome.0.desk.known knows made)

    -- a step that ends on a view
    on_view : (d : Doing) (view : ℕ) → outcome ≡ (d, Some view) → marks_of (journal_calls made now known taking) ≡ marks_of (finished made now (current_of made known) outcome).calls
    unfolding finished
    on_view d view f =
        let before = current_of made known in
        let vs = map vote_record (votes_on made behind view) in
        let mine = map vote_record (votes_on made d.desk.known view) in
        let rs = records_taken made known taking in
        let all : records_made made now known taking ≡ rs ++ vs = ap (λ o. rs ++ map vote_record (votes_then made behind o)) (sym a.touches ∙ ap (λ (o : Doing × Option ℕ). o.1) f) in
        let same : vs ≡ mine = ap (map vote_record) (same_votes_then made behind outcome.0.desk.known knows (Some view) ∙ ap (λ (o : Doing × Option ℕ). votes_on made o.0.desk.known view) f) in
        let last = end_of_step made now before view d in
        let acted_shape : marks_of d.calls ≡ map mark_of rs = ap (λ (o : Doing × Option ℕ). marks_of o.0.calls) (sym f) ∙ w.shape in
        let acted_wrote : d.wrote ≡ is_any rs = ap (λ (o : Doing × Option ℕ). o.0.wrote) (sym f) ∙ w.wrote in
        let pruned : pruned_at (prune_answer made (iterated made now last.desk).known) ≡ marks_of (prunes_of made known behind) =
        same_prune made (iterated made now last.desk).known known behind
        (ap (λ (o : Doing × Option ℕ). greatest_of pruned_view (iterated made now (ended made now before o).desk).known) (sym f) ∙ prune_stands made now s input outcome e ∙ low)
        (active last ((ends_later made now before view d).certificates ∙ ap (λ (o : Doing × Option ℕ). additions o.0.desk.known) (sym f))) in
        ruled_shape
        ∙ ap (λ (xs : List Artifact). map mark_of xs ++ synced (is_any xs) ++ marks_of (prunes_of made known behind)) (all ∙ ap (λ xs. rs ++ xs) same)
        ∙ ap (λ xs. xs ++ synced (is_any (rs ++ mine)) ++ marks_of (prunes_of made known behind)) (map-append mark_of rs mine ∙ ap (λ xs. xs ++ map mark_of mine) (sym acted_shape))
        ∙ ap (λ b. marks_of d.calls ++ map mark_of mine ++ synced b ++ marks_of (prunes_of made known behind)) (any-append rs mine ∙ ap (λ b. b || is_any mine) (sym acted_wrote))
        ∙ ap (λ xs. xs ++ marks_of (prunes_of made known behind)) (sym (end_shape made view now before d))
        ∙ ap (λ xs. marks_of last.calls ++ xs) (sym pruned)
        ∙ sym (begin_shape made now last)
        ∙ ap (λ (o : Doing × Option ℕ). marks_of (begin_iteration made now (ended made now before o)).calls) (sym f)

    -- and one that ends where it acted
    on_none : (d : Doing) → outcome ≡ (d, None) → marks_of (journal_calls made now known taking) ≡ marks_of (finished made now (current_of made known) outcome).calls
    unfolding finished
    on_none d f =
        let before = current_of made known in
        let rs = records_taken made known taking in
        let empty : rs ≡ [] = w.ends (ap (λ (o : Doing × Option ℕ). o.1) f) in
        let all : records_made made now known taking ≡ [] =
        ap (λ o. rs ++ map vote_record (votes_then made behind o)) (sym a.touches ∙ ap (λ (o : Doing × Option ℕ). o.1) f) ∙ append-nil rs ∙ empty in
        let acted_shape : marks_of d.calls ≡ [] = ap (λ (o : Doing × Option ℕ). marks_of o.0.calls) (sym f) ∙ w.shape ∙ ap (map mark_of) empty in
        let pruned : pruned_at (prune_answer made (iterated made now d.desk).known) ≡ marks_of (prunes_of made known behind) =
        same_prune made (iterated made now d.desk).known known behind
        (ap (λ (o : Doing × Option ℕ). greatest_of pruned_view (iterated made now (ended made now before o).desk).known) (sym f) ∙ prune_stands made now s input outcome e ∙ low)
        (active d (ap (λ (o : Doing × Option ℕ). additions o.0.desk.known) (sym f))) in
        ruled_shape
        ∙ ap (λ (xs : List Artifact). map mark_of xs ++ synced (is_any xs) ++ marks_of (prunes_of made known behind)) all
        ∙ ap (λ xs. xs ++ marks_of (prunes_of made known behind)) (sym acted_shape)
        ∙ ap (λ xs. marks_of d.calls ++ xs) (sym pruned)
        ∙ sym (begin_shape made now d)
        ∙ ap (λ (o : Doing × Option ℕ). marks_of (begin_iteration made now (ended made now before o)).calls) (sym f)

    outcome_shape : marks_of (journal_calls made now known taking) ≡ marks_of (finished made now (current_of made known) outcome).calls
    outcome_shape = at outcome refl
      where
        at : (o : Doing × Option ℕ) → outcome ≡ o → marks_of (journal_calls made now known taking) ≡ marks_of (finished made now (current_of made known) outcome).calls
        at (d, Some view) f = on_view d view f
        at (d, None) f = on_none d f

  pub own_shape : (d : Doing) → stepped made now s input ≡ Some d → marks_of (journal_calls made now known taking) ≡ marks_of d.calls
  unfolding stepped
  own_shape d h = at (voter.acted made now s input) refl h
    where
      at : (o : Option (Doing × Option ℕ)) → voter.acted made now s input ≡ o → option_map (finished made now (current_of made s.desk.known)) o ≡ Some d → marks_of (journal_calls made now known taking) ≡ marks_of d.calls
      at None f k = cc
      at (Some outcome) f k = outcome_shape outcome f ∙ ap (λ (x : Doing). marks_of x.calls) (some_is _ d k)

  -- also where what is known is read otherwise
  pub same_shape : (r : List Fact) (d : Doing) → AreAlike r known → stepped made now s input ≡ Some d → shape_of (journal_calls made now r taking) ≡ shape_of d.calls
  same_shape r d alike h =
      shape_told (journal_calls made now r taking) ∙ ap (λ (cs : List Call). map prune_of (marks_of cs)) (same_journal_calls made now r known alike taking)
      ∙ ap (map prune_of) (own_shape d h) ∙ sym (shape_told d.calls)
