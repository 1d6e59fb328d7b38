-- Each own nullify that a node's journal holds in a run is the one that the setup's rules sign.
use Rattle.std.proofs.Common.{◌≡◌, ℕ, ◌-◌, ◌==◌, ◌&&◌, nat_lt, Bool, true, false, List, [], ◌∷◌, ◌++◌, map, take, Option, Some, None, refl, sym, ◌∙◌, subst, if◌then◌else◌}
use Rattle.std.specs.List.{list_any}
use Rattle.std.specs.Option.{option_map, option_map_or}
use Rattle.simplex_values.specs.declared.answer.Answer.TheVariants as answers
use Rattle.simplex_values.specs.declared.proposal.Subject.{Subject}
use Rattle.simplex_values.specs.declared.proposal.Subject.TheVariants as subjects
use Rattle.simplex_values.specs.declared.round.Round.{Round}
use Rattle.simplex_wire.specs.declared.artifact.Artifact.{Artifact}
use Rattle.simplex_wire.specs.declared.artifact.Artifact.TheVariants as artifacts
use Rattle.simplex_wire.specs.declared.attestation.Attestation.{Attestation}
use Rattle.simplex_wire.specs.declared.certificate.Certificate.{Certificate}
use Rattle.simplex_wire.specs.declared.certificate.Certificate.TheVariants as certificates
use Rattle.simplex_wire.specs.declared.certificate.Notarization.{Notarization}
use Rattle.simplex_wire.specs.declared.vote.Notarize.{Notarize}
use Rattle.simplex_wire.specs.declared.vote.Nullify.{Nullify}
use Rattle.simplex_wire.specs.declared.vote.Finalize.{Finalize}
use Rattle.simplex_wire.specs.declared.vote.Vote.TheVariants as votes
use Rattle.simplex_wire.specs.Fields.{artifact_round}
use Rattle.simplex_types.specs.declared.activity.Activity.{Activity}
use Rattle.simplex_types.specs.declared.activity.Activity.TheVariants as activities
use Rattle.simplex_types.specs.declared.floor.Floor.{Floor}
use Rattle.simplex_types.specs.declared.floor.Floor.TheVariants as floors
use Rattle.simplex_journal.specs.Journal.{Section, appended_section, synced_section, crashed_section, opened_section, appended, synced_at, pruned, pruned_first, crashed}
use Rattle.model_rules.specs.declared.request.Asked.TheVariants as asks
use Rattle.model_rules.specs.Lists.{greatest_of}
use Rattle.model_rules.specs.Known.{Made, Fact, Voted, view_of, has_nullified}
use Rattle.std.proofs.lemmas.List.{map-append}
use Rattle.simplex_messages.specs.declared.voter.VoterInput.{VoterInput}
use Rattle.model_rules.specs.Views.{current_of, least_active}
use Rattle.model_rules.specs.Votes.{notarize_at, nullify_at, finalize_at, signed_nullify}
use Rattle.model_rules.specs.Calls as state
use Rattle.model_rules.specs.Calls.{takes_verdict, certified_answer, replay_answer, pruned_view, prune_answer}
use Rattle.model_rules.specs.Pending.{iterated}
use Rattle.simplex_messages.specs.declared.call.Call.{Call}
use Rattle.simplex_messages.specs.declared.call.Call.TheVariants as calls
use Rattle.simplex_messages.specs.declared.handed.Handed.TheVariants as handed
use Rattle.simplex_messages.specs.declared.resolver.MailboxMessage.TheVariants as resolver
use Rattle.simplex_messages.specs.declared.step.Stop.{Stop}
use Rattle.simplex_messages.specs.declared.step.Stop.TheVariants as stops
use Rattle.simplex_messages.specs.declared.voter.Message.TheVariants as mail
use Rattle.model_steps.specs.Desk.{Doing, begun, tell, make, hand, append, seek}
use Rattle.model_steps.specs.Performed.{performed, stop_place, kept_by, whole, broken, after_calls, after_failing, failing_at}
use Rattle.model_steps.specs.Voter.{Standing, stepped, adds, block_for, activity_of, certificate_in, report_if, updated_if, replay_verdict, replay_record, floor_view, replay_all, stand_on, is_final_from, keep_floor, blank_desk, update_message, prune_at, prune, begin_iteration, started}
use Rattle.model_steps.specs.VoterLife.{start_performed, unread}
use Rattle.law_member.specs.VoterVotes.{votes_of, votes_on}
use Rattle.law_run.specs.Sayings.{Each}
use Rattle.law_run.proofs.Speaking.{Each-append}
use Rattle.law_run.proofs.Telling.{Each-take}
use Rattle.model_audit.specs.Taking.{Taking, Deadline, Mail, Reply, touched, votes_then, given_up}
use Rattle.model_audit.specs.JournalCalls.{vote_record, records_taken, known_then, records_made, prunes_of}
use Rattle.model_steps.specs.Voter as voter
use Rattle.law_audit.specs.Taken.{Takes}
use Rattle.law_audit.proofs.Writing.{Mark, Written, mark_of, marks_of, is_any}
use Rattle.law_audit.proofs.Ending.{synced, own_shape, ruled_shape}

-- the nullify is the one that the scheme signs of its round
abbrev pub IsSignedMark : (Subject → Option Attestation) → Mark → Type 0
IsSignedMark signs (Written (Some v)) = signs (subjects.Nullify v.round) ≡ Some v.attestation
IsSignedMark signs _ = Unit {0}

abbrev pub IsSignedRecord : (Subject → Option Attestation) → Artifact → Type 0
IsSignedRecord signs a = IsSignedMark signs (mark_of a)

abbrev pub IsSignedCall : (Subject → Option Attestation) → Call → Type 0
IsSignedCall signs (calls.Append section a) = IsSignedRecord signs a
IsSignedCall signs _ = Unit {0}

-- so are all that the sections hold
abbrev pub AreSigned : (Subject → Option Attestation) → List Section → Type 0
AreSigned signs [] = Unit {0}
AreSigned signs (s ∷ rest) = (Each (IsSignedRecord signs) s.synced × Each (IsSignedRecord signs) s.pending) × AreSigned signs rest

module _ (signs : Subject → Option Attestation) where
  abbrev R : Artifact → Type 0
  R = IsSignedRecord signs

  abbrev S : List Section → Type 0
  S = AreSigned signs

  -- ---- what the calls of the journal keep

  signed_appended : (n : ℕ) (a : Artifact) (js : List Section) → R a → S js → S (appended n a js)
  unfolding appended opened_section appended_section
  signed_appended n a [] h k = ((tt, (h, tt)), tt)
  signed_appended n a (s ∷ rest) h k = at (nat_lt n s.number) (n == s.number) (signed_appended n a rest h k.1)
    where
      at : (b c : Bool) → S (appended n a rest) → S (if b then opened_section n a ∷ s ∷ rest else (if c then appended_section a s ∷ rest else s ∷ appended n a rest))
      at true c later = ((tt, (h, tt)), k)
      at false true later = ((k.0.0, Each-append R s.pending (a ∷ []) k.0.1 (h, tt)), k.1)
      at false false later = (k.0, later)

  signed_synced : (n : ℕ) (js : List Section) → S js → S (synced_at n js)
  unfolding synced_at synced_section
  signed_synced n [] k = tt
  signed_synced n (s ∷ rest) k = at (n == s.number) (signed_synced n rest k.1)
    where
      at : (b : Bool) → S (synced_at n rest) → S (if b then synced_section s ∷ rest else s ∷ synced_at n rest)
      at true later = ((Each-append R s.synced s.pending k.0.0 k.0.1, tt), k.1)
      at false later = (k.0, later)

  signed_pruned : (least : ℕ) (js : List Section) → S js → S (pruned least js)
  unfolding pruned
  signed_pruned least [] k = tt
  signed_pruned least (s ∷ rest) k = at (nat_lt s.number least) (signed_pruned least rest k.1)
    where
      at : (b : Bool) → S (pruned least rest) → S (if b then pruned least rest else s ∷ pruned least rest)
      at true later = later
      at false later = (k.0, later)

  signed_pruned_first : (count least : ℕ) (js : List Section) → S js → S (pruned_first count least js)
  unfolding pruned_first
  signed_pruned_first count least [] k = tt
  signed_pruned_first count least (s ∷ rest) k =
      at (nat_lt 0 count && nat_lt s.number least) (signed_pruned_first (count - 1) least rest k.1) (signed_pruned_first count least rest k.1)
    where
      at : (b : Bool) → S (pruned_first (count - 1) least rest) → S (pruned_first count least rest) → S (if b then pruned_first (count - 1) least rest else s ∷ pruned_first count least rest)
      at true fewer all = fewer
      at false fewer all = (k.0, all)

  pub signed_crashed : (keep : ℕ) (js : List Section) → S js → S (crashed keep js)
  unfolding crashed crashed_section
  signed_crashed keep [] k = tt
  signed_crashed keep (s ∷ rest) k = ((Each-append R s.synced (take keep s.pending) k.0.0 (Each-take R keep s.pending k.0.1), tt), signed_crashed keep rest k.1)

  signed_after : (cs : List Call) (js : List Section) → Each (IsSignedCall signs) cs → S js → S (after_calls cs js)
  unfolding after_calls
  signed_after [] js h k = k
  signed_after (calls.Append n a ∷ cs) js h k = signed_after cs (appended n a js) h.1 (signed_appended n a js h.0 k)
  signed_after (calls.Sync n ∷ cs) js h k = signed_after cs (synced_at n js) h.1 (signed_synced n js k)
  signed_after (calls.Prune least ∷ cs) js h k = signed_after cs (pruned least js) h.1 (signed_pruned least js k)
  signed_after (calls.Send channel to bytes ∷ cs) js h k = signed_after cs js h.1 k
  signed_after (calls.Report a ∷ cs) js h k = signed_after cs js h.1 k
  signed_after (calls.Relay payload plan ∷ cs) js h k = signed_after cs js h.1 k
  signed_after (calls.Block who why ∷ cs) js h k = signed_after cs js h.1 k

  signed_fails : (stop : Stop) (c : Call) (js : List Section) → S js → S (after_failing stop c js)
  signed_fails (stops.Fail call keep) (calls.Prune least) js k = signed_pruned_first keep least js k
  signed_fails (stops.Fail call keep) (calls.Append n a) js k = k
  signed_fails (stops.Fail call keep) (calls.Sync n) js k = k
  signed_fails (stops.Fail call keep) (calls.Send channel to bytes) js k = k
  signed_fails (stops.Fail call keep) (calls.Report a) js k = k
  signed_fails (stops.Fail call keep) (calls.Relay payload plan) js k = k
  signed_fails (stops.Fail call keep) (calls.Block who why) js k = k
  signed_fails stops.None c js k = k
  signed_fails (stops.Cut call keep) c js k = k

  signed_failing : (stop : Stop) (cs : List Call) (place : ℕ) (js : List Section) → S js → S (failing_at stop cs place js)
  signed_failing stop [] place js k = k
  signed_failing stop (c ∷ cs) place js k = at (place == 0) (signed_failing stop cs (place - 1) js k)
    where
      at : (b : Bool) → S (failing_at stop cs (place - 1) js) → S (if b then after_failing stop c js else failing_at stop cs (place - 1) js)
      at true later = signed_fails stop c js k
      at false later = later

  pub signed_performed : (stop : Stop) (d : Doing) (js : List Section) → Each (IsSignedCall signs) d.calls → S js → S (performed stop d js).sections
  unfolding performed
  signed_performed stop d js h k = at (stop_place stop d.calls)
    where
      at : (o : Option ℕ) → S (option_map_or (broken stop d js) o (whole d js)).sections
      at None = signed_after d.calls js h k
      at (Some place) =
          signed_crashed (kept_by stop) (failing_at stop d.calls place (after_calls (take place d.calls) js))
          (signed_failing stop d.calls place (after_calls (take place d.calls) js) (signed_after (take place d.calls) js (Each-take (IsSignedCall signs) place d.calls h) k))

  pub signed_start : (stop : Stop) (floor : Floor) (d : Doing) (js : List Section) → Each (IsSignedCall signs) d.calls → S js → S (start_performed stop floor d js).sections
  unfolding start_performed
  signed_start stops.None floor d js h k = signed_performed stops.None d js h k
  signed_start (stops.Cut call keep) floor d js h k = signed_performed (stops.Cut call keep) d js h k
  signed_start (stops.Fail call keep) floor d js h k = at (call == 1)
    where
      at : (b : Bool) → S (if b then unread floor d keep js else performed (stops.Fail (call - 1) keep) d js).sections
      at true = signed_crashed keep js k
      at false = signed_performed (stops.Fail (call - 1) keep) d js h k

  -- of what is told of calls
  of_marks : (cs : List Call) → Each (IsSignedMark signs) (marks_of cs) → Each (IsSignedCall signs) cs
  of_marks [] h = tt
  of_marks (calls.Append n a ∷ cs) h = (h.0, of_marks cs h.1)
  of_marks (calls.Sync n ∷ cs) h = (tt, of_marks cs h.1)
  of_marks (calls.Prune least ∷ cs) h = (tt, of_marks cs h.1)
  of_marks (calls.Send channel to bytes ∷ cs) h = (tt, of_marks cs h)
  of_marks (calls.Report a ∷ cs) h = (tt, of_marks cs h)
  of_marks (calls.Relay payload plan ∷ cs) h = (tt, of_marks cs h)
  of_marks (calls.Block who why ∷ cs) h = (tt, of_marks cs h)

-- ---- the rules write signed nullifies

nullify_signed : (signs : Subject → Option Attestation) (round : Round) (o : Option Attestation) → signs (subjects.Nullify round) ≡ o
    → Each (IsSignedRecord signs) (map vote_record (votes_of votes.Nullify (option_map (λ a. let v : Nullify = record { round = round; attestation = a } in v) o)))
nullify_signed signs round None e = tt
nullify_signed signs round (Some a) e = (e, tt)

module _ (made : Made) (now : ℕ) where
  certificates_signed : (c : Certificate) → IsSignedRecord made.signs (voter.record_of c)
  certificates_signed (certificates.Notarization n) = tt
  certificates_signed (certificates.Nullification n) = tt
  certificates_signed (certificates.Finalization f) = tt

  taken_signed : (known : List Fact) (taking : Taking) → Each (IsSignedRecord made.signs) (records_taken made known taking)
  unfolding nullify_at signed_nullify
  taken_signed known Deadline = at (has_nullified known (current_of made known))
    where
      at : (b : Bool) → Each (IsSignedRecord made.signs) (if b then [] else map vote_record (given_up made known Deadline))
      at true = tt
      at false = nullify_signed made.signs (record { epoch = made.epoch; view = current_of made known }) (made.signs (subjects.Nullify (record { epoch = made.epoch; view = current_of made known }))) refl
  taken_signed known (Mail (mail.Proposal proposal)) = tt
  taken_signed known (Mail (mail.Timeout round reason)) = tt
  taken_signed known (Mail (mail.Verified c)) = at (adds made known c)
    where
      at : (b : Bool) → Each (IsSignedRecord made.signs) (map voter.record_of (if b then c ∷ [] else []))
      at true = (certificates_signed c, tt)
      at false = tt
  taken_signed known (Reply (asks.Prepare context) answer) = tt
  taken_signed known (Reply (asks.Propose context) answer) = tt
  taken_signed known (Reply (asks.Verify context payload) answer) = tt
  taken_signed known (Reply (asks.Certify round payload) (answers.Verdict good)) = at (takes_verdict known round.view)
    where
      at : (b : Bool) → Each (IsSignedRecord made.signs) (if b then artifacts.Certification round good ∷ [] else [])
      at true = (tt, tt)
      at false = tt
  taken_signed known (Reply (asks.Certify round payload) (answers.Payload p)) = tt
  taken_signed known (Reply (asks.Certify round payload) (answers.Handoff decision)) = tt
  taken_signed known (Reply (asks.Certify round payload) answers.Closed) = tt

  notarizes_signed : (o : Option Notarize) → Each (IsSignedRecord made.signs) (map vote_record (votes_of votes.Notarize o))
  notarizes_signed None = tt
  notarizes_signed (Some v) = (tt, tt)

  finalizes_signed : (o : Option Finalize) → Each (IsSignedRecord made.signs) (map vote_record (votes_of votes.Finalize o))
  finalizes_signed None = tt
  finalizes_signed (Some v) = (tt, tt)

  votes_signed : (known : List Fact) (o : Option ℕ) → Each (IsSignedRecord made.signs) (map vote_record (votes_then made known o))
  unfolding votes_on
  votes_signed known None = tt
  votes_signed known (Some view) =
      let ns = votes_of votes.Notarize (notarize_at made known view) in
      let fs = votes_of votes.Finalize (finalize_at made (map Voted ns ++ known) view) in
      subst (Each (IsSignedRecord made.signs)) (sym (map-append vote_record ns fs))
      (Each-append (IsSignedRecord made.signs) (map vote_record ns) (map vote_record fs) (notarizes_signed (notarize_at made known view)) (finalizes_signed (finalize_at made (map Voted ns ++ known) view)))

  marks_signed : (rs : List Artifact) → Each (IsSignedRecord made.signs) rs → Each (IsSignedMark made.signs) (map mark_of rs)
  marks_signed [] h = tt
  marks_signed (r ∷ rs) h = (h.0, marks_signed rs h.1)

  synced_signed : (b : Bool) → Each (IsSignedMark made.signs) (synced b)
  synced_signed true = (tt, tt)
  synced_signed false = tt

  prunes_signed : (before after : List Fact) → Each (IsSignedMark made.signs) (marks_of (prunes_of made before after))
  prunes_signed before after = at (nat_lt (least_active made before) (least_active made after))
    where
      at : (b : Bool) → Each (IsSignedMark made.signs) (marks_of (if b then calls.Prune (least_active made after) ∷ [] else []))
      at true = (tt, tt)
      at false = tt

  -- a step writes no other
  pub step_signed : (s : Standing) (input : VoterInput) (taking : Taking) (takes : Takes s input taking) (low : greatest_of pruned_view s.desk.known ≡ least_active made s.desk.known) (d : Doing) → stepped made now s input ≡ Some d
      → Each (IsSignedCall made.signs) d.calls
  step_signed s input taking takes low d e =
      let rs = records_made made now s.desk.known taking in
      let behind = known_then made now s.desk.known taking in
      of_marks made.signs d.calls
      (subst (Each (IsSignedMark made.signs)) (sym (ruled_shape made now s input taking takes low) ∙ own_shape made now s input taking takes low d e)
      (Each-append (IsSignedMark made.signs) (map mark_of rs ++ synced (is_any rs)) (marks_of (prunes_of made s.desk.known behind))
      (Each-append (IsSignedMark made.signs) (map mark_of rs) (synced (is_any rs))
      (marks_signed rs (Each-append (IsSignedRecord made.signs) (records_taken made s.desk.known taking) (map vote_record (votes_then made behind (touched made s.desk.known taking))) (taken_signed s.desk.known taking) (votes_signed behind (touched made s.desk.known taking))))
      (synced_signed (is_any rs)))
      (prunes_signed s.desk.known behind)))

-- ---- a start writes none

module _ (signs : Subject → Option Attestation) where
  abbrev Q : Doing → Type 0
  Q d = Each (IsSignedCall signs) d.calls

  more : (cs : List Call) (c : Call) → IsSignedCall signs c → Each (IsSignedCall signs) cs → Each (IsSignedCall signs) (cs ++ c ∷ [])
  more cs c h k = Each-append (IsSignedCall signs) cs (c ∷ []) k (h, tt)

  start_blocked : (o : Option ℕ) (d : Doing) → Q d → Q (block_for o d)
  start_blocked None d h = h
  start_blocked (Some leader) d h = more d.calls _ tt h

  start_reported : (o : Option Activity) (d : Doing) → Q d → Q (report_if o d)
  start_reported None d h = h
  start_reported (Some a) d h = more d.calls (calls.Report a) tt h

  start_updated : (o : Option Certificate) (d : Doing) → Q d → Q (updated_if o d)
  start_updated None d h = h
  start_updated (Some c) d h = h

  start_verdict : (good : Bool) (o : Option Notarization) (d : Doing) → Q d → Q (replay_verdict good o d)
  start_verdict good None d h = h
  start_verdict true (Some n) d h = more d.calls (calls.Report (activities.Certification n)) tt h
  start_verdict false (Some n) d h = h

  start_plain : (made : Made) (now : ℕ) (d : Doing) (r : Artifact) → Q d → Q (updated_if (certificate_in r) (report_if (activity_of r) (block_for (replay_answer made d.desk.known r) (tell made (state.Replay r now) d))))
  start_plain made now d r h =
      let told = tell made (state.Replay r now) d in
      let blocked = block_for (replay_answer made d.desk.known r) told in
      start_updated (certificate_in r) (report_if (activity_of r) blocked) (start_reported (activity_of r) blocked (start_blocked (replay_answer made d.desk.known r) told h))

  start_replay : (made : Made) (now : ℕ) (d : Doing) (r : Artifact) → Q d → Q (replay_record made now d r)
  unfolding replay_record
  start_replay made now d (artifacts.Certification r good) h = start_verdict good (certified_answer d.desk.known r.view) (tell made (state.Replay (artifacts.Certification r good) now) d) h
  start_replay made now d (artifacts.Notarize v) h = start_plain made now d (artifacts.Notarize v) h
  start_replay made now d (artifacts.Nullify v) h = start_plain made now d (artifacts.Nullify v) h
  start_replay made now d (artifacts.Finalize v) h = start_plain made now d (artifacts.Finalize v) h
  start_replay made now d (artifacts.Notarization v) h = start_plain made now d (artifacts.Notarization v) h
  start_replay made now d (artifacts.Nullification v) h = start_plain made now d (artifacts.Nullification v) h
  start_replay made now d (artifacts.Finalization v) h = start_plain made now d (artifacts.Finalization v) h

  start_records : (made : Made) (now floor : ℕ) (d : Doing) (rs : List Artifact) → Q d → Q (replay_all made now floor d rs)
  unfolding replay_all
  start_records made now floor d [] h = h
  start_records made now floor d (r ∷ rest) h =
      start_records made now floor (if nat_lt floor (artifact_round r).view then replay_record made now d r else d) rest (at (nat_lt floor (artifact_round r).view))
    where
      at : (b : Bool) → Q (if b then replay_record made now d r else d)
      at true = start_replay made now d r h
      at false = h

  start_kept : (floor : Floor) (records : List Artifact) (d : Doing) → Q d → Q (keep_floor floor records d)
  start_kept (floors.Genesis payload) records d h = h
  start_kept (floors.Finalized f) records d h = at (list_any (is_final_from (view_of f.proposal)) records)
    where
      at : (b : Bool) → Q (if b then d else make (calls.Sync (view_of f.proposal)) (append (artifacts.Finalization f) d))
      at true = h
      at false =
          more (d.calls ++ calls.Append (artifact_round (artifacts.Finalization f)).view (artifacts.Finalization f) ∷ []) (calls.Sync (view_of f.proposal)) tt
          (more d.calls (calls.Append (artifact_round (artifacts.Finalization f)).view (artifacts.Finalization f)) tt h)

  start_iteration : (made : Made) (now : ℕ) (d : Doing) → Q d → Q (begin_iteration made now d)
  unfolding begin_iteration prune
  start_iteration made now d h = at (seek (record d { desk = iterated made now d.desk })) h (prune_answer made (iterated made now d.desk).known)
    where
      at : (b : Doing) → Q b → (o : Option ℕ) → Q (prune_at o (tell made state.Prune b))
      at b k None = k
      at b k (Some least) = more b.calls (calls.Prune least) tt k

  start_stand : (made : Made) (now : ℕ) (floor : Floor) → Q (stand_on made now floor (begun blank_desk))
  start_stand made now (floors.Genesis payload) = tt
  start_stand made now (floors.Finalized f) = (tt, tt)

  pub started_signed : (made : Made) (now : ℕ) (floor : Floor) (records : List Artifact) → Q (started made now floor records)
  unfolding started
  started_signed made now floor records =
      let stood = stand_on made now floor (begun blank_desk) in
      let read = replay_all made now (floor_view floor) stood records in
      let replayed = hand (handed.Resolver resolver.Replayed) read in
      let kept = keep_floor floor records replayed in
      start_iteration made now (hand (update_message made kept.desk.known None) kept) (start_kept floor records replayed (start_records made now (floor_view floor) stood records (start_stand made now floor)))
