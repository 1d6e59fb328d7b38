-- The journal behind a start is read from its entry.
use Rattle.std.proofs.Common.{◌≡◌, ℕ, ◌-◌, ◌==◌, nat_lt, Bool, true, false, List, [], ◌∷◌, ◌++◌, take, Option, Some, None, refl, ap, ◌∙◌, eqb-true, if◌then◌else◌}
use Rattle.std.specs.List.{list_any}
use Rattle.simplex_wire.specs.declared.artifact.Artifact.{Artifact}
use Rattle.simplex_wire.specs.declared.artifact.Artifact.TheVariants as artifacts
use Rattle.simplex_wire.specs.declared.certificate.Certificate.{Certificate}
use Rattle.simplex_wire.specs.declared.certificate.Notarization.{Notarization}
use Rattle.simplex_wire.specs.declared.certificate.Finalization.{Finalization}
use Rattle.simplex_wire.specs.Fields.{artifact_round}
use Rattle.simplex_types.specs.declared.activity.Activity.{Activity}
use Rattle.simplex_types.specs.declared.activity.Activity.TheVariants as activities
use Rattle.simplex_types.specs.declared.cause.BlockCause.TheVariants.{LeaderConflict}
use Rattle.simplex_types.specs.declared.floor.Floor.{Floor}
use Rattle.simplex_types.specs.declared.floor.Floor.TheVariants as floors
use Rattle.model_rules.specs.Known.{Made, view_of}
use Rattle.model_rules.specs.Calls as state
use Rattle.model_rules.specs.Calls.{replay_answer, certified_answer, prune_answer}
use Rattle.model_rules.specs.Pending.{iterated}
use Rattle.simplex_journal.specs.Journal.{Section, crashed}
use Rattle.simplex_messages.specs.declared.call.Call.{Call}
use Rattle.simplex_messages.specs.declared.call.Call.TheVariants as calls
use Rattle.simplex_messages.specs.declared.handed.Handed.TheVariants as handed
use Rattle.simplex_messages.specs.declared.resolver.MailboxMessage.TheVariants as resolver
use Rattle.simplex_messages.specs.declared.step.Stop.{Stop}
use Rattle.simplex_messages.specs.declared.step.Stop.TheVariants as stops
use Rattle.model_steps.specs.Desk.{Doing, begun, tell, make, hand, append, seek}
use Rattle.model_steps.specs.Performed.{stop_place, after_calls, performed}
use Rattle.model_steps.specs.Voter.{block_for, report_if, updated_if, activity_of, certificate_in, replay_verdict, replay_record, replay_all, floor_view, stand_on, is_final_from, keep_floor, update_message, blank_desk, prune_at, prune, begin_iteration, started}
use Rattle.model_steps.specs.VoterLife.{before_reading, unread, start_performed}
use Rattle.model_audit.specs.Journal.{behind_reading, after_failure, sections_behind}
use Rattle.law_audit.proofs.Journals.{told, same_journal, journal_is_read}

-- ---- the first call of a start stays the first

module _ (x : Call) where
  abbrev IsFirst : List Call → Type 0
  IsFirst cs = (rest : List Call) × (cs ≡ x ∷ rest)

  first_more : (cs : List Call) (c : Call) → IsFirst cs → IsFirst (cs ++ c ∷ [])
  first_more cs c h = (h.0 ++ c ∷ [], ap (λ ys. ys ++ c ∷ []) h.1)

  first_blocked : (o : Option ℕ) (d : Doing) → IsFirst d.calls → IsFirst (block_for o d).calls
  first_blocked None d h = h
  first_blocked (Some leader) d h = first_more d.calls (calls.Block leader LeaderConflict) h

  first_reported : (o : Option Activity) (d : Doing) → IsFirst d.calls → IsFirst (report_if o d).calls
  first_reported None d h = h
  first_reported (Some a) d h = first_more d.calls (calls.Report a) h

  first_updated : (o : Option Certificate) (d : Doing) → IsFirst d.calls → IsFirst (updated_if o d).calls
  first_updated None d h = h
  first_updated (Some c) d h = h

  first_verdict : (good : Bool) (o : Option Notarization) (d : Doing) → IsFirst d.calls → IsFirst (replay_verdict good o d).calls
  first_verdict good None d h = h
  first_verdict true (Some n) d h = first_more d.calls (calls.Report (activities.Certification n)) h
  first_verdict false (Some n) d h = h

  first_plain : (made : Made) (now : ℕ) (d : Doing) (r : Artifact) → IsFirst d.calls
      → IsFirst (updated_if (certificate_in r) (report_if (activity_of r) (block_for (replay_answer made d.desk.known r) (tell made (state.Replay r now) d)))).calls
  first_plain made now d r h =
      let told = tell made (state.Replay r now) d in
      let blocked = block_for (replay_answer made d.desk.known r) told in
      first_updated (certificate_in r) (report_if (activity_of r) blocked) (first_reported (activity_of r) blocked (first_blocked (replay_answer made d.desk.known r) told h))

  first_replay : (made : Made) (now : ℕ) (d : Doing) (r : Artifact) → IsFirst d.calls → IsFirst (replay_record made now d r).calls
  unfolding replay_record
  first_replay made now d (artifacts.Certification r good) h = first_verdict good (certified_answer d.desk.known r.view) (tell made (state.Replay (artifacts.Certification r good) now) d) h
  first_replay made now d (artifacts.Notarize v) h = first_plain made now d (artifacts.Notarize v) h
  first_replay made now d (artifacts.Nullify v) h = first_plain made now d (artifacts.Nullify v) h
  first_replay made now d (artifacts.Finalize v) h = first_plain made now d (artifacts.Finalize v) h
  first_replay made now d (artifacts.Notarization v) h = first_plain made now d (artifacts.Notarization v) h
  first_replay made now d (artifacts.Nullification v) h = first_plain made now d (artifacts.Nullification v) h
  first_replay made now d (artifacts.Finalization v) h = first_plain made now d (artifacts.Finalization v) h

  first_records : (made : Made) (now floor : ℕ) (d : Doing) (rs : List Artifact) → IsFirst d.calls → IsFirst (replay_all made now floor d rs).calls
  unfolding replay_all
  first_records made now floor d [] h = h
  first_records made now floor d (r ∷ rest) h =
      first_records made now floor (if nat_lt floor (artifact_round r).view then replay_record made now d r else d) rest (at (nat_lt floor (artifact_round r).view))
    where
      at : (b : Bool) → IsFirst (if b then replay_record made now d r else d).calls
      at true = first_replay made now d r h
      at false = h

  first_kept : (floor : Floor) (records : List Artifact) (d : Doing) → IsFirst d.calls → IsFirst (keep_floor floor records d).calls
  first_kept (floors.Genesis payload) records d h = h
  first_kept (floors.Finalized f) records d h = at (list_any (is_final_from (view_of f.proposal)) records)
    where
      appended : Call
      appended = calls.Append (artifact_round (artifacts.Finalization f)).view (artifacts.Finalization f)

      at : (b : Bool) → IsFirst (if b then d else make (calls.Sync (view_of f.proposal)) (append (artifacts.Finalization f) d)).calls
      at true = h
      at false = first_more (d.calls ++ appended ∷ []) (calls.Sync (view_of f.proposal)) (first_more d.calls appended h)

  first_iteration : (made : Made) (now : ℕ) (d : Doing) → IsFirst d.calls → IsFirst (begin_iteration made now d).calls
  unfolding begin_iteration prune
  first_iteration made now d h = at (seek (record d { desk = iterated made now d.desk })) h (prune_answer made (iterated made now d.desk).known)
    where
      at : (b : Doing) → IsFirst b.calls → (o : Option ℕ) → IsFirst (prune_at o (tell made state.Prune b)).calls
      at b k None = k
      at b k (Some least) = first_more b.calls (calls.Prune least) k

start_first : (made : Made) (now : ℕ) (f : Finalization) (records : List Artifact) → IsFirst (calls.Report (activities.Finalization f)) (started made now (floors.Finalized f) records).calls
unfolding started
start_first made now f records =
    let x = calls.Report (activities.Finalization f) in
    let floor = floors.Finalized f in
    let read = replay_all made now (floor_view floor) (stand_on made now floor (begun blank_desk)) records in
    let replayed = hand (handed.Resolver resolver.Replayed) read in
    let kept = keep_floor floor records replayed in
    first_iteration x made now (hand (update_message made kept.desk.known None) kept)
    (first_kept x floor records replayed (first_records x made now (floor_view floor) (stand_on made now floor (begun blank_desk)) records ([], refl)))

-- ---- what is made before the journal is read leaves it

before_leaves : (made : Made) (now : ℕ) (floor : Floor) (records : List Artifact) (sections : List Section) → after_calls (take (before_reading floor) (started made now floor records).calls) sections ≡ sections
unfolding after_calls
before_leaves made now (floors.Genesis payload) records sections = refl
before_leaves made now (floors.Finalized f) records sections = (let h = start_first made now f records in ap (λ cs. after_calls (take 1 cs) sections) h.1)

-- no call fails before the first
none_fails : (keep : ℕ) (ruled : List Call) (sections : List Section) → after_failure (stops.Fail 0 keep) ruled sections ≡ sections
unfolding stop_place
none_fails keep ruled sections = refl

pub start_is_read : (made : Made) (now : ℕ) (floor : Floor) (records : List Artifact) (stop : Stop) (sections : List Section)
    → (let doing = started made now floor records in let given = start_performed stop floor doing sections in
    sections_behind given.outcome (behind_reading stop) doing.calls (told given.out.calls) sections ≡ given.sections)
unfolding start_performed sections_behind
start_is_read made now floor records stops.None sections = (let doing = started made now floor records in journal_is_read stops.None doing sections doing.calls refl)
start_is_read made now floor records (stops.Cut call keep) sections = (let doing = started made now floor records in journal_is_read (stops.Cut call keep) doing sections doing.calls refl)
start_is_read made now floor records (stops.Fail call keep) sections = at (call == 1) refl
  where
    at : (b : Bool) → (call == 1) ≡ b
        → (let doing = started made now floor records in let given = if b then unread floor doing keep sections else performed (stops.Fail (call - 1) keep) doing sections in
        sections_behind given.outcome (stops.Fail (call - 1) keep) doing.calls (told given.out.calls) sections ≡ given.sections)
    at true e =
        let doing = started made now floor records in
        let one : call ≡ 1 = eqb-true call 1 e in
        ap (crashed keep)
        (ap (λ n. after_failure (stops.Fail (n - 1) keep) doing.calls (after_calls (told (take (before_reading floor) doing.calls)) sections)) one
        ∙ none_fails keep doing.calls (after_calls (told (take (before_reading floor) doing.calls)) sections)
        ∙ same_journal (take (before_reading floor) doing.calls) sections
        ∙ before_leaves made now floor records sections)
    at false e = (let doing = started made now floor records in journal_is_read (stops.Fail (call - 1) keep) doing sections doing.calls refl)
