-- What a voter reports is no evidence.
use Rattle.simplex_types.specs.declared.cause.BlockCause.TheVariants.{LeaderConflict}
use Rattle.std.proofs.Common.{◌≡◌, ℕ, nat_lt, Bool, true, false, List, [], ◌∷◌, ◌++◌, All, Option, Some, None, refl, if◌then◌else◌}
use Rattle.std.specs.List.{list_any}
use Rattle.std.proofs.lemmas.List.Elements.{All-nil, All-push, All-weaker}
use Rattle.simplex_wire.specs.declared.certificate.Certificate.{Certificate}
use Rattle.simplex_wire.specs.declared.certificate.Notarization.{Notarization}
use Rattle.simplex_wire.specs.declared.artifact.Artifact.{Artifact}
use Rattle.simplex_wire.specs.declared.artifact.Artifact.TheVariants as artifacts
use Rattle.simplex_wire.specs.Fields.{artifact_round}
use Rattle.simplex_types.specs.declared.activity.Activity.{Activity}
use Rattle.simplex_types.specs.declared.activity.Activity.TheVariants as activities
use Rattle.simplex_types.specs.declared.floor.Floor.{Floor}
use Rattle.simplex_types.specs.declared.floor.Floor.TheVariants as floors
use Rattle.simplex_messages.specs.declared.call.Call.{Call}
use Rattle.simplex_messages.specs.declared.call.Call.TheVariants as calls
use Rattle.model_rules.specs.Known.{Made, Fact, view_of}
use Rattle.model_rules.specs.Calls as state
use Rattle.model_rules.specs.Calls.{replay_answer, certified_answer, prune_answer}
use Rattle.model_rules.specs.Pending.{iterated}
use Rattle.model_steps.specs.Desk.{Doing, begun, tell, append, seek}
use Rattle.model_steps.specs.Voter.{activity_of, certificate_in, block_for, report_if, updated_if, replay_verdict, replay_record, replay_all, stand_on, is_final_from, keep_floor, blank_desk, floor_view, sync, prune_at, prune, begin_iteration, started}
use Rattle.law_member.specs.Outgoing.{MayGoOut}
use Rattle.law_member.specs.Evidence.{names, blames, BlameNot}

-- ---- a step

reports_none : (member : ℕ) (known : List Fact) (activity : Activity) → MayGoOut known (calls.Report activity) → names activity member ≡ false
reports_none member known (activities.Notarize v) h = refl
reports_none member known (activities.Notarization c) h = refl
reports_none member known (activities.Certification c) h = refl
reports_none member known (activities.Nullify v) h = refl
reports_none member known (activities.Nullification c) h = refl
reports_none member known (activities.Finalize v) h = refl
reports_none member known (activities.Finalization c) h = refl
reports_none member known (activities.ConflictingNotarize e) h = absurd h
reports_none member known (activities.ConflictingFinalize e) h = absurd h
reports_none member known (activities.NullifyFinalize e) h = absurd h

goes_out : (member : ℕ) (known : List Fact) (call : Call) → MayGoOut known call → blames call member ≡ false
goes_out member known (calls.Report activity) h = reports_none member known activity h
goes_out member known (calls.Append section artifact) h = refl
goes_out member known (calls.Sync section) h = refl
goes_out member known (calls.Prune least) h = refl
goes_out member known (calls.Send channel to bytes) h = refl
goes_out member known (calls.Relay payload plan) h = refl
goes_out member known (calls.Block who why) h = refl

pub added_blame_not : (member : ℕ) (known : List Fact) (made : List Call) → All (MayGoOut known) made → BlameNot member made
added_blame_not member known made h = All-weaker (MayGoOut known) (λ (call : Call). blames call member ≡ false) (goes_out member known) made h

-- ---- a start

module _ (member : ℕ) where
  abbrev Spares : Doing → Type 0
  Spares d = BlameNot member d.calls

  push : (cs : List Call) (c : Call) → blames c member ≡ false → BlameNot member cs → BlameNot member (cs ++ c ∷ [])
  push cs c e h = All-push (λ (call : Call). blames call member ≡ false) cs c h e

  -- a record's own report
  recorded : (artifact : Artifact) (d : Doing) → Spares d → Spares (report_if (activity_of artifact) d)
  recorded (artifacts.Notarize v) d h = push d.calls (calls.Report (activities.Notarize v)) refl h
  recorded (artifacts.Notarization n) d h = push d.calls (calls.Report (activities.Notarization n)) refl h
  recorded (artifacts.Certification round good) d h = h
  recorded (artifacts.Nullify v) d h = push d.calls (calls.Report (activities.Nullify v)) refl h
  recorded (artifacts.Nullification n) d h = push d.calls (calls.Report (activities.Nullification n)) refl h
  recorded (artifacts.Finalize v) d h = push d.calls (calls.Report (activities.Finalize v)) refl h
  recorded (artifacts.Finalization f) d h = push d.calls (calls.Report (activities.Finalization f)) refl h

  blocked : (o : Option ℕ) (d : Doing) → Spares d → Spares (block_for o d)
  blocked None d h = h
  blocked (Some leader) d h = push d.calls (calls.Block leader LeaderConflict) refl h

  updated : (o : Option Certificate) (d : Doing) → Spares d → Spares (updated_if o d)
  updated None d h = h
  updated (Some certificate) d h = h

  judged : (good : Bool) (o : Option Notarization) (d : Doing) → Spares d → Spares (replay_verdict good o d)
  judged true None d h = h
  judged false None d h = h
  judged true (Some n) d h = push d.calls (calls.Report (activities.Certification n)) refl h
  judged false (Some n) d h = h

  other : (made : Made) (now : ℕ) (d : Doing) (artifact : Artifact) → Spares d
      → Spares (updated_if (certificate_in artifact) (report_if (activity_of artifact) (block_for (replay_answer made d.desk.known artifact) (tell made (state.Replay artifact now) d))))
  other made now d artifact h =
      let told = tell made (state.Replay artifact now) d in
      let after = block_for (replay_answer made d.desk.known artifact) told in
      updated (certificate_in artifact) (report_if (activity_of artifact) after) (recorded artifact after (blocked (replay_answer made d.desk.known artifact) told h))

  replayed : (made : Made) (now : ℕ) (d : Doing) (artifact : Artifact) → Spares d → Spares (replay_record made now d artifact)
  unfolding replay_record
  replayed made now d (artifacts.Certification round good) h =
      judged good (certified_answer d.desk.known round.view) (tell made (state.Replay (artifacts.Certification round good) now) d) h
  replayed made now d (artifacts.Notarize v) h = other made now d (artifacts.Notarize v) h
  replayed made now d (artifacts.Notarization n) h = other made now d (artifacts.Notarization n) h
  replayed made now d (artifacts.Nullify v) h = other made now d (artifacts.Nullify v) h
  replayed made now d (artifacts.Nullification n) h = other made now d (artifacts.Nullification n) h
  replayed made now d (artifacts.Finalize v) h = other made now d (artifacts.Finalize v) h
  replayed made now d (artifacts.Finalization f) h = other made now d (artifacts.Finalization f) h

  all_replayed : (made : Made) (now floor : ℕ) (d : Doing) (records : List Artifact) → Spares d → Spares (replay_all made now floor d records)
  unfolding replay_all
  all_replayed made now floor d [] h = h
  all_replayed made now floor d (artifact ∷ rest) h =
      all_replayed made now floor (if nat_lt floor (artifact_round artifact).view then replay_record made now d artifact else d) rest
      (at (nat_lt floor (artifact_round artifact).view))
    where
      at : (b : Bool) → Spares (if b then replay_record made now d artifact else d)
      at true = replayed made now d artifact h
      at false = h

  stood : (made : Made) (now : ℕ) (floor : Floor) (d : Doing) → Spares d → Spares (stand_on made now floor d)
  stood made now (floors.Genesis payload) d h = h
  stood made now (floors.Finalized f) d h = push d.calls (calls.Report (activities.Finalization f)) refl h

  kept : (floor : Floor) (records : List Artifact) (d : Doing) → Spares d → Spares (keep_floor floor records d)
  kept (floors.Genesis payload) records d h = h
  kept (floors.Finalized f) records d h = at (list_any (is_final_from (view_of f.proposal)) records)
    where
      at : (b : Bool) → Spares (if b then d else sync (view_of f.proposal) (append (artifacts.Finalization f) d))
      at true = h
      at false =
          push (d.calls ++ calls.Append (view_of f.proposal) (artifacts.Finalization f) ∷ []) (calls.Sync (view_of f.proposal)) refl
          (push d.calls (calls.Append (view_of f.proposal) (artifacts.Finalization f)) refl h)

  begins : (made : Made) (now : ℕ) (d : Doing) → Spares d → Spares (begin_iteration made now d)
  unfolding begin_iteration prune
  begins made now d h =
      let asked = seek (record d { desk = iterated made now d.desk }) in
      at (prune_answer made asked.desk.known) (tell made state.Prune asked) h
    where
      at : (o : Option ℕ) (b : Doing) → Spares b → Spares (prune_at o b)
      at None b ready = ready
      at (Some least) b ready = push b.calls (calls.Prune least) refl ready

  pub start_blames_not : (made : Made) (now : ℕ) (floor : Floor) (records : List Artifact) → Spares (started made now floor records)
  unfolding started
  start_blames_not made now floor records =
      let first = stand_on made now floor (begun blank_desk) in
      let told = all_replayed made now (floor_view floor) first records (stood made now floor (begun blank_desk) (All-nil (λ (call : Call). blames call member ≡ false))) in
      begins made now _ (kept floor records _ told)
