-- What a start calls.
use Rattle.simplex_types.specs.declared.cause.BlockCause.TheVariants.{LeaderConflict}
use Rattle.std.proofs.Common.{◌≡◌, ℕ, nat_lt, cond, Bool, true, false, List, [], ◌∷◌, ◌++◌, Option, Some, None, refl, ap, ◌∙◌, if◌then◌else◌}
use Rattle.std.specs.List.{list_any}
use Rattle.std.proofs.lemmas.List.Elements.{filter-append}
use Rattle.simplex_wire.specs.declared.certificate.Certificate.{Certificate}
use Rattle.simplex_wire.specs.declared.certificate.Notarization.{Notarization}
use Rattle.simplex_wire.specs.declared.artifact.Artifact.{Artifact}
use Rattle.simplex_wire.specs.declared.artifact.Artifact.TheVariants as artifacts
use Rattle.simplex_wire.specs.Fields.{artifact_round}
use Rattle.simplex_types.specs.declared.activity.Activity.{Activity}
use Rattle.simplex_types.specs.declared.activity.Activity.TheVariants as activities
use Rattle.simplex_types.specs.declared.floor.Floor.{Floor}
use Rattle.simplex_types.specs.declared.floor.Floor.TheVariants as floors
use Rattle.simplex_messages.specs.declared.call.Call.{Call}
use Rattle.simplex_messages.specs.declared.call.Call.TheVariants as calls
use Rattle.model_rules.specs.Known.{Made, view_of}
use Rattle.model_rules.specs.Calls as state
use Rattle.model_rules.specs.Calls.{replay_answer, certified_answer, prune_answer}
use Rattle.model_rules.specs.Pending.{iterated}
use Rattle.model_steps.specs.Desk.{Doing, begun, tell, append, seek}
use Rattle.model_steps.specs.Voter.{activity_of, certificate_in, block_for, report_if, updated_if, replay_verdict, replay_record, replay_all, stand_on, is_final_from, keep_floor, blank_desk, floor_view, sync, prune_at, prune, begin_iteration, started}
use Rattle.law_member.specs.Syncs.{unsynced_after, unsynced, is_send, sends}
use Rattle.law_member.proofs.Syncing.{Guarded, guards_push, unsynced_last, only_one}

-- so far nothing was sent, what goes out found nothing unsynced, and nothing is
pub record Sound (cs : List Call) : Type 0 where
  pub silent : sends cs ≡ []
  pub guarded : Guarded [] cs
  pub stored : unsynced cs ≡ []

silent_push : (cs : List Call) (c : Call) → is_send c ≡ false → sends cs ≡ [] → sends (cs ++ c ∷ []) ≡ []
silent_push cs c none e =
    filter-append is_send cs (c ∷ []) ∙ ap (λ ps. ps ++ sends (c ∷ [])) e ∙ ap (λ b. cond b (c ∷ []) []) none

-- a call that sends and appends nothing
sound_push : (cs : List Call) (c : Call) → is_send c ≡ false → unsynced_after [] c ≡ [] → Sound cs → Sound (cs ++ c ∷ [])
sound_push cs c none stays h =
    record {
      silent = silent_push cs c none h.silent;
      guarded = guards_push cs c h.guarded (λ out. h.stored);
      stored = unsynced_last cs c ∙ ap (λ loose. unsynced_after loose c) h.stored ∙ stays;
    }

-- a record that is synced at once
sound_keep : (cs : List Call) (view : ℕ) (artifact : Artifact) → Sound cs → Sound ((cs ++ calls.Append view artifact ∷ []) ++ calls.Sync view ∷ [])
sound_keep cs view artifact h =
    let c = calls.Append view artifact in
    let more = cs ++ c ∷ [] in
    let loose : unsynced more ≡ view ∷ [] = unsynced_last cs c ∙ ap (λ loose. view ∷ loose) h.stored in
    record {
      silent = silent_push more (calls.Sync view) refl (silent_push cs c refl h.silent);
      guarded = guards_push more (calls.Sync view) (guards_push cs c h.guarded (λ out. cc)) (λ out. cc);
      stored = unsynced_last more (calls.Sync view) ∙ ap (λ loose. unsynced_after loose (calls.Sync view)) loose ∙ only_one view (view ∷ []) (refl, tt);
    }

-- ---- the records

block_sound : (o : Option ℕ) (d : Doing) → Sound d.calls → Sound (block_for o d).calls
block_sound None d h = h
block_sound (Some leader) d h = sound_push d.calls (calls.Block leader LeaderConflict) refl refl h

report_sound : (o : Option Activity) (d : Doing) → Sound d.calls → Sound (report_if o d).calls
report_sound None d h = h
report_sound (Some activity) d h = sound_push d.calls (calls.Report activity) refl refl h

updated_sound : (o : Option Certificate) (d : Doing) → Sound d.calls → Sound (updated_if o d).calls
updated_sound None d h = h
updated_sound (Some certificate) d h = h

verdict_sound : (good : Bool) (o : Option Notarization) (d : Doing) → Sound d.calls → Sound (replay_verdict good o d).calls
verdict_sound true None d h = h
verdict_sound false None d h = h
verdict_sound true (Some n) d h = sound_push d.calls (calls.Report (activities.Certification n)) refl refl h
verdict_sound false (Some n) d h = h

other_sound : (made : Made) (now : ℕ) (d : Doing) (artifact : Artifact) → Sound d.calls
    → Sound (updated_if (certificate_in artifact) (report_if (activity_of artifact) (block_for (replay_answer made d.desk.known artifact) (tell made (state.Replay artifact now) d)))).calls
other_sound made now d artifact h =
    let told = tell made (state.Replay artifact now) d in
    let after = block_for (replay_answer made d.desk.known artifact) told in
    updated_sound (certificate_in artifact) (report_if (activity_of artifact) after) (report_sound (activity_of artifact) after (block_sound (replay_answer made d.desk.known artifact) told h))

record_sound : (made : Made) (now : ℕ) (d : Doing) (artifact : Artifact) → Sound d.calls → Sound (replay_record made now d artifact).calls
unfolding replay_record
record_sound made now d (artifacts.Certification round good) h =
    verdict_sound good (certified_answer d.desk.known round.view) (tell made (state.Replay (artifacts.Certification round good) now) d) h
record_sound made now d (artifacts.Notarize v) h = other_sound made now d (artifacts.Notarize v) h
record_sound made now d (artifacts.Notarization n) h = other_sound made now d (artifacts.Notarization n) h
record_sound made now d (artifacts.Nullify v) h = other_sound made now d (artifacts.Nullify v) h
record_sound made now d (artifacts.Nullification n) h = other_sound made now d (artifacts.Nullification n) h
record_sound made now d (artifacts.Finalize v) h = other_sound made now d (artifacts.Finalize v) h
record_sound made now d (artifacts.Finalization f) h = other_sound made now d (artifacts.Finalization f) h

records_sound : (made : Made) (now floor : ℕ) (d : Doing) (records : List Artifact) → Sound d.calls → Sound (replay_all made now floor d records).calls
unfolding replay_all
records_sound made now floor d [] h = h
records_sound made now floor d (artifact ∷ rest) h =
    records_sound made now floor (if nat_lt floor (artifact_round artifact).view then replay_record made now d artifact else d) rest
    (at (nat_lt floor (artifact_round artifact).view))
  where
    at : (b : Bool) → Sound (if b then replay_record made now d artifact else d).calls
    at true = record_sound made now d artifact h
    at false = h

-- ---- the floor

stand_sound : (made : Made) (now : ℕ) (floor : Floor) (d : Doing) → Sound d.calls → Sound (stand_on made now floor d).calls
stand_sound made now (floors.Genesis payload) d h = h
stand_sound made now (floors.Finalized f) d h = sound_push d.calls (calls.Report (activities.Finalization f)) refl refl h

keep_sound : (floor : Floor) (records : List Artifact) (d : Doing) → Sound d.calls → Sound (keep_floor floor records d).calls
keep_sound (floors.Genesis payload) records d h = h
keep_sound (floors.Finalized f) records d h = at (list_any (is_final_from (view_of f.proposal)) records)
  where
    at : (b : Bool) → Sound (if b then d else sync (view_of f.proposal) (append (artifacts.Finalization f) d)).calls
    at true = h
    at false = sound_keep d.calls (view_of f.proposal) (artifacts.Finalization f) h

-- ---- a start

iteration_sound : (made : Made) (now : ℕ) (d : Doing) → Sound d.calls → Sound (begin_iteration made now d).calls
unfolding begin_iteration prune
iteration_sound made now d h =
    let asked = seek (record d { desk = iterated made now d.desk }) in
    at (prune_answer made asked.desk.known) (tell made state.Prune asked) h
  where
    at : (o : Option ℕ) (b : Doing) → Sound b.calls → Sound (prune_at o b).calls
    at None b ready = ready
    at (Some least) b ready = sound_push b.calls (calls.Prune least) refl refl ready

pub start_sound : (made : Made) (now : ℕ) (floor : Floor) (records : List Artifact) → Sound (started made now floor records).calls
unfolding started
start_sound made now floor records =
    let first = stand_on made now floor (begun blank_desk) in
    let replayed = replay_all made now (floor_view floor) first records in
    let told : Sound replayed.calls =
    records_sound made now (floor_view floor) first records (stand_sound made now floor (begun blank_desk) (record { silent = refl; guarded = tt; stored = refl })) in
    iteration_sound made now _ (keep_sound floor records _ told)
