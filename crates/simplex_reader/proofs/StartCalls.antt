-- Which calls of the journal the rules make in a start.
use Rattle.std.proofs.Common.{◌≡◌, ℕ, ◌+◌, ◌-◌, nat_lt, Bool, true, false, List, [], ◌∷◌, ◌++◌, map, Option, Some, None, refl, sym, ap, ◌∙◌, subst, if◌then◌else◌}
use Rattle.std.specs.List.{list_any}
use Rattle.std.proofs.lemmas.List.{map-append}
use Rattle.simplex_wire.specs.declared.artifact.Artifact.{Artifact}
use Rattle.simplex_wire.specs.declared.artifact.Artifact.TheVariants as artifacts
use Rattle.simplex_wire.specs.declared.certificate.Certificate.{Certificate}
use Rattle.simplex_wire.specs.declared.certificate.Finalization.{Finalization}
use Rattle.simplex_wire.specs.declared.certificate.Notarization.{Notarization}
use Rattle.simplex_wire.specs.Fields.{artifact_round}
use Rattle.simplex_types.specs.declared.activity.Activity.{Activity}
use Rattle.simplex_types.specs.declared.activity.Activity.TheVariants as activities
use Rattle.simplex_types.specs.declared.cause.BlockCause.TheVariants.{LeaderConflict}
use Rattle.simplex_types.specs.declared.floor.Floor.{Floor}
use Rattle.simplex_types.specs.declared.floor.Floor.TheVariants as floors
use Rattle.simplex_messages.specs.declared.call.Call.{Call}
use Rattle.simplex_messages.specs.declared.call.Call.TheVariants as calls
use Rattle.simplex_messages.specs.declared.handed.Handed.TheVariants as handed
use Rattle.simplex_messages.specs.declared.resolver.MailboxMessage.TheVariants as resolver
use Rattle.model_rules.specs.Known.{Made, Fact, view_of}
use Rattle.model_rules.specs.Lists.{greatest_of}
use Rattle.model_rules.specs.Views.{least_active}
use Rattle.model_rules.specs.Calls as state
use Rattle.model_rules.specs.Calls.{replay_answer, certified_answer, pruned_view, prune_answer}
use Rattle.model_rules.specs.Pending.{iterated}
use Rattle.model_steps.specs.Desk.{Doing, begun, tell, hand, append}
use Rattle.model_steps.specs.Voter.{sync, block_for, report_if, updated_if, activity_of, certificate_in, replay_verdict, replay_record, replay_all, floor_view, stand_on, is_final_from, keep_floor, update_message, blank_desk, begin_iteration, started}
use Rattle.model_run.specs.Members.{floor_of}
use Rattle.law_member.proofs.Quiet.{iterated_same}
use Rattle.law_requests.proofs.Told as told
use Rattle.law_requests.proofs.Pruning.{still_quiet}
use Rattle.law_audit.specs.Recording.{shape_of}
use Rattle.law_audit.proofs.Looking.{finalized_by}
use Rattle.law_audit.proofs.Writing.{Mark, Written, marks_of, marks-append, marks_still, prune_of, shape_told}
use Rattle.law_audit.proofs.Ending.{pruned_at, begin_shape}
use Rattle.simplex_reader.specs.Failing.{ArePrunedBy, prune_above}
use Rattle.simplex_reader.specs.Starting.{keeping_calls}
use Rattle.simplex_reader.proofs.Ruled.{nones, then_one, risen, prune_at, pruned_by_shape}
use Rattle.simplex_reader.proofs.Started.{begins_same}

-- ---- none but of the floor

blocked_marks : (o : Option ℕ) (d : Doing) → marks_of (block_for o d).calls ≡ marks_of d.calls
blocked_marks None d = refl
blocked_marks (Some leader) d = marks_still d.calls (calls.Block leader LeaderConflict) refl

reported_marks : (o : Option Activity) (d : Doing) → marks_of (report_if o d).calls ≡ marks_of d.calls
reported_marks None d = refl
reported_marks (Some a) d = marks_still d.calls (calls.Report a) refl

updated_marks : (o : Option Certificate) (d : Doing) → marks_of (updated_if o d).calls ≡ marks_of d.calls
updated_marks None d = refl
updated_marks (Some c) d = refl

verdict_marks : (good : Bool) (o : Option Notarization) (d : Doing) → marks_of (replay_verdict good o d).calls ≡ marks_of d.calls
verdict_marks good None d = refl
verdict_marks true (Some n) d = marks_still d.calls (calls.Report (activities.Certification n)) refl
verdict_marks false (Some n) d = refl

plain_marks : (made : Made) (now : ℕ) (d : Doing) (r : Artifact)
    → marks_of (updated_if (certificate_in r) (report_if (activity_of r) (block_for (replay_answer made d.desk.known r) (tell made (state.Replay r now) d)))).calls ≡ marks_of d.calls
plain_marks made now d r =
    let known_again = tell made (state.Replay r now) d in
    let blocked = block_for (replay_answer made d.desk.known r) known_again in
    updated_marks (certificate_in r) (report_if (activity_of r) blocked) ∙ reported_marks (activity_of r) blocked
    ∙ blocked_marks (replay_answer made d.desk.known r) known_again

replay_marks : (made : Made) (now : ℕ) (d : Doing) (r : Artifact) → marks_of (replay_record made now d r).calls ≡ marks_of d.calls
unfolding replay_record
replay_marks made now d (artifacts.Certification r good) =
    verdict_marks good (certified_answer d.desk.known r.view) (tell made (state.Replay (artifacts.Certification r good) now) d)
replay_marks made now d (artifacts.Notarize v) = plain_marks made now d (artifacts.Notarize v)
replay_marks made now d (artifacts.Nullify v) = plain_marks made now d (artifacts.Nullify v)
replay_marks made now d (artifacts.Finalize v) = plain_marks made now d (artifacts.Finalize v)
replay_marks made now d (artifacts.Notarization c) = plain_marks made now d (artifacts.Notarization c)
replay_marks made now d (artifacts.Nullification c) = plain_marks made now d (artifacts.Nullification c)
replay_marks made now d (artifacts.Finalization c) = plain_marks made now d (artifacts.Finalization c)

records_marks : (made : Made) (now floor : ℕ) (d : Doing) (rs : List Artifact) → marks_of (replay_all made now floor d rs).calls ≡ marks_of d.calls
unfolding replay_all
records_marks made now floor d [] = refl
records_marks made now floor d (r ∷ rest) =
    records_marks made now floor (if nat_lt floor (artifact_round r).view then replay_record made now d r else d) rest ∙ at (nat_lt floor (artifact_round r).view)
  where
    at : (b : Bool) → marks_of (if b then replay_record made now d r else d).calls ≡ marks_of d.calls
    at true = replay_marks made now d r
    at false = refl

stood_marks : (made : Made) (now : ℕ) (floor : Floor) → marks_of (stand_on made now floor (begun blank_desk)).calls ≡ []
stood_marks made now (floors.Genesis payload) = refl
stood_marks made now (floors.Finalized f) = refl

-- ---- the floor is kept

kept_shape : (genesis : List ℕ) (floor : Option Finalization) (records : List Artifact) (d : Doing) → marks_of d.calls ≡ []
    → map prune_of (marks_of (keep_floor (floor_of genesis floor) records d).calls) ≡ nones (keeping_calls floor records)
unfolding nones
kept_shape genesis None records d e = ap (map prune_of) e
kept_shape genesis (Some f) records d e = at (list_any (is_final_from (view_of f.proposal)) records)
  where
    appended : Call
    appended = calls.Append (artifact_round (artifacts.Finalization f)).view (artifacts.Finalization f)

    at : (b : Bool) → map prune_of (marks_of (if b then d else sync (view_of f.proposal) (append (artifacts.Finalization f) d)).calls) ≡ nones (if b then 0 else 2)
    at true = ap (map prune_of) e
    at false =
        ap (map prune_of)
        (marks-append (d.calls ++ appended ∷ []) (calls.Sync (view_of f.proposal) ∷ [])
        ∙ ap (λ (ms : List Mark). ms ++ Written None ∷ []) (marks-append d.calls (appended ∷ []) ∙ ap (λ (ms : List Mark). ms ++ Written None ∷ []) e))

pruned_shape : (o : Option ℕ) → map prune_of (pruned_at o) ≡ then_one o
pruned_shape None = refl
pruned_shape (Some least) = refl

-- ---- a start

module _ (made : Made) (now : ℕ) (genesis : List ℕ) (floor : Option Finalization) (records : List Artifact) where
  abbrev at : Floor
  at = floor_of genesis floor

  abbrev read : Doing
  read = hand (handed.Resolver resolver.Replayed) (replay_all made now (floor_view at) (stand_on made now at (begun blank_desk)) records)

  abbrev last : Doing
  last = (let kept = keep_floor at records read in hand (update_message made kept.desk.known None) kept)

  abbrev behind : List Fact
  behind = (iterated made now last.desk).known

  unpruned : greatest_of pruned_view behind ≡ 0
  unfolding greatest_of
  unpruned =
      told.kept_iterated made (λ (known : List Fact). greatest_of pruned_view known ≡ 0) (still_quiet made 0) now last.desk
      (told.kept_begun made (λ (known : List Fact). greatest_of pruned_view known ≡ 0) (still_quiet made 0) now at records refl)

  same_least : least_active made behind ≡ least_active made (started made now at records).desk.known
  unfolding least_active started
  same_least =
      ap (λ n. n - made.retention)
      (finalized_by behind (begin_iteration made now last).desk.known ((iterated_same made now last.desk).adds ∙ sym (begins_same made now last).adds))

  start_shape : shape_of (started made now at records).calls ≡ nones (keeping_calls floor records) ++ then_one (risen 0 (least_active made (started made now at records).desk.known))
  unfolding started prune_answer
  start_shape =
      shape_told (begin_iteration made now last).calls
      ∙ ap (map prune_of) (begin_shape made now last)
      ∙ map-append prune_of (marks_of last.calls) (pruned_at (prune_answer made behind))
      ∙ ap (λ shape. shape ++ map prune_of (pruned_at (prune_answer made behind)))
      (kept_shape genesis floor records read (records_marks made now (floor_view at) (stand_on made now at (begun blank_desk)) records ∙ stood_marks made now at))
      ∙ ap (λ shape. nones (keeping_calls floor records) ++ shape)
      (pruned_shape (prune_answer made behind)
      ∙ ap (λ n. then_one (if nat_lt n (least_active made behind) then Some (least_active made behind) else None)) unpruned
      ∙ ap (λ n. then_one (risen 0 n)) same_least)

  start_ruled : (least : ℕ) → least ≡ least_active made (started made now at records).desk.known
      → ArePrunedBy (started made now at records).calls (prune_at (keeping_calls floor records) (risen 0 least))
  start_ruled least is =
      subst (λ n. ArePrunedBy (started made now at records).calls (prune_at (keeping_calls floor records) (risen 0 n))) (sym is)
      (pruned_by_shape (started made now at records).calls (keeping_calls floor records) (risen 0 (least_active made (started made now at records).desk.known)) start_shape)

  pub start_pruned : (number least : ℕ) → number ≡ keeping_calls floor records → least ≡ least_active made (started made now at records).desk.known
      → ArePrunedBy (started made now at records).calls (prune_above (number + 1) least)
  start_pruned number least count is =
      subst (ArePrunedBy (started made now at records).calls)
      (as_above (nat_lt 0 least) ∙ ap (λ n. prune_above (n + 1) least) (sym count)) (start_ruled least is)
    where
      as_above : (b : Bool) → prune_at (keeping_calls floor records) (if b then Some least else None)
          ≡ (if b then Some (record { number = keeping_calls floor records + 1; least = least }) else None)
      as_above true = refl
      as_above false = refl

-- ---- the calls that keep the floor

pub keeping_is : (floor : Option Finalization) (f : Finalization) (records : List Artifact) (view : ℕ) (final : Bool) → floor ≡ Some f → view ≡ view_of f.proposal
    → final ≡ list_any (is_final_from view) records → (if final then 0 else 2) ≡ keeping_calls floor records
keeping_is floor f records view final e same is =
    ap (λ (b : Bool). if b then 0 else 2) (is ∙ ap (λ v. list_any (is_final_from v) records) same) ∙ ap (λ (o : Option Finalization). keeping_calls o records) (sym e)
