-- What a start knows again, and with which call it begins.
use Rattle.simplex_types.specs.declared.cause.BlockCause.TheVariants.{LeaderConflict}
use Rattle.std.proofs.Common.{◌≡◌, ℕ, ◌+◌, ◌<◌, Bool, true, false, List, [], ◌∷◌, ◌++◌, length, get_or, drop, take, Option, Some, None, refl, ap, ◌∙◌, arith, nat_lt, cond}
use Rattle.simplex_wire.specs.declared.artifact.Artifact.{Artifact}
use Rattle.simplex_wire.specs.declared.artifact.Artifact.TheVariants as artifacts
use Rattle.simplex_wire.specs.declared.certificate.Certificate.{Certificate}
use Rattle.simplex_wire.specs.declared.certificate.Notarization.{Notarization}
use Rattle.simplex_wire.specs.Fields.{artifact_round}
use Rattle.simplex_types.specs.declared.activity.Activity.{Activity}
use Rattle.simplex_types.specs.declared.activity.Activity.TheVariants as activities
use Rattle.simplex_types.specs.declared.floor.Floor.{Floor}
use Rattle.simplex_types.specs.declared.floor.Floor.TheVariants as floors
use Rattle.simplex_values.specs.declared.timeout.TimeoutReason.{TimeoutReason}
use Rattle.simplex_values.specs.declared.timeout.TimeoutReason.TheVariants.{FailedCertification}
use Rattle.model_rules.specs.Lists.{greatest_of}
use Rattle.model_rules.specs.Known.{Made, Fact, Expired, Failed, Judged}
use Rattle.model_rules.specs.Deadline.{triggered, expires, fails}
use Rattle.model_rules.specs.Calls as state
use Rattle.model_rules.specs.Calls.{pruned_view, replay_answer, certified_answer, takes_verdict, judged, facts_of}
use Rattle.simplex_messages.specs.declared.call.Call.{Call}
use Rattle.simplex_messages.specs.declared.call.Call.TheVariants as calls
use Rattle.model_steps.specs.Desk.{Doing, begun, tell}
use Rattle.model_steps.specs.Voter.{block_for, report_if, updated_if, replay_verdict, activity_of, certificate_in, replay_record, replay_all, stand_on, keep_floor, prune_at, prune, begin_iteration, started, blank_desk}
use Rattle.model_steps.specs.VoterLife.{before_reading}
use Rattle.simplex_values.specs.declared.round.Round.{Round}
use Rattle.simplex_wire.specs.declared.certificate.Finalization.{Finalization}
use Rattle.simplex_voter.proofs.Folding.{drop-item}
use Rattle.simplex_voter.specs.Actor.{floor_calls}
use Rattle.simplex_voter.specs.Stands.{IsWhole, restore_record, restore_verdict, replay_above, verdict_in, tell_floor, holds_floor, append_floor}

-- ---- nothing is forgotten

whole-append : (facts known : List Fact) → IsWhole facts → IsWhole known → IsWhole (facts ++ known)
unfolding greatest_of
whole-append [] known none whole = whole
whole-append (fact ∷ facts) known none whole =
    let more = whole-append facts known (omega (arith, none)) whole in omega (arith, none, more)

whole-triggered : (made : Made) (known : List Fact) (view : ℕ) (reason : TimeoutReason) (now : ℕ) → IsWhole (triggered made known view reason now)
unfolding triggered greatest_of
whole-triggered made known view reason now =
    elim (expires made known view reason) as (λ b. IsWhole (cond b (Expired view reason now ∷ []) (cond (fails made known view reason) (Failed view reason ∷ []) [])))
    [ true ↦ refl | false ↦ elim (fails made known view reason) as (λ b. IsWhole (cond b (Failed view reason ∷ []) [])) [ true ↦ refl | false ↦ refl ] ]

whole-judged : (made : Made) (known : List Fact) (view : ℕ) (good : Bool) (now : ℕ) → IsWhole (judged made known view good now)
unfolding judged greatest_of
whole-judged made known view true now =
    elim (takes_verdict known view) as (λ b. IsWhole (cond b (Judged view true now ∷ []) [])) [ true ↦ refl | false ↦ refl ]
whole-judged made known view false now =
    elim (takes_verdict known view) as (λ b. IsWhole (cond b (triggered made known view FailedCertification now ++ Judged view false now ∷ []) []))
    [ true ↦ whole-append (triggered made known view FailedCertification now) (Judged view false now ∷ []) (whole-triggered made known view FailedCertification now) refl | false ↦ refl ]

whole-facts : (made : Made) (known : List Fact) (artifact : Artifact) (now : ℕ) → IsWhole (state.replay_facts made known artifact now)
unfolding greatest_of
whole-facts made known (artifacts.Notarize v) now = refl
whole-facts made known (artifacts.Nullify v) now = refl
whole-facts made known (artifacts.Finalize v) now = refl
whole-facts made known (artifacts.Notarization n) now = refl
whole-facts made known (artifacts.Nullification n) now = refl
whole-facts made known (artifacts.Finalization f) now = refl
whole-facts made known (artifacts.Certification round good) now = whole-judged made known round.view good now

whole-floor-facts : (floor : Floor) (now : ℕ) → IsWhole (state.floor_facts floor now)
unfolding greatest_of
whole-floor-facts (floors.Genesis payload) now = refl
whole-floor-facts (floors.Finalized f) now = refl

pub whole-floor : (made : Made) (now : ℕ) (floor : Floor) (doing : Doing) → IsWhole doing.desk.known → IsWhole (stand_on made now floor doing).desk.known
unfolding facts_of
whole-floor made now (floors.Genesis payload) doing whole = whole-append (state.floor_facts (floors.Genesis payload) now) doing.desk.known (whole-floor-facts (floors.Genesis payload) now) whole
whole-floor made now (floors.Finalized f) doing whole = whole-append (state.floor_facts (floors.Finalized f) now) doing.desk.known (whole-floor-facts (floors.Finalized f) now) whole

-- the floor is final, and told
pub stands-on : (made : Made) (now : ℕ) (floor : Floor) (doing : Doing) → tell_floor floor (tell made (state.SetFloor floor now) doing) ≡ stand_on made now floor doing
stands-on made now (floors.Genesis payload) doing = refl
stands-on made now (floors.Finalized f) doing = refl

pub whole-blank : IsWhole (begun blank_desk).desk.known
unfolding greatest_of
whole-blank = refl

-- ---- what is done beside changes nothing that is known

block-known : (leader : Option ℕ) (doing : Doing) → (block_for leader doing).desk.known ≡ doing.desk.known
block-known None doing = refl
block-known (Some leader) doing = refl

report-known : (activity : Option Activity) (doing : Doing) → (report_if activity doing).desk.known ≡ doing.desk.known
report-known None doing = refl
report-known (Some activity) doing = refl

update-known : (certificate : Option Certificate) (doing : Doing) → (updated_if certificate doing).desk.known ≡ doing.desk.known
update-known None doing = refl
update-known (Some certificate) doing = refl

verdict-known : (good : Bool) (taken : Option Notarization) (doing : Doing) → (replay_verdict good taken doing).desk.known ≡ doing.desk.known
verdict-known good None doing = refl
verdict-known true (Some n) doing = refl
verdict-known false (Some n) doing = refl

pair-of : (x y : ℕ × Bool) → Some x ≡ Some y → x ≡ y
pair-of x y same = cc

-- a kept record is known again, as what it is
pub verdict-is : (made : Made) (now : ℕ) (doing : Doing) (artifact : Artifact) (view : ℕ) (good : Bool) → verdict_in artifact ≡ Some (view, good)
    → replay_record made now doing artifact ≡ restore_verdict made now view good doing
unfolding replay_record facts_of
verdict-is made now doing (artifacts.Certification round good) view good' is =
    let same = pair-of (round.view, good) (view, good') is in
    rw (← ap (λ (p : ℕ × Bool). p.0) same, ← ap (λ (p : ℕ × Bool). p.1) same) refl
verdict-is made now doing _ view good' is = absurd cc

pub record-is : (made : Made) (now : ℕ) (doing : Doing) (artifact : Artifact) → verdict_in artifact ≡ None → replay_record made now doing artifact ≡ restore_record made now artifact doing
unfolding replay_record
record-is made now doing (artifacts.Certification round good) other = absurd cc
record-is made now doing _ other = refl

record-known : (made : Made) (now : ℕ) (doing : Doing) (artifact : Artifact) → verdict_in artifact ≡ None
    → (replay_record made now doing artifact).desk.known ≡ state.replay_facts made doing.desk.known artifact now ++ doing.desk.known
unfolding facts_of
record-known made now doing artifact other =
    ap (λ (d : Doing). d.desk.known) (record-is made now doing artifact other) ∙ update-known (certificate_in artifact) _ ∙ report-known (activity_of artifact) _
    ∙ block-known (replay_answer made doing.desk.known artifact) (tell made (state.Replay artifact now) doing)

judged-known : (made : Made) (now : ℕ) (doing : Doing) (round : Round) (good : Bool)
    → (replay_record made now doing (artifacts.Certification round good)).desk.known ≡ judged made doing.desk.known round.view good now ++ doing.desk.known
unfolding facts_of
judged-known made now doing round good =
    ap (λ (d : Doing). d.desk.known) (verdict-is made now doing (artifacts.Certification round good) round.view good refl)
    ∙ verdict-known good (certified_answer doing.desk.known round.view) (tell made (state.Certified round.view good now) doing)

whole-other : (made : Made) (now : ℕ) (doing : Doing) (artifact : Artifact) → verdict_in artifact ≡ None → IsWhole doing.desk.known → IsWhole (replay_record made now doing artifact).desk.known
whole-other made now doing artifact other whole =
    ap (λ (known : List Fact). greatest_of pruned_view known) (record-known made now doing artifact other)
    ∙ whole-append (state.replay_facts made doing.desk.known artifact now) doing.desk.known (whole-facts made doing.desk.known artifact now) whole

pub whole-record : (made : Made) (now : ℕ) (doing : Doing) (artifact : Artifact) → IsWhole doing.desk.known → IsWhole (replay_record made now doing artifact).desk.known
whole-record made now doing (artifacts.Certification round good) whole =
    ap (λ (known : List Fact). greatest_of pruned_view known) (judged-known made now doing round good)
    ∙ whole-append (judged made doing.desk.known round.view good now) doing.desk.known (whole-judged made doing.desk.known round.view good now) whole
whole-record made now doing (artifacts.Notarize v) whole = whole-other made now doing (artifacts.Notarize v) refl whole
whole-record made now doing (artifacts.Nullify v) whole = whole-other made now doing (artifacts.Nullify v) refl whole
whole-record made now doing (artifacts.Finalize v) whole = whole-other made now doing (artifacts.Finalize v) refl whole
whole-record made now doing (artifacts.Notarization n) whole = whole-other made now doing (artifacts.Notarization n) refl whole
whole-record made now doing (artifacts.Nullification n) whole = whole-other made now doing (artifacts.Nullification n) refl whole
whole-record made now doing (artifacts.Finalization f) whole = whole-other made now doing (artifacts.Finalization f) refl whole

-- ---- the loop over the records

-- what was done so far, from which the records that are left give the same as all from what was done before
pub record Replaying (Stands : Doing → Type 0) (made : Made) (now floor : ℕ) (before : Doing) (all left : List Artifact) : Type 0 where
  pub doing : Doing
  pub stands : Stands doing
  pub whole : IsWhole doing.desk.known
  pub ends : replay_all made now floor doing left ≡ replay_all made now floor before all

pub replaying-item : (Before After : Doing → Type 0) (made : Made) (now floor : ℕ) (before : Doing) (all rest : List Artifact) (artifact : Artifact)
    → ((doing : Doing) → IsWhole doing.desk.known → Before doing → After (replay_above made now floor doing artifact))
    → Replaying Before made now floor before all (artifact ∷ rest) → Replaying After made now floor before all rest
unfolding replay_all
replaying-item Before After made now floor before all rest artifact item r =
    record {
      doing = replay_above made now floor r.doing artifact;
      stands = item r.doing r.whole r.stands;
      whole = elim (nat_lt floor (artifact_round artifact).view) as (λ b. IsWhole (cond b (replay_record made now r.doing artifact) r.doing).desk.known)
          [ true ↦ whole-record made now r.doing artifact r.whole | false ↦ r.whole ];
      ends = r.ends;
    }

-- one record more is known again
pub replaying-next : (Before After : Doing → Type 0) (made : Made) (now floor : ℕ) (before : Doing) (records : List Artifact) (i : ℕ) (artifact : Artifact)
    → i < length records → artifact ≡ get_or records i artifact
    → ((doing : Doing) → IsWhole doing.desk.known → Before doing → After (replay_above made now floor doing artifact))
    → Replaying Before made now floor before records (drop i records) → Replaying After made now floor before records (drop (i + 1) records)
replaying-next Before After made now floor before records i artifact within is item r =
    replaying-item Before After made now floor before records (drop (i + 1) records) artifact item (rw (drop-item records i artifact within is) at r)

-- all are
pub replayed-all : (Stands : Doing → Type 0) (made : Made) (now floor : ℕ) (before : Doing) (records left : List Artifact) → left ≡ []
    → Replaying Stands made now floor before records left → Stands (replay_all made now floor before records)
unfolding replay_all
replayed-all Stands made now floor before records left none r = let ends : r.doing ≡ replay_all made now floor before records = rw none at r.ends in rw (← ends) r.stands

-- the floor is kept where it is not held
pub keeps-floor : (floor : Floor) (records : List Artifact) (doing : Doing) → cond (holds_floor floor records) doing (append_floor floor doing) ≡ keep_floor floor records doing
keeps-floor (floors.Genesis payload) records doing = refl
keeps-floor (floors.Finalized f) records doing = refl

-- ---- the first call

abbrev Begins : Call → Doing → Type 0
Begins call doing = take 1 doing.calls ≡ call ∷ []

first-more : (call : Call) (made more : List Call) → take 1 made ≡ call ∷ [] → take 1 (made ++ more) ≡ call ∷ []
first-more call [] more first = absurd cc
first-more call (c ∷ made) more first = first

module _ (call : Call) where
  begins-block : (leader : Option ℕ) (doing : Doing) → Begins call doing → Begins call (block_for leader doing)
  begins-block None doing first = first
  begins-block (Some leader) doing first = first-more call doing.calls (calls.Block leader LeaderConflict ∷ []) first

  begins-report : (activity : Option Activity) (doing : Doing) → Begins call doing → Begins call (report_if activity doing)
  begins-report None doing first = first
  begins-report (Some activity) doing first = first-more call doing.calls (calls.Report activity ∷ []) first

  begins-update : (certificate : Option Certificate) (doing : Doing) → Begins call doing → Begins call (updated_if certificate doing)
  begins-update None doing first = first
  begins-update (Some certificate) doing first = first

  begins-verdict : (good : Bool) (taken : Option Notarization) (doing : Doing) → Begins call doing → Begins call (replay_verdict good taken doing)
  begins-verdict good None doing first = first
  begins-verdict true (Some n) doing first = first-more call doing.calls (calls.Report (activities.Certification n) ∷ []) first
  begins-verdict false (Some n) doing first = first

  begins-other : (made : Made) (now : ℕ) (doing : Doing) (artifact : Artifact) → verdict_in artifact ≡ None → Begins call doing → Begins call (replay_record made now doing artifact)
  begins-other made now doing artifact other first =
      rw (record-is made now doing artifact other)
      (begins-update (certificate_in artifact) _ (begins-report (activity_of artifact) _ (begins-block (replay_answer made doing.desk.known artifact) _ first)))

  begins-record : (made : Made) (now : ℕ) (doing : Doing) (artifact : Artifact) → Begins call doing → Begins call (replay_record made now doing artifact)
  begins-record made now doing (artifacts.Certification round good) first =
      rw (verdict-is made now doing (artifacts.Certification round good) round.view good refl)
      (begins-verdict good (certified_answer doing.desk.known round.view) (tell made (state.Certified round.view good now) doing) first)
  begins-record made now doing (artifacts.Notarize v) first = begins-other made now doing (artifacts.Notarize v) refl first
  begins-record made now doing (artifacts.Nullify v) first = begins-other made now doing (artifacts.Nullify v) refl first
  begins-record made now doing (artifacts.Finalize v) first = begins-other made now doing (artifacts.Finalize v) refl first
  begins-record made now doing (artifacts.Notarization n) first = begins-other made now doing (artifacts.Notarization n) refl first
  begins-record made now doing (artifacts.Nullification n) first = begins-other made now doing (artifacts.Nullification n) refl first
  begins-record made now doing (artifacts.Finalization f) first = begins-other made now doing (artifacts.Finalization f) refl first

  begins-all : (made : Made) (now floor : ℕ) (doing : Doing) (records : List Artifact) → Begins call doing → Begins call (replay_all made now floor doing records)
  unfolding replay_all
  begins-all made now floor doing [] first = first
  begins-all made now floor doing (artifact ∷ rest) first =
      begins-all made now floor (replay_above made now floor doing artifact) rest
      (elim (nat_lt floor (artifact_round artifact).view) as (λ b. Begins call (cond b (replay_record made now doing artifact) doing))
      [ true ↦ begins-record made now doing artifact first | false ↦ first ])

  begins-kept : (floor : Floor) (records : List Artifact) (doing : Doing) → Begins call doing → Begins call (keep_floor floor records doing)
  begins-kept (floors.Genesis payload) records doing first = first
  begins-kept (floors.Finalized f) records doing first =
      elim (holds_floor (floors.Finalized f) records) as (λ b. Begins call (cond b doing (append_floor (floors.Finalized f) doing)))
      [ true ↦ first | false ↦ first-more call _ _ (first-more call doing.calls _ first) ]

  begins-pruned : (least : Option ℕ) (doing : Doing) → Begins call doing → Begins call (prune_at least doing)
  begins-pruned None doing first = first
  begins-pruned (Some least) doing first = first-more call doing.calls (calls.Prune least ∷ []) first

begins-started : (made : Made) (now : ℕ) (f : Finalization) (records : List Artifact) → Begins (calls.Report (activities.Finalization f)) (started made now (floors.Finalized f) records)
unfolding started begin_iteration prune
begins-started made now f records =
    begins-pruned _ _ _ (begins-kept _ (floors.Finalized f) records _ (begins-all _ made now _ (stand_on made now (floors.Finalized f) (begun blank_desk)) records refl))

-- the calls of a start begin with those before the reading
pub begins-so : (made : Made) (now : ℕ) (floor : Floor) (records : List Artifact) → take (before_reading floor) (started made now floor records).calls ≡ floor_calls floor
begins-so made now (floors.Genesis payload) records = refl
begins-so made now (floors.Finalized f) records = begins-started made now f records
