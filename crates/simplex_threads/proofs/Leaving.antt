-- Voters that no stop ends have lived, and a voter that stops leaves a journal over which one may start.
use Rattle.std.proofs.Common.{◌≡◌, ℕ, ◌<◌, true, false, List, [], ◌∷◌, ◌++◌, Option, Some, None, refl, sym, ap, ◌∙◌, subst}
use Rattle.std.specs.List.Sorted.{IsStrictlySortedBy}
use Rattle.simplex_values.specs.Terms.{greatest_view}
use Rattle.simplex_wire.specs.declared.artifact.Artifact.TheVariants as artifacts
use Rattle.simplex_journal.specs.Journal.{Section, replayed, crashed}
use Rattle.simplex_journal.specs.Contents.{numbers}
use Rattle.simplex_messages.specs.declared.step.Outcome.{Outcome}
use Rattle.simplex_messages.specs.declared.step.Outcome.TheVariants as outcomes
use Rattle.simplex_messages.specs.declared.step.Stop.{Stop}
use Rattle.simplex_messages.specs.declared.step.Stop.TheVariants as stops
use Rattle.simplex_messages.specs.declared.voter.VoterInput.{VoterInput}
use Rattle.model_rules.specs.Known.{Made, Fact}
use Rattle.model_steps.specs.Desk.{Doing}
use Rattle.model_steps.specs.Performed.{Performed, performed, stop_place}
use Rattle.model_steps.specs.Voter.{stepped}
use Rattle.model_steps.specs.VoterLife.{VoterMade, Given, Place, Started, Stepped, start_at, start_performed, place_of, start_given, step_given}
use Rattle.model_steps.specs.Engine.{is_whole}
use Rattle.law_agreement.specs.Member as life
use Rattle.law_agreement.specs.Member.{Member, newborn, happens, run, IsLegal}
use Rattle.law_agreement.proofs.CallFacts.{run-append, IsLegal-append}
use Rattle.law_agreement.proofs.ListFacts.{not_in_empty}
use Rattle.law_member.specs.Life.{journal_of, IsFloor, IsRunning, IsStopped, IsLeft}
use Rattle.simplex_threads.specs.Laws.{IsOfLife, HasLived, view_at}
use Rattle.simplex_threads.proofs.Signed.{step_signed, start_signed}
use Rattle.simplex_threads.proofs.Lived.{StepsLive, StartsLive, StepsWrite, AreSigned, each_record, signed_crashed, signed_performed, signed_start, step_gives, Runs, lived_runs}

abbrev CrashesLive : Type 0
CrashesLive =
    (made : Made) (keep : ℕ) (known : List Fact) (sections : List Section) (m : Member)
    → IsRunning made known sections m → IsStopped made (crashed keep sections) (happens m (life.Crash (λ view. keep)))

-- ---- where no stop ends anything

pub fresh : (made : Made) → IsOfLife made []
unfolding journal_of numbers IsStrictlySortedBy replayed
fresh made =
    record {
      calls = [];
      legal = tt;
      stopped = record { up = refl; blank = refl; journal = refl; stored = refl; rising = tt; own = λ v c. absurd (not_in_empty _ c) };
      signed = λ v c. absurd (not_in_empty _ c);
    }

pub started_lives : (made : VoterMade) (now : ℕ) → IsFloor made.floor → IsOfLife made.rules made.sections → HasLived made (Started now stops.None ∷ [])
unfolding HasLived start_given start_performed performed stop_place
started_lives made now floor l = (refl, floor, l, refl)

whole_unstopped : (d : Doing) (js : List Section) → is_whole (performed stops.None d js).outcome ≡ true
unfolding performed stop_place
whole_unstopped d js = refl

pub stepped_lives : (made : VoterMade) (past : List Given) (input : VoterInput) (now : ℕ) → HasLived made past → HasLived made (Stepped input now stops.None ∷ past)
unfolding HasLived
stepped_lives made past input now l = (l, at (stepped made.rules now (place_of made past).standing input) refl)
  where
    at : (o : Option Doing) → stepped made.rules now (place_of made past).standing input ≡ o → is_whole (step_given made past input now stops.None).outcome ≡ true
    at None e = ap (λ (p : Performed). is_whole p.outcome) (step_gives made past input now stops.None None e)
    at (Some d) e = ap (λ (p : Performed). is_whole p.outcome) (step_gives made past input now stops.None (Some d) e) ∙ whole_unstopped d (place_of made past).sections

-- ---- where one does

left_stopped : (made : Made) (known : List Fact) (o : Outcome) (js : List Section) (m : Member) → is_whole o ≡ false → IsLeft made known o js m → IsStopped made js m
left_stopped made known outcomes.Done js m w h = cc
left_stopped made known outcomes.Idle js m w h = cc
left_stopped made known outcomes.Refused js m w h = cc
left_stopped made known outcomes.Cut js m w h = h
left_stopped made known outcomes.Journal js m w h = h

-- a member goes on from where its life has come
of_more : (made : Made) (js : List Section) (calls more : List life.Call) → IsLegal made.term_length newborn calls → IsLegal made.term_length (run newborn calls) more
    → IsStopped made js (run (run newborn calls) more) → AreSigned made js → IsOfLife made js
of_more made js calls more legal then stopped signed =
    record {
      calls = calls ++ more;
      legal = IsLegal-append made.term_length newborn calls more legal then;
      stopped = subst (IsStopped made js) (sym (run-append newborn calls more)) stopped;
      signed = λ v c. signed (artifacts.Nullify v) c;
    }

pub start_leaves : StartsLive → (made : VoterMade) (now : ℕ) (stop : Stop) → IsFloor made.floor → IsOfLife made.rules made.sections
    → is_whole (start_given made [] now stop).outcome ≡ false → IsOfLife made.rules (start_given made [] now stop).sections
unfolding place_of start_given
start_leaves law made now stop floor l w =
    let d = start_at made now made.sections in
    let p = start_performed stop made.floor d made.sections in
    let m = run newborn l.calls in
    let x = law made.rules now made.floor stop made.sections m floor l.stopped in
    of_more made.rules p.sections l.calls x.calls l.legal x.legal (left_stopped made.rules d.desk.known p.outcome p.sections (run m x.calls) w x.left)
    (signed_start made.rules stop made.floor d made.sections (start_signed made.rules now made.floor (replayed made.sections)) (each_record made.rules made.sections l.signed))

module _ (steps : StepsLive) (starts : StartsLive) (writes : StepsWrite) (made : VoterMade) (past : List Given) (l : HasLived made past) (low : view_at made past < greatest_view) where
  r : Runs made past
  r = lived_runs steps starts writes made past l low

  pub crash_leaves : CrashesLive → (keep : ℕ) → IsOfLife made.rules (crashed keep (place_of made past).sections)
  crash_leaves law keep =
      let place = place_of made past in
      of_more made.rules (crashed keep place.sections) r.calls (life.Crash (λ view. keep) ∷ []) r.legal (tt, tt)
      (law made.rules keep place.standing.desk.known place.sections (run newborn r.calls) r.runs) (signed_crashed made.rules keep place.sections r.signed)

  pub step_leaves : (input : VoterInput) (now : ℕ) (stop : Stop) → is_whole (step_given made past input now stop).outcome ≡ false → IsOfLife made.rules (step_given made past input now stop).sections
  step_leaves input now stop w = at (stepped made.rules now (place_of made past).standing input) refl
    where
      place : Place
      place = place_of made past

      at : (o : Option Doing) → stepped made.rules now (place_of made past).standing input ≡ o → IsOfLife made.rules (step_given made past input now stop).sections
      at None e = (let same = ap (λ (p : Performed). is_whole p.outcome) (step_gives made past input now stop None e) in absurd (cc (same, w)))
      at (Some d) e =
          let same = step_gives made past input now stop (Some d) e in
          let p = performed stop d place.sections in
          let m = run newborn r.calls in
          let x = steps made.rules now input stop place.standing place.sections d m low r.runs e in
          let broken : is_whole p.outcome ≡ false = ap (λ (q : Performed). is_whole q.outcome) (sym same) ∙ w in
          subst (λ (q : Performed). IsOfLife made.rules q.sections) (sym same)
          (of_more made.rules p.sections r.calls x.calls r.legal x.legal (left_stopped made.rules d.desk.known p.outcome p.sections (run m x.calls) broken x.left)
          (signed_performed made.rules stop d place.sections (step_signed made.rules now place.standing input d e) r.signed))

-- a later start has another clock
pub starts_later : (made : Made) (start : ℕ) (js : List Section) → IsOfLife made js → IsOfLife (record made { start = start }) js
starts_later made start js l =
    let s = l.stopped in
    record {
      calls = l.calls;
      legal = l.legal;
      stopped = record { up = s.up; blank = s.blank; journal = s.journal; stored = s.stored; rising = s.rising; own = s.own };
      signed = l.signed;
    }
