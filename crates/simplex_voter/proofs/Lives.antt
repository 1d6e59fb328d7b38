-- What a voter stands for after a start or a step.
use Rattle.std.proofs.Common.{◌≡◌, ℕ, Bool, true, false, List, [], ◌∷◌, Option, Some, None, refl, ap, ◌∙◌, cond}
use Rattle.std.specs.Global.{Vec}
use Rattle.simplex_values.specs.declared.answer.Answer.{Answer}
use Rattle.simplex_wire.specs.declared.artifact.Artifact.{Artifact}
use Rattle.model_rules.specs.Known.{Made}
use Rattle.simplex_journal.specs.Journal.{crashed, replayed}
use Rattle.simplex_journal.specs.Order.{no_order}
use Rattle.simplex_messages.specs.declared.step.Stop.{Stop}
use Rattle.simplex_messages.specs.declared.step.Outcome.{Outcome}
use Rattle.simplex_messages.specs.declared.step.Outcome.TheVariants as outcomes
use Rattle.simplex_messages.specs.declared.step.StepOut.{StepOut}
use Rattle.simplex_messages.specs.declared.voter.VoterInput.{VoterInput}
use Rattle.simplex_messages.specs.Step.{no_out}
use Rattle.model_steps.specs.Desk.{Doing, begun}
use Rattle.model_steps.specs.Performed.{Performed, performed, kept_by}
use Rattle.model_steps.specs.Voter.{blank_desk, stepped, started}
use Rattle.model_steps.specs.VoterLife.{VoterMade, Given, Started, Stepped, Place, place_of, rest, unreadable, start_at, start_given, step_given}
use Rattle.simplex_wire.specs.declared.scheme.Scheme as schemes
use Rattle.simplex_types.specs.declared.elector.Elector as electors
use Rattle.simplex_journal.specs.declared.journal.Journal as journals
use Rattle.simplex_voter.specs.declared.planner.Planner.{Planner}
use Rattle.simplex_voter.specs.declared.actor.Actor.{Actor}
use Rattle.simplex_voter.specs.Actor.{Stays, floor_calls}
use Rattle.simplex_voter.specs.Performing.{Gave, Settled, Read, out_of, past_reading}
use Rattle.simplex_voter.specs.Stands.{Stands, Planned, Does, Finds, rested}
use Rattle.simplex_voter.proofs.Places.{stepped-place, idle-place, stepped-given, idle-given, start-place, start-gives, unread-place, unread-gives}

-- the voter is at this place, and gave so much
pub record After (IsAt : Place → Type 0) (place : Place) (given : Performed) (outcome : Outcome) (out : StepOut) : Type 0 where
  pub stays : IsAt place
  pub outcome_is : outcome ≡ given.outcome
  pub out_is : out ≡ given.out

pub blank-standing : (made : VoterMade) → place_of made [] ≡ record { standing = record { desk = blank_desk; answers = [] }; sections = made.sections }
unfolding place_of
blank-standing made = refl

read-so : {A : Type 0} (b : Bool) (items records : List A) → Some items ≡ cond b None (Some records) → b ≡ false
read-so true items records h = absurd cc
read-so false items records h = refl

read-items : {A : Type 0} (b : Bool) (items records : List A) → Some items ≡ cond b None (Some records) → items ≡ records
read-items true items records h = absurd cc
read-items false items records h = cc

unread-so : {A : Type 0} (b : Bool) (records : List A) → None ≡ cond b None (Some records) → b ≡ true
unread-so true records h = refl
unread-so false records h = absurd cc

module _ {S L J : Type 0} {g : schemes.Ghosts S} {h : electors.Ghosts L} {k : journals.Ghosts J} where
  after-settled : {actor : Actor S L J g h k} {made : VoterMade} {mid : Planner S L g h} {planned : StepOut} {outcome : Outcome} {out : StepOut} (before : Place) (journal : J) (stop : Stop) (doing : Doing) (answers : List (ℕ × Answer))
      → actor.floor ≡ made.floor
      → Stands mid made.rules answers doing
      → Does mid actor.planner (λ made. rested) → Finds mid (λ made. out_of) planned
      → k.sections journal ≡ before.sections
      → Settled stop planned (k.sections journal) outcome out (k.sections actor.journal) (k.order actor.journal)
      → After (Stays actor made) (record { standing = rest doing answers; sections = (performed stop doing before.sections).sections }) (performed stop doing before.sections) outcome out
  after-settled before journal stop doing answers floor does rests finds same settled =
      let gave = settled.gives doing (finds _ _ _ does) in
      let gave' : Gave (performed stop doing before.sections) _ _ _ = rw same at gave in
      record {
        stays = record { floor = floor; planner = rests _ _ _ does; sections_are = gave'.leaves; order_is = settled.tells };
        outcome_is = gave'.outcome_is;
        out_is = gave'.out_is;
      }

  -- ---- a step

  step-by : {old new : Actor S L J g h k} {mid : Planner S L g h} {planned : StepOut} {outcome : Outcome} {out : StepOut}
      (made : VoterMade) (past : List Given) (input : VoterInput) (now : ℕ) (stop : Stop) (done : Option Doing) → stepped made.rules now (place_of made past).standing input ≡ done
      → Planned (Stands mid made.rules (place_of made past).standing.answers) (begun (place_of made past).standing.desk) done true
      → Does mid new.planner (λ made. rested) → Finds mid (λ made. out_of) planned
      → (k.order old.journal ≡ Some no_order → Settled stop planned (k.sections old.journal) outcome out (k.sections new.journal) (k.order new.journal))
      → new.floor ≡ old.floor
      → Stays old made (place_of made past)
      → After (Stays new made) (place_of made (Stepped input now stop ∷ past)) (step_given made past input now stop) outcome out
  step-by made past input now stop None is plan rests finds settled floor s = absurd (let e = plan.holds in cc)
  step-by made past input now stop (Some doing) is plan rests finds settled floor s =
      rw (stepped-place made past input now stop doing is, stepped-given made past input now stop doing is)
      (after-settled (place_of made past) _ stop doing (place_of made past).standing.answers (floor ∙ s.floor) plan.does rests finds s.sections_are (settled s.order_is))

  pub step-made : {old new : Actor S L J g h k} {mid : Planner S L g h} {planned : StepOut} {outcome : Outcome} {out : StepOut}
      (made : VoterMade) (past : List Given) (input : VoterInput) (now : ℕ) (stop : Stop)
      → Planned (Stands mid made.rules (place_of made past).standing.answers) (begun (place_of made past).standing.desk) (stepped made.rules now (place_of made past).standing input) true
      → Does mid new.planner (λ made. rested) → Finds mid (λ made. out_of) planned
      → (k.order old.journal ≡ Some no_order → Settled stop planned (k.sections old.journal) outcome out (k.sections new.journal) (k.order new.journal))
      → new.floor ≡ old.floor
      → Stays old made (place_of made past)
      → After (Stays new made) (place_of made (Stepped input now stop ∷ past)) (step_given made past input now stop) outcome out
  step-made made past input now stop plan rests finds settled floor s =
      step-by made past input now stop (stepped made.rules now (place_of made past).standing input) refl plan rests finds settled floor s

  idle-by : {old new : Actor S L J g h k} {out : StepOut}
      (made : VoterMade) (past : List Given) (input : VoterInput) (now : ℕ) (stop : Stop) (done : Option Doing) → stepped made.rules now (place_of made past).standing input ≡ done
      → Planned (Stands new.planner made.rules (place_of made past).standing.answers) (begun (place_of made past).standing.desk) done false
      → new.floor ≡ old.floor → new.journal ≡ old.journal → out ≡ no_out
      → Stays old made (place_of made past)
      → After (Stays new made) (place_of made (Stepped input now stop ∷ past)) (step_given made past input now stop) outcomes.Idle out
  idle-by made past input now stop (Some doing) is plan floor journal empty s = absurd (let e = plan.holds in cc)
  idle-by made past input now stop None is plan floor journal empty s =
      rw (idle-place made past input now stop is, idle-given made past input now stop is)
      (record {
        stays = record { floor = floor ∙ s.floor; planner = plan.does; sections_are = rw journal s.sections_are; order_is = rw journal s.order_is };
        outcome_is = refl;
        out_is = empty;
      })

  pub idle-made : {old new : Actor S L J g h k} {out : StepOut}
      (made : VoterMade) (past : List Given) (input : VoterInput) (now : ℕ) (stop : Stop)
      → Planned (Stands new.planner made.rules (place_of made past).standing.answers) (begun (place_of made past).standing.desk) (stepped made.rules now (place_of made past).standing input) false
      → new.floor ≡ old.floor → new.journal ≡ old.journal → out ≡ no_out
      → Stays old made (place_of made past)
      → After (Stays new made) (place_of made (Stepped input now stop ∷ past)) (step_given made past input now stop) outcomes.Idle out
  idle-made made past input now stop plan floor journal empty s =
      idle-by made past input now stop (stepped made.rules now (place_of made past).standing input) refl plan floor journal empty s

  -- ---- a start

  -- the journal was read
  pub start-made : {old new : Actor S L J g h k} {mid : Planner S L g h} {planned : StepOut} {outcome : Outcome} {out : StepOut} {records : Vec Artifact}
      (journal : J) (made : VoterMade) (now : ℕ) (stop : Stop)
      → (k.order old.journal ≡ Some no_order → Read stop (k.sections old.journal) (Some records) (k.sections journal) (k.order journal))
      → ((made : Made) → Stands old.planner made [] (begun blank_desk) → Stands mid made [] (started made now old.floor records.items))
      → Does mid new.planner (λ made. rested) → Finds mid (λ made. out_of) planned
      → (k.order journal ≡ Some no_order → Settled (past_reading stop) planned (k.sections journal) outcome out (k.sections new.journal) (k.order new.journal))
      → new.floor ≡ old.floor
      → Stays old made (place_of made [])
      → After (Stays new made) (place_of made (Started now stop ∷ [])) (start_given made [] now stop) outcome out
  start-made {old} {new} {mid} {planned} {outcome} {out} {records} journal made now stop read starts rests finds settled floor s =
      let blank : Stays old made (record { standing = record { desk = blank_desk; answers = [] }; sections = made.sections }) = rw (blank-standing made) at s in
      let was = read blank.order_is in
      let readable = read-so (unreadable stop) records.items (replayed (k.sections old.journal)) was.reads in
      let same : k.sections journal ≡ made.sections = (rw readable at was.leaves) ∙ blank.sections_are in
      let all : records.items ≡ replayed made.sections = read-items (unreadable stop) records.items (replayed (k.sections old.journal)) was.reads ∙ ap replayed blank.sections_are in
      let does : Stands mid made.rules [] (start_at made now made.sections) = rw (all, blank.floor) at (starts made.rules blank.planner) in
      rw (start-place made now stop readable, start-gives made now stop readable)
      (after-settled (record { standing = record { desk = blank_desk; answers = [] }; sections = made.sections }) journal (past_reading stop) (start_at made now made.sections) [] (floor ∙ blank.floor) does rests finds same (settled was.tells))

  -- the reading failed
  pub unread-made : {old new : Actor S L J g h k} {out : StepOut}
      (made : VoterMade) (now : ℕ) (stop : Stop)
      → (k.order old.journal ≡ Some no_order → Read stop (k.sections old.journal) None (k.sections new.journal) (k.order new.journal))
      → new.planner ≡ old.planner → new.floor ≡ old.floor → out ≡ record no_out { calls = floor_calls old.floor }
      → Stays old made (place_of made [])
      → After (Stays new made) (place_of made (Started now stop ∷ [])) (start_given made [] now stop) outcomes.Journal out
  unread-made {old} {new} {out} made now stop read planner floor listed s =
      let blank : Stays old made (record { standing = record { desk = blank_desk; answers = [] }; sections = made.sections }) = rw (blank-standing made) at s in
      let was = read blank.order_is in
      let fails = unread-so (unreadable stop) (replayed (k.sections old.journal)) was.reads in
      rw (unread-place made now stop fails, unread-gives made now stop fails)
      (record {
        stays = record { floor = floor ∙ blank.floor; planner = rw planner s.planner; sections_are = (rw fails at was.leaves) ∙ ap (crashed (kept_by stop)) blank.sections_are; order_is = was.tells };
        outcome_is = refl;
        out_is = rw blank.floor at listed;
      })
