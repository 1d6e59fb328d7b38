-- What a voter does in a start or a step over any journal.
use Rattle.std.proofs.Common.{◌≡◌, ◌≢◌, ℕ, ◌+◌, ◌-◌, Bool, true, false, List, [], ◌∷◌, length, Option, Some, None, refl, ap, ◌∙◌, arith, inl, inr}
use Rattle.std.proofs.lemmas.Bool.Decides.{nat_tests}
use Rattle.std.specs.Global.{Vec}
use Rattle.simplex_values.specs.declared.answer.Answer.{Answer}
use Rattle.simplex_wire.specs.declared.artifact.Artifact.{Artifact}
use Rattle.model_rules.specs.Known.{Made}
use Rattle.simplex_journal.specs.Journal.{Section, replayed}
use Rattle.simplex_messages.specs.declared.step.Stop.{Stop}
use Rattle.simplex_messages.specs.declared.step.Stop.TheVariants as stops
use Rattle.simplex_messages.specs.declared.step.Outcome.{Outcome}
use Rattle.simplex_messages.specs.declared.step.Outcome.TheVariants as outcomes
use Rattle.simplex_messages.specs.declared.step.StepOut.{StepOut}
use Rattle.simplex_messages.specs.declared.voter.VoterInput.{VoterInput}
use Rattle.simplex_messages.specs.Step.{no_out}
use Rattle.model_steps.specs.Desk.{Doing, begun}
use Rattle.model_steps.specs.Performed.{Performed, performed}
use Rattle.model_steps.specs.Voter.{blank_desk, stepped, started}
use Rattle.model_steps.specs.VoterLife.{VoterMade, Given, Started, Stepped, Place, place_of, rest, unreadable, start_at, start_given, step_given}
use Rattle.simplex_wire.specs.declared.scheme.Scheme as schemes
use Rattle.simplex_types.specs.declared.elector.Elector as electors
use Rattle.simplex_journal.specs.declared.journal.Journal as journals
use Rattle.simplex_voter.specs.declared.planner.Planner.{Planner}
use Rattle.simplex_voter.specs.declared.actor.Actor.{Actor}
use Rattle.simplex_voter.specs.Actor.{StaysOver, StandsFor, StandsOver, VoterStands, Fares, FaresFirst, journal_of, floor_calls}
use Rattle.simplex_voter.specs.Turned.{IsOfJournal, Becomes, left_by, left_as, step_left, start_left, past_reading, FaultsAt}
use Rattle.simplex_voter.specs.Performing.{GaveOver, SettledOver, ReadOver, out_of}
use Rattle.simplex_voter.specs.Stands.{Stands, Planned, Does, Finds, rested}
use Rattle.simplex_voter.proofs.Over.{left-same}
use Rattle.simplex_voter.proofs.Lives.{blank-standing}
use Rattle.simplex_voter.proofs.Places.{stepped-place, idle-place, stepped-given, idle-given, start-place, start-gives, unread-gives}

-- ---- what a stop becomes

-- where no call is made that it names
abbrev pub unfailing : Stop → Stop
unfailing stops.None = stops.None
unfailing (stops.Cut call keep) = stops.Cut call keep
unfailing (stops.Fail call keep) = stops.None

unfailing-becomes : (stop : Stop) (made : ℕ) → Becomes stop made (unfailing stop)
unfailing-becomes stops.None made = tt
unfailing-becomes (stops.Cut call keep) made = inl refl
unfailing-becomes (stops.Fail call keep) made = tt

-- before the journal was read
abbrev pub unread_yet : Stop → Stop
unread_yet stops.None = stops.None
unread_yet (stops.Cut call keep) = stops.Cut call keep
unread_yet (stops.Fail call keep) = stops.Fail (call + 1) keep

past-yet : (turned : Stop) → past_reading (unread_yet turned) ≡ turned
past-yet stops.None = refl
past-yet (stops.Cut call keep) = refl
past-yet (stops.Fail call keep) = let e : call + 1 - 1 ≡ call = omega arith in ap (λ (n : ℕ). stops.Fail n keep) e

own-yet : (turned : Stop) → IsOfJournal turned → IsOfJournal (unread_yet turned)
own-yet stops.None own = tt
own-yet (stops.Cut call keep) own = own
own-yet (stops.Fail call keep) own = omega (arith, own)

cut-yet : (turned : Stop) (call keep : ℕ) → turned ≡ stops.Cut call keep → unread_yet turned ≡ stops.Cut call keep
cut-yet turned call keep same = rw same refl

becomes-yet : (stop turned : Stop) (made : ℕ) → Becomes (past_reading stop) made turned → Becomes stop made (unread_yet turned)
becomes-yet stops.None turned made b = own-yet turned b
becomes-yet (stops.Cut call keep) turned made (inl same) = inl (cut-yet turned call keep same)
becomes-yet (stops.Cut call keep) turned made (inr (own, before)) = inr (own-yet turned own, before)
becomes-yet (stops.Fail call keep) turned made b = own-yet turned b

own-readable : (turned : Stop) → IsOfJournal turned → unreadable (unread_yet turned) ≡ false
own-readable stops.None own = refl
own-readable (stops.Cut call keep) own = absurd own
own-readable (stops.Fail call keep) own = grind (arith, nat_tests, own)

cut-readable : (turned : Stop) (call keep : ℕ) → turned ≡ stops.Cut call keep → unreadable (unread_yet turned) ≡ false
cut-readable turned call keep same = rw same refl

readable-yet : (stop turned : Stop) (made : ℕ) → Becomes (past_reading stop) made turned → unreadable (unread_yet turned) ≡ false
readable-yet stops.None turned made b = own-readable turned b
readable-yet (stops.Cut call keep) turned made (inl same) = cut-readable turned call keep same
readable-yet (stops.Cut call keep) turned made (inr (own, before)) = own-readable turned own
readable-yet (stops.Fail call keep) turned made b = own-readable turned b

-- ---- what is left of the journal

step-leaves : (made : VoterMade) (past : List Given) (input : VoterInput) (now : ℕ) (stop turned : Stop) (doing : Doing) → stepped made.rules now (place_of made past).standing input ≡ Some doing
    → step_left made past input now stop turned ≡ left_as stop turned doing.calls (place_of made past).sections
unfolding step_left
step-leaves made past input now stop turned doing is = rw is refl

idle-leaves : (made : VoterMade) (past : List Given) (input : VoterInput) (now : ℕ) (stop turned : Stop) → stepped made.rules now (place_of made past).standing input ≡ None
    → step_left made past input now stop turned ≡ (place_of made past).sections
unfolding step_left
idle-leaves made past input now stop turned none = rw none refl

start-leaves : (made : VoterMade) (now : ℕ) (stop turned : Stop) → unreadable turned ≡ false
    → start_left made [] now stop turned ≡ left_as (past_reading stop) (past_reading turned) (start_at made now made.sections).calls made.sections
unfolding start_left place_of
start-leaves made now stop turned readable = rw readable refl

unread-leaves : (made : VoterMade) (now : ℕ) (stop turned : Stop) → unreadable turned ≡ true → start_left made [] now stop turned ≡ left_by stop stops.None made.sections
unfolding start_left place_of
unread-leaves made now stop turned unread = rw unread refl

-- the voter gave so much, left so much, and lies there unless the journal ended the step
pub record Went (IsAt : Place → Type 0) (place : Place) (given : Performed) (left now : List Section) (outcome : Outcome) (out : StepOut) : Type 0 where
  pub outcome_is : outcome ≡ given.outcome
  pub out_is : out ≡ given.out
  pub leaves : now ≡ left
  pub stays : outcome ≢ outcomes.Journal → IsAt place

module _ {S L J : Type 0} {g : schemes.Ghosts S} {h : electors.Ghosts L} {k : journals.Ghosts J} where
  went-settled : {actor : Actor S L J g h k} {made : VoterMade} {mid : Planner S L g h} {planned : StepOut} {outcome : Outcome} {out : StepOut} (before : Place) (journal : J) (stop : Stop) (doing : Doing) (answers : List (ℕ × Answer))
      → actor.floor ≡ made.floor
      → Stands mid made.rules answers doing
      → Does mid actor.planner (λ made. rested) → Finds mid (λ made. out_of) planned
      → k.sections journal ≡ before.sections
      → (o : SettledOver stop planned (k.sections journal) outcome out (k.sections actor.journal))
      → Went (StaysOver actor made) (record { standing = rest doing answers; sections = (performed o.turned doing before.sections).sections })
      (performed o.turned doing before.sections) (left_as stop o.turned doing.calls before.sections) (k.sections actor.journal) outcome out
  went-settled before journal stop doing answers floor does rests finds same o =
      let gave : GaveOver stop o.turned doing before.sections _ _ _ = rw same at (o.gives doing (finds _ _ _ does)) in
      record {
        outcome_is = gave.outcome_is;
        out_is = gave.out_is;
        leaves = gave.leaves;
        stays = λ going. record {
          floor = floor;
          planner = rests _ _ _ does;
          sections_are = gave.leaves ∙ left-same stop o.turned doing _ before.sections o.becomes (λ ended. going (gave.outcome_is ∙ ended));
        };
      }

  -- ---- a step

  step-went-by : {old new : Actor S L J g h k} {mid : Planner S L g h} {planned : StepOut} {outcome : Outcome} {out : StepOut}
      (made : VoterMade) (past : List Given) (input : VoterInput) (now : ℕ) (stop : Stop) (done : Option Doing) → stepped made.rules now (place_of made past).standing input ≡ done
      → Planned (Stands mid made.rules (place_of made past).standing.answers) (begun (place_of made past).standing.desk) done true
      → Does mid new.planner (λ made. rested) → Finds mid (λ made. out_of) planned
      → (o : SettledOver stop planned (k.sections old.journal) outcome out (k.sections new.journal))
      → new.floor ≡ old.floor
      → StaysOver old made (place_of made past)
      → Went (StaysOver new made) (place_of made (Stepped input now o.turned ∷ past)) (step_given made past input now o.turned) (step_left made past input now stop o.turned) (k.sections new.journal) outcome out
  step-went-by made past input now stop None is plan rests finds o floor s = absurd (let e = plan.holds in cc)
  step-went-by made past input now stop (Some doing) is plan rests finds o floor s =
      rw (stepped-place made past input now o.turned doing is, stepped-given made past input now o.turned doing is, step-leaves made past input now stop o.turned doing is)
      (went-settled (place_of made past) _ stop doing (place_of made past).standing.answers (floor ∙ s.floor) plan.does rests finds s.sections_are o)

  pub step-fares : {old new : Actor S L J g h k} {mid : Planner S L g h} {planned : StepOut} {outcome : Outcome} {out : StepOut}
      (input : VoterInput) (now : ℕ) (stop : Stop)
      → ((made : VoterMade) (past : List Given) → StaysOver old made (place_of made past)
      → Planned (Stands mid made.rules (place_of made past).standing.answers) (begun (place_of made past).standing.desk) (stepped made.rules now (place_of made past).standing input) true)
      → Does mid new.planner (λ made. rested) → Finds mid (λ made. out_of) planned
      → SettledOver stop planned (k.sections old.journal) outcome out (k.sections new.journal)
      → new.floor ≡ old.floor
      → Fares old new stop outcome out (λ turned. Stepped input now turned) (λ turned made past. step_given made past input now turned) (λ turned made past. step_left made past input now stop turned)
  unfolding StandsOver
  step-fares {old} {new} {mid} {planned} {outcome} {out} input now stop plans rests finds o floor =
      record {
        turned = o.turned;
        becomes = o.becomes;
        gives = λ made past s. ((went made past s).outcome_is, (went made past s).out_is);
        leaves = λ made past s. (went made past s).leaves;
        stands = λ going made past s. (went made past s).stays going;
      }
    where
      went : (made : VoterMade) (past : List Given) → (s : StaysOver old made (place_of made past))
          → Went (StaysOver new made) (place_of made (Stepped input now o.turned ∷ past)) (step_given made past input now o.turned) (step_left made past input now stop o.turned) (k.sections new.journal) outcome out
      went made past s = step-went-by made past input now stop (stepped made.rules now (place_of made past).standing input) refl (plans made past s) rests finds o floor s

  idle-went-by : {old new : Actor S L J g h k} {out : StepOut}
      (made : VoterMade) (past : List Given) (input : VoterInput) (now : ℕ) (stop turned : Stop) (done : Option Doing) → stepped made.rules now (place_of made past).standing input ≡ done
      → Planned (Stands new.planner made.rules (place_of made past).standing.answers) (begun (place_of made past).standing.desk) done false
      → new.floor ≡ old.floor → new.journal ≡ old.journal → out ≡ no_out
      → StaysOver old made (place_of made past)
      → Went (StaysOver new made) (place_of made (Stepped input now turned ∷ past)) (step_given made past input now turned) (step_left made past input now stop turned) (k.sections new.journal) outcomes.Idle out
  idle-went-by made past input now stop turned (Some doing) is plan floor journal empty s = absurd (let e = plan.holds in cc)
  idle-went-by made past input now stop turned None is plan floor journal empty s =
      rw (idle-place made past input now turned is, idle-given made past input now turned is, idle-leaves made past input now stop turned is)
      (record {
        outcome_is = refl;
        out_is = empty;
        leaves = rw journal s.sections_are;
        stays = λ going. record { floor = floor ∙ s.floor; planner = plan.does; sections_are = rw journal s.sections_are };
      })

  pub idle-fares : {old new : Actor S L J g h k} {out : StepOut}
      (input : VoterInput) (now : ℕ) (stop : Stop)
      → ((made : VoterMade) (past : List Given) → StaysOver old made (place_of made past)
      → Planned (Stands new.planner made.rules (place_of made past).standing.answers) (begun (place_of made past).standing.desk) (stepped made.rules now (place_of made past).standing input) false)
      → new.floor ≡ old.floor → new.journal ≡ old.journal → out ≡ no_out
      → Fares old new stop outcomes.Idle out (λ turned. Stepped input now turned) (λ turned made past. step_given made past input now turned) (λ turned made past. step_left made past input now stop turned)
  unfolding StandsOver
  idle-fares {old} {new} {out} input now stop plans floor journal empty =
      record {
        turned = unfailing stop;
        becomes = unfailing-becomes stop (length out.calls);
        gives = λ made past s. ((went made past s).outcome_is, (went made past s).out_is);
        leaves = λ made past s. (went made past s).leaves;
        stands = λ going made past s. (went made past s).stays going;
      }
    where
      went : (made : VoterMade) (past : List Given) → (s : StaysOver old made (place_of made past))
          → Went (StaysOver new made) (place_of made (Stepped input now (unfailing stop) ∷ past)) (step_given made past input now (unfailing stop)) (step_left made past input now stop (unfailing stop)) (k.sections new.journal) outcomes.Idle out
      went made past s = idle-went-by made past input now stop (unfailing stop) (stepped made.rules now (place_of made past).standing input) refl (plans made past s) floor journal empty s

  -- ---- a start

  start-went : {old new : Actor S L J g h k} {mid : Planner S L g h} {planned : StepOut} {outcome : Outcome} {out : StepOut} (records : Vec Artifact)
      (journal : J) (made : VoterMade) (now : ℕ) (stop : Stop)
      → ReadOver stop (k.sections old.journal) (Some records) (k.sections journal)
      → ((made : Made) → Stands old.planner made [] (begun blank_desk) → Stands mid made [] (started made now old.floor records.items))
      → Does mid new.planner (λ made. rested) → Finds mid (λ made. out_of) planned
      → (o : SettledOver (past_reading stop) planned (k.sections journal) outcome out (k.sections new.journal))
      → new.floor ≡ old.floor
      → StaysOver old made (place_of made [])
      → Went (StaysOver new made) (place_of made (Started now (unread_yet o.turned) ∷ [])) (start_given made [] now (unread_yet o.turned)) (start_left made [] now stop (unread_yet o.turned)) (k.sections new.journal) outcome out
  start-went {old} {new} {mid} {planned} {outcome} {out} records journal made now stop read starts rests finds o floor s =
      let blank : StaysOver old made (record { standing = record { desk = blank_desk; answers = [] }; sections = made.sections }) = rw (blank-standing made) at s in
      let readable = readable-yet stop o.turned _ o.becomes in
      let all : records.items ≡ replayed made.sections = read.0 ∙ ap replayed blank.sections_are in
      let does : Stands mid made.rules [] (start_at made now made.sections) = rw (all, blank.floor) at (starts made.rules blank.planner) in
      rw (start-place made now (unread_yet o.turned) readable, start-gives made now (unread_yet o.turned) readable, start-leaves made now stop (unread_yet o.turned) readable, past-yet o.turned)
      (went-settled (record { standing = record { desk = blank_desk; answers = [] }; sections = made.sections }) journal (past_reading stop) (start_at made now made.sections) [] (floor ∙ blank.floor) does rests finds (read.1 ∙ blank.sections_are) o)

  -- the journal was read
  pub start-fares : {old new : Actor S L J g h k} {mid : Planner S L g h} {planned : StepOut} {outcome : Outcome} {out : StepOut} (records : Vec Artifact)
      (journal : J) (now : ℕ) (stop : Stop)
      → ReadOver stop (k.sections old.journal) (Some records) (k.sections journal)
      → ((made : Made) → Stands old.planner made [] (begun blank_desk) → Stands mid made [] (started made now old.floor records.items))
      → Does mid new.planner (λ made. rested) → Finds mid (λ made. out_of) planned
      → SettledOver (past_reading stop) planned (k.sections journal) outcome out (k.sections new.journal)
      → new.floor ≡ old.floor
      → FaresFirst old new stop outcome out (λ turned. Started now turned) (λ turned made past. start_given made past now turned) (λ turned made past. start_left made past now stop turned)
  unfolding StandsOver
  start-fares {old} {new} {mid} {planned} {outcome} {out} records journal now stop read starts rests finds o floor =
      record {
        turned = unread_yet o.turned;
        becomes = inr (becomes-yet stop o.turned _ o.becomes);
        gives = λ made s. ((went made s).outcome_is, (went made s).out_is);
        leaves = λ made s. (went made s).leaves;
        stands = λ going made s. (went made s).stays going;
      }
    where
      went : (made : VoterMade) → (s : StaysOver old made (place_of made []))
          → Went (StaysOver new made) (place_of made (Started now (unread_yet o.turned) ∷ [])) (start_given made [] now (unread_yet o.turned)) (start_left made [] now stop (unread_yet o.turned)) (k.sections new.journal) outcome out
      went made s = start-went records journal made now stop read starts rests finds o floor s

  -- the reading failed
  pub unread-fares : {old new : Actor S L J g h k} {out : StepOut}
      (now : ℕ) (stop : Stop)
      → ReadOver stop (k.sections old.journal) None (k.sections new.journal)
      → new.floor ≡ old.floor → out ≡ record no_out { calls = floor_calls old.floor }
      → FaresFirst old new stop outcomes.Journal out (λ turned. Started now turned) (λ turned made past. start_given made past now turned) (λ turned made past. start_left made past now stop turned)
  unfolding StandsOver
  unread-fares {old} {new} {out} now stop read floor listed =
      record {
        turned = stops.Fail 1 0;
        becomes = inl refl;
        gives = λ made s. rw (unread-gives made now (stops.Fail 1 0) refl) (refl, rw s.floor at listed);
        leaves = λ made s.
            let blank : StaysOver old made (record { standing = record { desk = blank_desk; answers = [] }; sections = made.sections }) = rw (blank-standing made) at s in
            rw (unread-leaves made now stop (stops.Fail 1 0) refl) (read ∙ ap (left_by stop stops.None) blank.sections_are);
        stands = λ going made s. absurd (going refl);
      }

-- what is known of a voter over a journal that tells its order is known over any
pub known-over : {S L J : Type 0} {g : schemes.Ghosts S} {h : electors.Ghosts L} {k : journals.Ghosts J} (told : Bool) (actor : Actor S L J g h k) (made : VoterMade) (past : List Given)
    → VoterStands told actor made past → StandsOver actor made past
unfolding StandsFor StandsOver
known-over true actor made past s = record { floor = s.floor; planner = s.planner; sections_are = s.sections_are }
known-over false actor made past s = s

-- what the journal of a voter holds
pub held-over : {S L J : Type 0} {g : schemes.Ghosts S} {h : electors.Ghosts L} {k : journals.Ghosts J} (actor : Actor S L J g h k) (made : VoterMade) (past : List Given)
    → StandsOver actor made past → k.sections (journal_of actor) ≡ (place_of made past).sections
unfolding StandsOver
held-over actor made past stands = stands.sections_are

-- the count of faults stood when the journal was read
pub faults-later : (outcome : Outcome) (before mid now : ℕ) → mid ≡ before → FaultsAt outcome mid now → FaultsAt outcome before now
faults-later outcome before mid now same faults = rw same at faults
