-- Which nodes run is read from the record.
use Rattle.std.proofs.Common.{◌≡◌, ◌-◌, ◌==◌, ◌&&◌, ◌||◌, Bool, true, false, List, [], ◌∷◌, map, Option, Some, None, refl, sym, ap, ◌∙◌, subst, inl, inr, if◌then◌else◌}
use Rattle.simplex_types.specs.declared.floor.Floor.{Floor}
use Rattle.simplex_journal.specs.Journal.{Section, replayed}
use Rattle.simplex_messages.specs.declared.step.Outcome.{Outcome}
use Rattle.simplex_messages.specs.declared.step.Outcome.TheVariants as outcomes
use Rattle.simplex_messages.specs.declared.step.Stop.{Stop}
use Rattle.simplex_messages.specs.declared.step.Stop.TheVariants as stops
use Rattle.simplex_transcript.specs.declared.entry.Took.{Took}
use Rattle.simplex_transcript.specs.declared.entry.Took.TheVariants as tooks
use Rattle.simplex_transcript.specs.declared.event.Event.{Event}
use Rattle.simplex_transcript.specs.declared.event.Event.TheVariants as events
use Rattle.simplex_transcript.specs.declared.node.Node.{Node}
use Rattle.model_steps.specs.Desk.{Doing}
use Rattle.model_steps.specs.Performed.{performed}
use Rattle.model_steps.specs.Voter as voter
use Rattle.model_steps.specs.VoterLife.{unread, start_performed}
use Rattle.model_steps.specs.Engine as engine
use Rattle.model_steps.specs.Engine.{EngineMade, Did, Began, by_voter, runs, sections_of, is_whole}
use Rattle.model_run.specs.Setting.{Setting}
use Rattle.model_run.specs.Kinds.{runs_engine}
use Rattle.model_run.specs.Life.{Noted, Life, Stopped, Running, clock_of, is_of, going_on, sections_in, after, life_in}
use Rattle.model_run.specs.Members.{floor_of, rules_of, engine_of}
use Rattle.model_run.specs.Requests.{is_start}
use Rattle.model_run.specs.Entries.{noted_with, noted_blank, took_of}
use Rattle.law_run.specs.Histories.{IsRun}
use Rattle.law_run.proofs.Events.{engine_at, given_start, begun_gives, never_idle, start_never_refused}
use Rattle.law_run.proofs.Further.{same_self, life_then, life_still}
use Rattle.model_audit.specs.Record.{record_entry}
use Rattle.model_audit.specs.Rebuilt.{rebuilt_entry, recorded}
use Rattle.model_audit.specs.Running.{is_done, is_broken, is_crash, runs_at}
use Rattle.law_requests.specs.Turns.{HasStarted, HasHeard, HasStepped, WasAnswered, HasCrashed, IsTurnOf}
use Rattle.law_requests.proofs.Turning.{entry_turns}
use Rattle.law_audit.specs.Recording.{runs_in}

same_runs : (before : List Noted) (node : Node) → runs_at (map recorded before) node ≡ runs_at before node
unfolding runs_at rebuilt_entry record_entry
same_runs [] node = refl
same_runs (noted ∷ before) node = rw (same_runs before node) refl

-- a start is never idle
pub start_never_idle : (stop : Stop) (floor : Floor) (d : Doing) (js : List Section) → (start_performed stop floor d js).outcome ≡ outcomes.Idle → ⊥
unfolding start_performed
start_never_idle stops.None floor d js e = never_idle stops.None d js e
start_never_idle (stops.Cut call keep) floor d js e = never_idle (stops.Cut call keep) d js e
start_never_idle (stops.Fail call keep) floor d js e = at (call == 1) e
  where
    at : (b : Bool) → (if b then unread floor d keep js else performed (stops.Fail (call - 1) keep) d js).outcome ≡ outcomes.Idle → ⊥
    at true h = cc
    at false h = never_idle (stops.Fail (call - 1) keep) d js h

done_whole : (o : Outcome) → (o ≡ outcomes.Idle → ⊥) → (o ≡ outcomes.Refused → ⊥) → is_done o ≡ is_whole o
done_whole outcomes.Done n r = refl
done_whole outcomes.Idle n r = absurd (n refl)
done_whole outcomes.Cut n r = refl
done_whole outcomes.Journal n r = refl
done_whole outcomes.Refused n r = absurd (r refl)

goes_or_stops : (made : EngineMade) (past : List Did) → runs_in (going_on made past) ≡ runs past
goes_or_stops made past = at (runs past)
  where
    at : (b : Bool) → runs_in (if b then Running made past else Stopped (sections_of made past)) ≡ b
    at true = refl
    at false = refl

unbroken : (o : Outcome) → (if is_broken o then false else true) ≡ is_whole o
unbroken outcomes.Done = refl
unbroken outcomes.Idle = refl
unbroken outcomes.Cut = refl
unbroken outcomes.Journal = refl
unbroken outcomes.Refused = refl

module _ (setting : Setting) (node : Node) where
  abbrev Same : List Noted → Type 0
  Same noted = runs_at noted node ≡ runs_in (life_in setting noted node)

  module _ (before : List Noted) (old : Same before) where
    still : (noted : Noted) → is_of node noted.event ≡ false → Same (noted ∷ before)
    unfolding runs_at
    still noted e =
        ap (λ b. if b && (is_start noted.event || is_crash noted.event || is_broken noted.entry.outcome) then is_start noted.event && is_done noted.entry.outcome else runs_at before node) e
        ∙ old ∙ ap runs_in (sym (life_still setting noted before node e))

    -- the running engine goes on
    goes : (made : EngineMade) (past : List Did) (event : Event) (took : Option Took) (did : Did) → life_in setting before node ≡ Running made past → is_of node event ≡ true → is_start event ≡ false → is_crash event ≡ false
        → after setting event (Some did) (Running made past) ≡ going_on made (did ∷ past) → Same (noted_with setting.setup before event node took did ∷ before)
    unfolding runs_at runs
    goes made past event took did running of start crash on =
        let noted = noted_with setting.setup before event node took did in
        ap (λ b. if b && (is_start event || is_crash event || is_broken did.outcome) then is_start event && is_done did.outcome else runs_at before node) of
        ∙ ap (λ b. if b || is_crash event || is_broken did.outcome then b && is_done did.outcome else runs_at before node) start
        ∙ ap (λ b. if b || is_broken did.outcome then false else runs_at before node) crash
        ∙ ap (λ b. if is_broken did.outcome then false else b) (old ∙ ap runs_in running)
        ∙ unbroken did.outcome
        ∙ sym (goes_or_stops made (did ∷ past))
        ∙ ap runs_in (sym on)
        ∙ ap (λ (l : Life). runs_in (after setting event (Some did) l)) (sym running)
        ∙ ap runs_in (sym (life_then setting noted before node of))

    started : (noted : Noted) → HasStarted setting before node noted → Same (noted ∷ before)
    unfolding runs_at runs after
    started noted b =
        let now = clock_of before in
        let made = engine_at setting node b.floor b.sections in
        let did = engine.begun made now b.stop in
        let event = events.Start node b.floor b.stop in
        let new = noted_with setting.setup before event node (Some tooks.Floor) did in
        let doing = voter.started (rules_of setting node.member now) now (floor_of setting.genesis b.floor) (replayed b.sections) in
        let same : did ≡ by_voter Began now b.stop (given_start setting node b.floor b.sections now b.stop) = begun_gives setting node b.floor b.sections now b.stop in
        let ends : did.outcome ≡ (start_performed b.stop (floor_of setting.genesis b.floor) doing b.sections).outcome = ap (λ (x : Did). x.outcome) same in
        subst (λ (n : Noted). Same (n ∷ before)) b.is
        (ap (λ t. if t && (is_start event || is_crash event || is_broken did.outcome) then is_start event && is_done did.outcome else runs_at before node) (same_self node)
        ∙ done_whole did.outcome (λ e. start_never_idle b.stop (floor_of setting.genesis b.floor) doing b.sections (sym ends ∙ e)) (λ e. start_never_refused b.stop (floor_of setting.genesis b.floor) doing b.sections (sym ends ∙ e))
        ∙ sym (goes_or_stops made (did ∷ []))
        ∙ ap (λ (l : Life). runs_in (going_on (engine_of setting node.member (floor_of setting.genesis b.floor) (sections_in l)) (did ∷ []))) (sym b.stopped)
        ∙ ap runs_in (sym (life_then setting new before node (same_self node))))

    heard : (noted : Noted) → HasHeard setting before node noted → Same (noted ∷ before)
    unfolding after
    heard noted b =
        subst (λ (n : Noted). Same (n ∷ before)) b.is
        (goes b.made b.past (events.Deliver node b.ref) (Some (tooks.Packet b.ref)) (engine.heard b.made b.past b.packet.from.member b.packet.channel b.packet.bytes (clock_of before)) b.running (same_self node) refl refl refl)

    stepped : (noted : Noted) → HasStepped setting before node noted → Same (noted ∷ before)
    unfolding after
    stepped noted b =
        let did = engine.stepped b.made b.past b.source (clock_of before) b.stop in
        subst (λ (n : Noted). Same (n ∷ before)) b.is (goes b.made b.past (events.Step node b.source b.stop) (took_of before node b.made b.past did) did b.running (same_self node) refl refl refl)

    replied : (noted : Noted) → WasAnswered setting before node noted → Same (noted ∷ before)
    unfolding after
    replied noted b =
        subst (λ (n : Noted). Same (n ∷ before)) b.is
        (goes b.made b.past (events.Answer node b.ref b.answer) None (engine.replied b.number b.answer (clock_of before)) b.running (same_self node) refl refl refl)

    crashed : (noted : Noted) → HasCrashed setting before node noted → Same (noted ∷ before)
    unfolding runs_at after
    crashed noted b =
        let new = noted_blank before (events.Crash node) (Some node) in
        subst (λ (n : Noted). Same (n ∷ before)) b.is
        (ap (λ t. if t && (is_start (events.Crash node) || is_crash (events.Crash node) || is_broken outcomes.Done) then is_start (events.Crash node) && is_done outcomes.Done else runs_at before node) (same_self node)
        ∙ ap runs_in (sym (life_then setting new before node (same_self node))))

    turned : (noted : Noted) → IsTurnOf setting before node noted → Same (noted ∷ before)
    turned noted t = elim t [
      | inl e ↦ still noted e
      | inr a ↦ elim a [
        | inl s ↦ started noted s
        | inr b ↦ elim b [
          | inl h ↦ heard noted h
          | inr c ↦ elim c [
            | inl p ↦ stepped noted p
            | inr d ↦ elim d [
              | inl w ↦ replied noted w
              | inr z ↦ crashed noted z
            ]
          ]
        ]
      ]
    ]

  runs_so : runs_engine setting.setup node.member ≡ true → (noted : List Noted) → IsRun setting noted → Same noted
  unfolding IsRun life_in runs_at
  runs_so good [] r = refl
  runs_so good (noted ∷ before) r = turned before (runs_so good before r.2) noted (entry_turns setting before node good r.0 noted r.1)

pub runs_read : (setting : Setting) (noted : List Noted) (node : Node) → IsRun setting noted → runs_engine setting.setup node.member ≡ true → runs_at (map recorded noted) node ≡ runs_in (life_in setting noted node)
runs_read setting noted node ran good = same_runs noted node ∙ runs_so setting node good noted ran
