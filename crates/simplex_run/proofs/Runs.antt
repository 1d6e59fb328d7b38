-- Runs that are part of the way through their events.
use Rattle.std.proofs.Common.{◌≡◌, ℕ, List, [], ◌∷◌, ◌++◌, drop, get_or, length, ◌<◌, ◌≤◌, ◌+◌, ◌∙◌, sym, refl, ap, arith, false}
use Rattle.std.specs.Prelude.{Option, Some, None, Result, Ok, Err, map, reverse}
use Rattle.std.specs.Option.{option_map}
use Rattle.std.proofs.lemmas.List.{drop_more, drop_all, reverse-append, length-drop}
use Rattle.simplex_transcript.specs.declared.setup.Setup.{Setup}
use Rattle.simplex_transcript.specs.declared.event.Event.{Event}
use Rattle.simplex_transcript.specs.declared.entry.Entry.{Entry}
use Rattle.simplex_transcript.specs.declared.field.Field.{Field}
use Rattle.simplex_transcript.specs.declared.refusal.RunError.{RunError}
use Rattle.simplex_transcript.specs.declared.refusal.RunError.TheVariants as errors
use Rattle.simplex_transcript.specs.declared.refusal.Refusal.{Refusal}
use Rattle.model_run.specs.Setting.{Setting}
use Rattle.model_run.specs.Life.{Noted}
use Rattle.model_run.specs.Entries.{entry_of}
use Rattle.model_run.specs.Setups.{first_bad}
use Rattle.model_run.specs.Run.{refused, unless_refused, run, transcript_of, unless_bad}
use Rattle.simplex_network.specs.declared.network.Network.{Network}
use Rattle.simplex_network.specs.Answer.{is_memory, setup_refusal, IsRefused}
use Rattle.simplex_network.specs.Stands.{StandsFor, MadeBy, Grows, Enters, Refuses, entered}

-- in order of events
abbrev pub in_order : List Noted → List Entry
in_order before = reverse (map (λ n. n.entry) before)

-- the network made the entries so far, and the events that are left lead to where all of them do
pub record Ran (network : Network) (setting : Setting) (events left : List Event) (entries : List Entry) (number : ℕ) : Type 0 where
  pub before : List Noted
  pub stands : StandsFor network setting before
  pub ends : run setting before left ≡ run setting [] events
  pub made : in_order before ≡ entries
  pub count : number ≡ length before
  pub total : length before + length left ≡ length events

pub ran-none : (network : Network) (setting : Setting) (events : List Event) → StandsFor network setting [] → Ran network setting events events [] 0
ran-none network setting events stands =
    record { before = []; stands = stands; ends = refl; made = refl; count = refl; total = omega arith }

-- what was noted where the entry is this
noted_of : (entry : Entry) (r : Result Noted RunError) → entered r ≡ Ok entry → (noted : Noted) × (r ≡ Ok noted) × (noted.entry ≡ entry)
noted_of entry (Ok noted) is = (noted, refl, cc)
noted_of entry (Err error) is = absurd (cc)

in_order-push : (before : List Noted) (noted : Noted) → in_order (noted ∷ before) ≡ in_order before ++ noted.entry ∷ []
in_order-push before noted = rw (reverse-append (noted.entry ∷ []) (map (λ n. n.entry) before)) refl

-- the next event, and those behind it
next_of : (events : List Event) (i : ℕ) (event : Event) → i < length events → event ≡ get_or events i event → drop i events ≡ event ∷ drop (i + 1) events
next_of events i event lt is = drop_more events i event lt ∙ ap (λ e. e ∷ drop (i + 1) events) (sym is)

pub ran-more : (old new : Network) (setting : Setting) (events : List Event) (entries : List Entry) (i number : ℕ) (event : Event) (entry : Entry) → i < length events
    → event ≡ get_or events i event → Ran old setting events (drop i events) entries number → Grows old new event entry → Enters old event entry
    → Ran new setting events (drop (i + 1) events) (entries ++ entry ∷ []) (number + 1)
unfolding run unless_refused
ran-more old new setting events entries i number event entry lt at ran grows enters =
    let ends : run setting ran.before (event ∷ drop (i + 1) events) ≡ run setting [] events =
    ap (λ left. run setting ran.before left) (sym (next_of events i event lt at)) ∙ ran.ends in
    let noted = noted_of entry (entry_of setting ran.before event) (enters setting ran.before ran.stands) in
    record {
      before = noted.0 ∷ ran.before;
      stands = grows setting ran.before noted.0 ran.stands noted.1;
      ends = rw noted.1 at ends;
      made = in_order-push ran.before noted.0 ∙ ap (λ es. es ++ noted.0.entry ∷ []) ran.made ∙ ap (λ e. entries ++ e ∷ []) noted.2;
      count = omega (arith, ran.count);
      total = omega (arith, ran.total, length-drop i events, length-drop (i + 1) events);
    }

pub ran-refused : (network : Network) (setting : Setting) (events : List Event) (entries : List Entry) (i number : ℕ) (event : Event) (error : RunError) → i < length events
    → event ≡ get_or events i event → Ran network setting events (drop i events) entries number → Refuses network event error
    → run setting [] events ≡ Err (refused error (number + 1))
unfolding run unless_refused
ran-refused network setting events entries i number event error lt at ran refuses =
    let ends : run setting ran.before (event ∷ drop (i + 1) events) ≡ run setting [] events =
    ap (λ left. run setting ran.before left) (sym (next_of events i event lt at)) ∙ ran.ends in
    sym (rw (refuses setting ran.before ran.stands) at ends) ∙ ap (λ n. Err (refused error (n + 1))) (sym ran.count)

-- all events are made
all_made : (network : Network) (setting : Setting) (events : List Event) (entries : List Entry) (i number : ℕ) → length events ≤ i
    → (ran : Ran network setting events (drop i events) entries number) → run setting [] events ≡ Ok ran.before
unfolding run
all_made network setting events entries i number le ran =
    sym (ap (λ left. run setting ran.before left) (sym (drop_all i events le)) ∙ ran.ends)

pub ran-all : (network : Network) (setting : Setting) (events : List Event) (entries : List Entry) (i number : ℕ) → length events ≤ i
    → Ran network setting events (drop i events) entries number → transcript_of (run setting [] events) ≡ Ok entries
ran-all network setting events entries i number le ran =
    ap (λ r. transcript_of r) (all_made network setting events entries i number le ran) ∙ ap (λ es. Ok es) ran.made

pub ran-network : (network : Network) (setting : Setting) (events : List Event) (entries : List Entry) (i number : ℕ) → length events ≤ i
    → Ran network setting events (drop i events) entries number → MadeBy network setting (run setting [] events)
ran-network network setting events entries i number le ran = rw (all_made network setting events entries i number le ran) ran.stands

-- ---- a setup that is refused

reason_is : (reason : Option RunError) (error : RunError) → is_memory error ≡ false → IsRefused reason error → reason ≡ Some error
reason_is reason errors.Memory whole is = absurd (cc)
reason_is reason _ whole is = is

bad_by : (bad : Option Field) (error : RunError) (ran : Result (List Entry) Refusal) → option_map errors.BadSetup bad ≡ Some error
    → unless_bad bad ran ≡ Err (refused error 0)
bad_by None error ran is = absurd (cc)
bad_by (Some field) error ran is = let it : errors.BadSetup field ≡ error = cc in rw it refl

-- where it is refused, the run is
pub setup-refused : (setup : Setup) (error : RunError) (ran : Result (List Entry) Refusal) → is_memory error ≡ false
    → IsRefused (setup_refusal setup) error → unless_bad (first_bad setup) ran ≡ Err (refused error 0)
setup-refused setup error ran whole is = bad_by (first_bad setup) error ran (reason_is (setup_refusal setup) error whole is)

none_bad : (bad : Option Field) → option_map errors.BadSetup bad ≡ None → bad ≡ None
none_bad None is = refl
none_bad (Some field) is = absurd (cc)

-- where it is not refused, no item breaks its limit
pub setup-good : (setup : Setup) → setup_refusal setup ≡ None → first_bad setup ≡ None
setup-good setup is = none_bad (first_bad setup) is

-- ---- all of a run

pub ran-done : (network : Network) (setting : Setting) (events : List Event) (entries : List Entry) (i number : ℕ) → setup_refusal setting.setup ≡ None
    → length events ≤ i → Ran network setting events (drop i events) entries number
    → unless_bad (first_bad setting.setup) (transcript_of (run setting [] events)) ≡ Ok entries
ran-done network setting events entries i number allowed le ran = rw (setup-good setting.setup allowed) (ran-all network setting events entries i number le ran)

pub ran-ends : (network : Network) (setting : Setting) (events : List Event) (entries : List Entry) (i number : ℕ) (event : Event) (error : RunError) (refusal : Refusal)
    → setup_refusal setting.setup ≡ None → i < length events → event ≡ get_or events i event → Ran network setting events (drop i events) entries number
    → refusal ≡ refused error (number + 1) → is_memory refusal.error ≡ false → (is_memory error ≡ false → Refuses network event error)
    → unless_bad (first_bad setting.setup) (transcript_of (run setting [] events)) ≡ Err refusal
ran-ends network setting events entries i number event error refusal allowed lt at ran is whole refuses =
    rw (is, setup-good setting.setup allowed)
    (ap (λ r. transcript_of r) (ran-refused network setting events entries i number event error lt at ran (refuses (rw is at whole))))
