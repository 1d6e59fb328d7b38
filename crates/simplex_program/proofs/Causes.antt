-- What the cause of an ending means for a source that tells its bytes.
use Rattle.std.proofs.Common.{◌≡◌, ◌<◌, ◌≤◌, ◌⊎◌, ℕ, nat_lt, List, [], ◌++◌, length, Option, Some, None, IfSome, String, Global, inl, inr, refl, sym, ap, ◌∙◌, lit≤, subst, if◌then◌else◌, arith, length-append, append-nil}
use Rattle.std.proofs.lemmas.Bool.Decides.{nat_tests}
use Rattle.std.specs.Prelude.{Result, Ok, Err}
use Rattle.simplex_transcript.specs.declared.event.Event.{Event}
use Rattle.simplex_transcript.specs.declared.entry.Entry.{Entry}
use Rattle.simplex_transcript.specs.declared.refusal.RunError.{RunError}
use Rattle.simplex_transcript.specs.declared.refusal.Refusal.{Refusal}
use Rattle.simplex_transcript.specs.declared.setup.Setup.{Setup}
use Rattle.simplex_form.specs.declared.input.Input.{Input}
use Rattle.simplex_form.specs.Input.{input_of}
use Rattle.model_run.specs.Setting.{at_epoch_genesis}
use Rattle.model_run.specs.Run.{Run, run, refused}
use Rattle.law_run.specs.Complete.{IsOneEach}
use Rattle.law_run.specs.Limits.{KeepsTheLimit}
use Rattle.law_run.specs.OneChain.{ReportOneChain}
use Rattle.law_run.specs.Safe.{RunsSafely}
use Rattle.law_run.specs.Sayings.{Each}
use Rattle.simplex_text.specs.Lines.{PrintedRun}
use Rattle.simplex_generator.specs.Setup.{setup_of}
use Rattle.simplex_generator.specs.Summary.{summary}
use Rattle.simplex_generator.specs.Generated.{generated}
use Rattle.simplex_run.specs.declared.run.Transcript.{Transcript}
use Rattle.simplex_network.specs.Stands.{MadeBy}
use Rattle.simplex_program.specs.declared.exit.Exit.{Exit}
use Rattle.simplex_program.specs.declared.exit.Exit.TheVariants as exits
use Rattle.simplex_program.specs.declared.exit.Exit.TheVariants.{Done}
use Rattle.simplex_program.specs.declared.command.Command.TheVariants as commands
use Rattle.simplex_program.specs.declared.text.Telling.{Telling}
use Rattle.simplex_program.specs.declared.text.Telling.TheVariants as tellings
use Rattle.simplex_program.specs.Words.{Says, AreTaken, AsksForRun}
use Rattle.simplex_program.proofs.Commands.{one_number, not_both, asked_are_taken}
use Rattle.simplex_io.specs.declared.read.TheConstants.{LIMIT}
use Rattle.simplex_program.specs.Exit.{Ending, Ran, Refused, BadWords, BadInput, TooLong, ReadFault, WriteFault, Memory, told, text_of}
use Rattle.simplex_io.specs.Io.{Takes, TakesAll, TakesWithin, Adds}
use Rattle.simplex_program.specs.Whole.{WholeRun, SaysWhole}
use Rattle.simplex_program.specs.Cause.{ending_of_run, ending_of_input, ending_of, ending_for, events_in, events_of, LeadsTo, IsRunOf, Cause, IsCut, IsFault}

takes_none : (o : Option (List ℕ)) → Takes o [] o
takes_none None = tt
takes_none (Some xs) = refl

-- the bytes that were taken are the first of those that were there
rest_of : (all bytes : List ℕ) (new : Option (List ℕ)) → Takes (Some all) bytes new → (rest : List ℕ) × (new ≡ Some rest) × (all ≡ bytes ++ rest)
rest_of all bytes None e = absurd e
rest_of all bytes (Some rest) e = (rest, refl, e)

pick_small : (n limit : ℕ) (x y : Ending) → n ≤ limit → y ≡ (if nat_lt limit n then x else y)
pick_small n limit x y h = grind (arith, nat_tests)

pick_large : (n limit : ℕ) (x y : Ending) → limit < n → x ≡ (if nat_lt limit n then x else y)
pick_large n limit x y h = grind (arith, nat_tests)

over : (all bytes : List ℕ) (new : Option (List ℕ)) → Takes (Some all) bytes new → LIMIT < length bytes → TooLong ≡ ending_for all
over all bytes new t h =
    let (rest, _, is) = rest_of all bytes new t in
    pick_large (length all) LIMIT TooLong (ending_of all) (omega (arith, ap length is, length-append bytes rest))

leads : (all : List ℕ) (new : Option (List ℕ)) (events : List Event) (ending : Ending) → LeadsTo (Some all) new events ending → ending ≡ ending_for all
leads all None events ending (bytes, taken, small, says, is) = absurd taken.0
leads all (Some rest) events ending (bytes, taken, small, says, is) =
    let whole : all ≡ bytes ++ rest = taken.0 in
    let same : all ≡ bytes = whole ∙ ap (λ r. bytes ++ r) taken.1 ∙ append-nil bytes in
    sym is ∙ ap ending_of (sym same) ∙ pick_small (length all) LIMIT TooLong (ending_of all) (omega (arith, ap length same))

chosen : (words : List (String Global)) (all : List ℕ) (new : Option (List ℕ)) (before now : ℕ) (telling : Telling) (events : List Event) (ending : Ending) → AsksForRun words
    → Cause words (Some all) new before now telling events ending → (ending ≡ ending_for all) ⊎ IsFault ending
chosen words all new before now tellings.Lines events (Ran entries) run cause = inl (leads all new events _ cause.1)
chosen words all new before now tellings.Summary events (Ran entries) run cause = absurd (not_both words cause.0 cause.1 run cause.2)
chosen words all new before now tellings.Lines events (Refused error event) run cause = inl (leads all new events _ cause.1)
chosen words all new before now tellings.Summary events (Refused error event) run cause = absurd (not_both words cause.0 cause.1 run cause.2)
chosen words all new before now telling events (BadInput place) run cause = inl (leads all new events _ cause.1)
chosen words all new before now telling events BadWords run cause = absurd (cause.0 (asked_are_taken words run))
chosen words all new before now telling events TooLong run cause = inl (over all cause.1.0 new cause.1.1 cause.1.2)
chosen words all new before now telling events ReadFault run cause = inr (inl refl)
chosen words all new before now telling events WriteFault run cause = absurd cause
chosen words all new before now telling events Memory run cause = inr (inr (inr refl))

-- the exit after its text was written, or a fault
after_writing : (result exit : Exit) (right : Ending) (X : Type 0) → ((result ≡ exit) × X) ⊎ IsCut (told result) → (told exit ≡ right) ⊎ IsFault (told exit)
    → (told result ≡ right) ⊎ IsFault (told result)
after_writing result exit right X (inl (same, _)) (inl is) = inl (ap told same ∙ is)
after_writing result exit right X (inl (same, _)) (inr fault) = inr (subst (λ e. IsFault (told e)) (sym same) fault)
after_writing result exit right X (inr cut) is = inr (inr cut)

-- a source that tells its bytes is answered by the ending that they lead to, or by a fault
pub told_answer : (words : List (String Global)) (old new : Option (List ℕ)) (before now : ℕ) (telling : Telling) (events : List Event) (result exit : Exit) (X : Type 0)
    → Cause words old new before now telling events (told exit) → ((result ≡ exit) × X) ⊎ IsCut (told result) → AsksForRun words
    → IfSome old (λ bytes. (told result ≡ ending_for bytes) ⊎ IsFault (told result))
told_answer words None new before now telling events result exit X cause whole run = tt
told_answer words (Some all) new before now telling events result exit X cause whole run =
    after_writing result exit _ X whole (chosen words all new before now telling events (told exit) run cause)

-- the same of any fact of the ending
written_so : (result exit : Exit) (X : Type 0) (P : Ending → Type 0) → ((result ≡ exit) × X) ⊎ IsCut (told result) → P (told exit) → P (told result) ⊎ IsCut (told result)
written_so result exit X P (inl (same, _)) is = inl (subst (λ e. P (told e)) (sym same) is)
written_so result exit X P (inr cut) is = inr cut

-- of a source that was not touched nothing was taken
untouched : (old new : Option (List ℕ)) → new ≡ old → TakesWithin LIMIT old new
untouched old new same = ([], subst (λ o. Takes old [] o) (sym same) (takes_none old), lit≤ tt)

-- an ending that is not for too many bytes took no more than the limit
small : (words : List (String Global)) (old new : Option (List ℕ)) (before now : ℕ) (telling : Telling) (events : List Event) (ending : Ending)
    → Cause words old new before now telling events ending → TakesWithin LIMIT old new ⊎ (ending ≡ TooLong) ⊎ IsCut ending
small words old new before now tellings.Lines events (Ran entries) cause = inl (cause.1.0, cause.1.1.0, cause.1.2)
small words old new before now tellings.Summary events (Ran entries) cause = inl (untouched old new cause.3)
small words old new before now tellings.Lines events (Refused error event) cause = inl (cause.1.0, cause.1.1.0, cause.1.2)
small words old new before now tellings.Summary events (Refused error event) cause = inl (untouched old new cause.3)
small words old new before now telling events (BadInput place) cause = inl (cause.1.0, cause.1.1.0, cause.1.2)
small words old new before now telling events BadWords cause = inl (untouched old new cause.1)
small words old new before now telling events TooLong cause = inr (inl refl)
small words old new before now telling events ReadFault cause = inl cause.2
small words old new before now telling events WriteFault cause = absurd cause
small words old new before now telling events Memory cause = inr (inr (inr refl))

-- likewise after the text was written
pub small_after_writing : (words : List (String Global)) (old new : Option (List ℕ)) (before now : ℕ) (telling : Telling) (events : List Event) (result exit : Exit) (X : Type 0)
    → Cause words old new before now telling events (told exit) → ((result ≡ exit) × X) ⊎ IsCut (told result)
    → TakesWithin LIMIT old new ⊎ (told result ≡ TooLong) ⊎ IsCut (told result)
small_after_writing words old new before now telling events result exit X cause (inl (same, _)) =
    let P : Exit → Type 0 = λ e. TakesWithin LIMIT old new ⊎ (told e ≡ TooLong) ⊎ IsCut (told e) in
    subst P (sym same) (small words old new before now telling events (told exit) cause)
small_after_writing words old new before now telling events result exit X cause (inr cut) = inr (inr cut)

-- ---- words that ask for nothing

untaken : (words : List (String Global)) (old new : Option (List ℕ)) (before now : ℕ) (telling : Telling) (events : List Event) (ending : Ending) → ¬ AreTaken words
    → Cause words old new before now telling events ending → (new ≡ old) × ((ending ≡ BadWords) ⊎ IsCut ending)
untaken words old new before now tellings.Lines events (Ran entries) none cause = absurd (none (asked_are_taken words cause.0))
untaken words old new before now tellings.Summary events (Ran entries) none cause = absurd (none (commands.Gen cause.0 cause.1, cause.2))
untaken words old new before now tellings.Lines events (Refused error event) none cause = absurd (none (asked_are_taken words cause.0))
untaken words old new before now tellings.Summary events (Refused error event) none cause = absurd (none (commands.Gen cause.0 cause.1, cause.2))
untaken words old new before now telling events (BadInput place) none cause = absurd (none (asked_are_taken words cause.0))
untaken words old new before now telling events BadWords none cause = (cause.1, inl refl)
untaken words old new before now telling events TooLong none cause = absurd (none (asked_are_taken words cause.0))
untaken words old new before now telling events ReadFault none cause = absurd (none (asked_are_taken words cause.0))
untaken words old new before now telling events WriteFault none cause = absurd cause
untaken words old new before now telling events Memory none (inl run) = absurd (none (asked_are_taken words run))
untaken words old new before now telling events Memory none (inr same) = (same, inr (inr refl))

either_cut : (ending : Ending) → ((ending ≡ BadWords) ⊎ IsCut ending) ⊎ IsCut ending → (ending ≡ BadWords) ⊎ IsCut ending
either_cut ending (inl either) = either
either_cut ending (inr cut) = inr cut

-- of words that ask for nothing the usage is told, and nothing is read
pub untaken_words : (words : List (String Global)) (old new : Option (List ℕ)) (before now : ℕ) (telling : Telling) (events : List Event) (result exit : Exit) (X : Type 0)
    → Cause words old new before now telling events (told exit) → ((result ≡ exit) × X) ⊎ IsCut (told result) → ¬ AreTaken words
    → (new ≡ old) × ((told result ≡ BadWords) ⊎ IsCut (told result))
untaken_words words old new before now telling events result exit X cause whole none =
    let is = untaken words old new before now telling events (told exit) none cause in
    (is.0, either_cut (told result) (written_so result exit X (λ e. (e ≡ BadWords) ⊎ IsCut e) whole is.1))

-- ---- events that a number makes

-- a run ends whole or refused
abbrev IsOfRun : Ending → Type 0
IsOfRun (Ran entries) = Unit {0}
IsOfRun (Refused error event) = Unit {0}
IsOfRun (BadInput place) = ⊥
IsOfRun BadWords = ⊥
IsOfRun TooLong = ⊥
IsOfRun ReadFault = ⊥
IsOfRun WriteFault = ⊥
IsOfRun Memory = ⊥

of_run : (ran : Result (List Entry) Refusal) (ending : Ending) → ending_of_run ran ≡ ending → IsOfRun ending
of_run (Ok entries) ending is = subst IsOfRun is tt
of_run (Err refusal) ending is = subst IsOfRun is tt

-- what bytes lead to is a run's ending, or that they are not of the form
abbrev IsOfInput : Ending → Type 0
IsOfInput (Ran entries) = Unit {0}
IsOfInput (Refused error event) = Unit {0}
IsOfInput (BadInput place) = Unit {0}
IsOfInput BadWords = ⊥
IsOfInput TooLong = ⊥
IsOfInput ReadFault = ⊥
IsOfInput WriteFault = ⊥
IsOfInput Memory = ⊥

of_run_or_form : (ran : Result (List Entry) Refusal) → IsOfInput (ending_of_run ran)
of_run_or_form (Ok entries) = tt
of_run_or_form (Err refusal) = tt

of_input : (said : Result Input ℕ) (ending : Ending) → ending_of_input said ≡ ending → IsOfInput ending
of_input (Ok input) ending is = subst IsOfInput is (of_run_or_form (Run input.setup input.events))
of_input (Err place) ending is = subst IsOfInput is tt

-- what the whole source says is why it ends so
pub reads : (words : List (String Global)) (old new : Option (List ℕ)) (before now : ℕ) (bytes : List ℕ) (telling : Telling) (events : List Event) (exit : Exit)
    → AsksForRun words → TakesAll old bytes new → length bytes ≤ LIMIT → events_of bytes ≡ events → telling ≡ tellings.Lines → ending_of bytes ≡ told exit
    → Cause words old new before now telling events (told exit)
reads words old new before now bytes telling events exit run taken few says lines is =
    rw lines (by (told exit) is)
  where
    by : (ending : Ending) → ending_of bytes ≡ ending → Cause words old new before now tellings.Lines events ending
    by (Ran entries) is = (run, (bytes, taken, few, says, is))
    by (Refused error event) is = (run, (bytes, taken, few, says, is))
    by (BadInput place) is = (run, (bytes, taken, few, says, is))
    by BadWords is = absurd (of_input (input_of bytes) BadWords is)
    by TooLong is = absurd (of_input (input_of bytes) TooLong is)
    by ReadFault is = absurd (of_input (input_of bytes) ReadFault is)
    by WriteFault is = absurd (of_input (input_of bytes) WriteFault is)
    by Memory is = absurd (of_input (input_of bytes) Memory is)

-- the run of the number's events is why it ends so
pub generates : (words : List (String Global)) (left : Option (List ℕ)) (faults number steps : ℕ) (telling : Telling) (events : List Event) (exit : Exit)
    → Says words (commands.Gen number steps) → telling ≡ tellings.Summary → events ≡ generated number steps
    → ending_of_run (Run (setup_of number) (generated number steps)) ≡ told exit → Cause words left left faults faults telling events (told exit)
generates words left faults number steps telling events exit says summed made is =
    rw (summed, made) (by (told exit) is)
  where
    by : (ending : Ending) → ending_of_run (Run (setup_of number) (generated number steps)) ≡ ending
        → Cause words left left faults faults tellings.Summary (generated number steps) ending
    by (Ran entries) is = (number, steps, says, refl, refl, is)
    by (Refused error event) is = (number, steps, says, refl, refl, is)
    by (BadInput place) is = absurd (of_run (Run (setup_of number) (generated number steps)) (BadInput place) is)
    by BadWords is = absurd (of_run (Run (setup_of number) (generated number steps)) BadWords is)
    by TooLong is = absurd (of_run (Run (setup_of number) (generated number steps)) TooLong is)
    by ReadFault is = absurd (of_run (Run (setup_of number) (generated number steps)) ReadFault is)
    by WriteFault is = absurd (of_run (Run (setup_of number) (generated number steps)) WriteFault is)
    by Memory is = absurd (of_run (Run (setup_of number) (generated number steps)) Memory is)

-- what was asked for is the one number and count
pub as_asked : (words : List (String Global)) (number steps : ℕ) (exit : Exit) (telling : Telling) (events : List Event) → Says words (commands.Gen number steps)
    → ((transcript : Transcript) → exit ≡ Done transcript
    → (telling ≡ tellings.Summary) × (events ≡ generated number steps) × WholeRun (setup_of number) (generated number steps) transcript)
    → (other count : ℕ) (transcript : Transcript) → Says words (commands.Gen other count) → exit ≡ Done transcript
    → (telling ≡ tellings.Summary) × (events ≡ generated other count) × WholeRun (setup_of other) (generated other count) transcript
as_asked words number steps exit telling events says whole other count transcript asked done =
    let (n, k) = one_number words number steps other count says asked in
    rw (← n, ← k) (whole transcript done)

pub wants_memory : (words : List (String Global)) (left : Option (List ℕ)) (faults : ℕ) (telling : Telling) (events : List Event) (exit : Exit) → exit ≡ exits.Memory
    → Cause words left left faults faults telling events (told exit)
wants_memory words left faults telling events exit is = rw is (inr refl)

-- words that ask for two numbers ask for one
same_run : (words : List (String Global)) (number steps other count : ℕ) (events : List Event) (ending : Ending) → Says words (commands.Gen number steps) → Says words (commands.Gen other count)
    → generated other count ≡ events → ending_of_run (Run (setup_of other) events) ≡ ending → ending ≡ ending_of_run (Run (setup_of number) (generated number steps))
same_run words number steps other count events ending says too made is =
    let (n, k) = one_number words number steps other count says too in
    rw (n, k, made) (sym is)

-- why the events of a number end so, whatever is left of a source
numbered : (words : List (String Global)) (old new : Option (List ℕ)) (before now number steps : ℕ) (telling : Telling) (events : List Event) (ending : Ending)
    → Says words (commands.Gen number steps) → Cause words old new before now telling events ending
    → (new ≡ old) × ((ending ≡ ending_of_run (Run (setup_of number) (generated number steps))) ⊎ IsCut ending)
numbered words old new before now number steps tellings.Lines events (Ran entries) says cause = absurd (not_both words number steps cause.0 says)
numbered words old new before now number steps tellings.Summary events (Ran entries) says cause =
    (cause.3, inl (same_run words number steps cause.0 cause.1 events (Ran entries) says cause.2 cause.4 cause.5))
numbered words old new before now number steps tellings.Lines events (Refused error event) says cause = absurd (not_both words number steps cause.0 says)
numbered words old new before now number steps tellings.Summary events (Refused error event) says cause =
    (cause.3, inl (same_run words number steps cause.0 cause.1 events (Refused error event) says cause.2 cause.4 cause.5))
numbered words old new before now number steps telling events (BadInput place) says cause = absurd (not_both words number steps cause.0 says)
numbered words old new before now number steps telling events BadWords says cause = absurd (cause.0 (commands.Gen number steps, says))
numbered words old new before now number steps telling events TooLong says cause = absurd (not_both words number steps cause.0 says)
numbered words old new before now number steps telling events ReadFault says cause = absurd (not_both words number steps cause.0 says)
numbered words old new before now number steps telling events WriteFault says cause = absurd cause
numbered words old new before now number steps telling events Memory says (inl run) = absurd (not_both words number steps run says)
numbered words old new before now number steps telling events Memory says (inr same) = (same, inr (inr refl))

one_cut : (result right : Ending) → ((result ≡ right) ⊎ IsCut result) ⊎ IsCut result → (result ≡ right) ⊎ IsCut result
one_cut result right (inl either) = either
one_cut result right (inr cut) = inr cut

-- likewise after the text was written
pub number_answered : (words : List (String Global)) (old new : Option (List ℕ)) (before now : ℕ) (telling : Telling) (events : List Event) (result exit : Exit) (X : Type 0)
    → Cause words old new before now telling events (told exit) → ((result ≡ exit) × X) ⊎ IsCut (told result)
    → (number steps : ℕ) → Says words (commands.Gen number steps)
    → (new ≡ old) × ((told result ≡ ending_of_run (Run (setup_of number) (generated number steps))) ⊎ IsCut (told result))
number_answered words old new before now telling events result exit X cause whole number steps says =
    let right = ending_of_run (Run (setup_of number) (generated number steps)) in
    let is = numbered words old new before now number steps telling events (told exit) says cause in
    (is.0, one_cut (told result) right (written_so result exit X (λ e. (e ≡ right) ⊎ IsCut e) whole is.1))

ran_is_no_cut : (entries : List Entry) → IsCut (Ran entries) → ⊥
ran_is_no_cut entries (inl e) = cc
ran_is_no_cut entries (inr e) = cc

summed_up : (events made : List Event) (telling : Telling) (exit : Exit) (entries : List Entry) (written after : Option (List ℕ)) → Adds written (text_of telling events (told exit)) after
    → told exit ≡ Ran entries → telling ≡ tellings.Summary → events ≡ made → Adds written (summary made entries) after
summed_up events made telling exit entries written after added is summed same = rw (is, summed, same) at added

-- the number's run is whole, and the line that sums it up was written
pub number_summed : (words : List (String Global)) (telling : Telling) (events : List Event) (result exit : Exit) (written after : Option (List ℕ))
    → ((number steps : ℕ) (transcript : Transcript) → Says words (commands.Gen number steps) → exit ≡ Done transcript
    → (telling ≡ tellings.Summary) × (events ≡ generated number steps) × WholeRun (setup_of number) (generated number steps) transcript)
    → ((result ≡ exit) × Adds written (text_of telling events (told exit)) after) ⊎ IsCut (told result)
    → (number steps : ℕ) (transcript : Transcript) → Says words (commands.Gen number steps) → result ≡ Done transcript
    → WholeRun (setup_of number) (generated number steps) transcript × Adds written (summary (generated number steps) transcript.entries) after
number_summed words telling events result exit written after decided (inl (same, added)) number steps transcript says is =
    let done : exit ≡ Done transcript = sym same ∙ is in
    let given = decided number steps transcript says done in
    (given.2, summed_up events (generated number steps) telling exit transcript.entries written after added (ap told done) given.0 given.1)
number_summed words telling events result exit written after decided (inr cut) number steps transcript says is =
    absurd (ran_is_no_cut transcript.entries (subst IsCut (ap told is) cut))

-- ---- what an ending says of the input

same_refusal : (first error : RunError) (number event : ℕ) → first ≡ error → number ≡ event → refused first number ≡ refused error event
same_refusal first error number event is same = cc

run_refused : (ran : Result (List Entry) Refusal) (error : RunError) (event : ℕ) → ending_of_run ran ≡ Refused error event → ran ≡ Err (record { error = error; event = event })
run_refused (Ok entries) error event is = absurd (cc)
run_refused (Err refusal) error event is = ap Err (same_refusal refusal.error error refusal.event event (cc) (cc))

run_of_the_form : (ran : Result (List Entry) Refusal) (place : ℕ) → ending_of_run ran ≡ BadInput place → ⊥
run_of_the_form (Ok entries) place is = cc
run_of_the_form (Err refusal) place is = cc

input_bad : (said : Result Input ℕ) (place : ℕ) → ending_of_input said ≡ BadInput place → said ≡ Err place
input_bad (Ok input) place is = absurd (run_of_the_form (Run input.setup input.events) place is)
input_bad (Err other) place is = cc

input_refused : (said : Result Input ℕ) (error : RunError) (event : ℕ) → ending_of_input said ≡ Refused error event
    → (input : Input) × (said ≡ Ok input) × (Run input.setup input.events ≡ Err (record { error = error; event = event }))
input_refused (Ok input) error event is = (input, refl, run_refused (Run input.setup input.events) error event is)
input_refused (Err place) error event is = absurd (cc)

-- what was told had its cause, where neither writing nor memory failed
cause_of : (words : List (String Global)) (old new : Option (List ℕ)) (before now : ℕ) (telling : Telling) (events : List Event) (result exit : Exit) (X : Type 0) (ending : Ending)
    → Cause words old new before now telling events (told exit) → ((result ≡ exit) × X) ⊎ IsCut (told result) → told result ≡ ending → (IsCut ending → ⊥)
    → Cause words old new before now telling events ending
cause_of words old new before now telling events result exit X ending cause (inl (same, _)) is calm =
    subst (Cause words old new before now telling events) (sym (ap told same) ∙ is) cause
cause_of words old new before now telling events result exit X ending cause (inr cut) is calm = absurd (calm (subst IsCut is cut))

bad_is_no_cut : (place : ℕ) → IsCut (BadInput place) → ⊥
bad_is_no_cut place (inl e) = cc
bad_is_no_cut place (inr e) = cc

refused_is_no_cut : (error : RunError) (event : ℕ) → IsCut (Refused error event) → ⊥
refused_is_no_cut error event (inl e) = cc
refused_is_no_cut error event (inr e) = cc

-- the whole source was read, and is not of the form
pub bad_input_read : (words : List (String Global)) (old new : Option (List ℕ)) (before now : ℕ) (telling : Telling) (events : List Event) (result exit : Exit) (X : Type 0)
    → Cause words old new before now telling events (told exit) → ((result ≡ exit) × X) ⊎ IsCut (told result)
    → (place : ℕ) → told result ≡ BadInput place → (bytes : List ℕ) × TakesAll old bytes new × (input_of bytes ≡ Err place)
bad_input_read words old new before now telling events result exit X cause whole place is =
    let (_, (bytes, taken, small, says, leads)) = cause_of words old new before now telling events result exit X (BadInput place) cause whole is (bad_is_no_cut place) in
    (bytes, taken, input_bad (input_of bytes) place leads)

-- a run that was refused is one of the whole source, where that was asked for
of_source : (words : List (String Global)) (old new : Option (List ℕ)) (telling : Telling) (events : List Event) (ending : Ending) → AsksForRun words
    → IsRunOf words old new telling events ending → LeadsTo old new events ending
of_source words old new tellings.Lines events ending run is = is.1
of_source words old new tellings.Summary events ending run is = absurd (not_both words is.0 is.1 run is.2)

-- the whole source was read, and its run is refused
pub refused_read : (words : List (String Global)) (old new : Option (List ℕ)) (before now : ℕ) (telling : Telling) (events : List Event) (result exit : Exit) (X : Type 0)
    → Cause words old new before now telling events (told exit) → ((result ≡ exit) × X) ⊎ IsCut (told result)
    → (error : RunError) (event : ℕ) → AsksForRun words → told result ≡ Refused error event
    → (bytes : List ℕ) × TakesAll old bytes new
    × ((input : Input) × (input_of bytes ≡ Ok input) × (Run input.setup input.events ≡ Err (record { error = error; event = event })))
refused_read words old new before now telling events result exit X cause whole error event run is =
    let found = cause_of words old new before now telling events result exit X (Refused error event) cause whole is (refused_is_no_cut error event) in
    let (bytes, taken, small, says, leads) = of_source words old new telling events (Refused error event) run found in
    (bytes, taken, input_refused (input_of bytes) error event leads)

printed : (telling : Telling) (events : List Event) (exit : Exit) (entries : List Entry) (written after : Option (List ℕ)) → Adds written (text_of telling events (told exit)) after
    → told exit ≡ Ran entries → telling ≡ tellings.Lines → Adds written (PrintedRun events entries) after
printed telling events exit entries written after added is lines = rw (is, lines) at added

-- what bytes of the form say of their events
says_events : (bytes : List ℕ) (transcript : Transcript) (events : List Event) → (says : SaysWhole bytes transcript) → events_of bytes ≡ events → events ≡ says.input.events
says_events bytes transcript events says of = sym of ∙ ap events_in says.says

-- the whole source was read, its run is whole, and what is printed of it was written
pub run_read : (words : List (String Global)) (old new : Option (List ℕ)) (telling : Telling) (events : List Event) (result exit : Exit) (written after : Option (List ℕ))
    → ((transcript : Transcript) → AsksForRun words → exit ≡ Done transcript
    → (telling ≡ tellings.Lines) × ((bytes : List ℕ) × TakesAll old bytes new × (SaysWhole bytes transcript × (events_of bytes ≡ events))))
    → ((result ≡ exit) × Adds written (text_of telling events (told exit)) after) ⊎ IsCut (told result)
    → (transcript : Transcript) → AsksForRun words → result ≡ Done transcript
    → (bytes : List ℕ) × TakesAll old bytes new
    × ((says : SaysWhole bytes transcript) × Adds written (PrintedRun says.input.events transcript.entries) after)
run_read words old new telling events result exit written after decided (inl (same, added)) transcript run is =
    let done : exit ≡ Done transcript = sym same ∙ is in
    let (lines, (bytes, taken, (says, of))) = decided transcript run done in (
      bytes,
      taken,
      (
        says,
        subst (λ es. Adds written (PrintedRun es transcript.entries) after) (says_events bytes transcript events says of)
            (printed telling events exit transcript.entries written after added (ap told done) lines),
      ),
    )
run_read words old new telling events result exit written after decided (inr cut) transcript run is =
    absurd (ran_is_no_cut transcript.entries (subst IsCut (ap told is) cut))

-- a whole run, as it was made
pub made_whole : (setup : Setup) (events : List Event) (made : Transcript)
    → Run setup events ≡ Ok made.entries → IsOneEach made.entries events → MadeBy made.network (at_epoch_genesis setup) (run (at_epoch_genesis setup) [] events) → RunsSafely (at_epoch_genesis setup) events
    → ReportOneChain made.entries → Each (KeepsTheLimit setup) made.entries
    → (transcript : Transcript) → Done made ≡ Done transcript → WholeRun setup events transcript
made_whole setup events made entries each network safe one_chain limit transcript is =
    let same : made ≡ transcript = cc in
    subst (WholeRun setup events) same (record { entries = entries; each = each; network = network; safe = safe; one_chain = one_chain; limit = limit })

-- and of what the bytes say
pub says_whole : (bytes : List ℕ) (setup : Setup) (events : List Event) (transcript : Transcript) → input_of bytes ≡ Ok (record { setup = setup; events = events })
    → WholeRun setup events transcript → SaysWhole bytes transcript
says_whole bytes setup events transcript says whole = record { input = record { setup = setup; events = events }; says = says; whole = whole }
