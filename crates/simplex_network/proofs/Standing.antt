-- What holds where forgeries are looked for where they may be, holds of a run.
use Rattle.std.proofs.Common.{◌≡◌, true, false, List, [], ◌∷◌, Bool, Option, Some, None, IsNone, Result, Ok, Err, refl, sym, ap, subst, ◌∙◌, if◌then◌else◌}
use Rattle.simplex_transcript.specs.declared.event.Event.{Event}
use Rattle.simplex_transcript.specs.declared.entry.Entry.{Entry}
use Rattle.simplex_transcript.specs.declared.node.Node.{Node}
use Rattle.simplex_transcript.specs.declared.setup.Setup.{Setup}
use Rattle.simplex_transcript.specs.declared.refusal.RunError.{RunError}
use Rattle.model_run.specs.Setting.{Setting}
use Rattle.model_run.specs.Life.{Noted}
use Rattle.model_run.specs.Setups.{first_bad}
use Rattle.model_run.specs.Forged.{unless_forged}
use Rattle.model_run.specs.Entries.{made_of, entry_of}
use Rattle.model_run.proofs.Honest.{was_made}
use Rattle.law_run.specs.Histories.{IsRun}
use Rattle.law_run.specs.Fitting.{IsTyped, AreTyped}
use Rattle.law_run.specs.EventForging.{may_forge, IsNext}
use Rattle.simplex_network.specs.declared.network.Network.{Network}
use Rattle.simplex_network.specs.NodeEngine.{NodeEngine}
use Rattle.simplex_network.specs.Polls.{tested_of}
use Rattle.simplex_network.specs.Stands.{Keeps, StandsFor, ShowsEngine, Shows, Grows, Adds, Enters, Gives, Refuses, Denies, Stays, Rests, entered}

pub stands-new : (network : Network) (setting : Setting) → Keeps network setting [] → IsNone (first_bad setting.setup) → StandsFor network setting []
unfolding IsRun
stands-new network setting keeps good = record { keeps = keeps; good = good; ran = tt; typed = tt }

-- no other event is refused for a forgery
abbrev pub NoneForges : Type 0
NoneForges =
    (setting : Setting) (before : List Noted) (event : Event) (noted : Noted) → IsNext setting before event noted → may_forge setting.setup event ≡ false
    → entry_of setting before event ≡ Ok noted

none_bad : {A : Type 0} (o : Option A) → IsNone o → o ≡ None
none_bad None g = refl
none_bad (Some x) g = cc

-- what was taken is what is tested
taken_tested : (setting : Setting) (before : List Noted) (event : Event) (noted : Noted) → entry_of setting before event ≡ Ok noted → tested_of setting before event ≡ Ok noted
unfolding tested_of
taken_tested setting before event noted is = by (may_forge setting.setup event)
  where
    by : (b : Bool) → (if b then entry_of setting before event else made_of setting before event) ≡ Ok noted
    by true = is
    by false = was_made setting before event noted is

-- what is tested is taken, where the values keep to their types
tested_taken : NoneForges → (setting : Setting) (before : List Noted) (event : Event) (noted : Noted) → IsNone (first_bad setting.setup) → IsRun setting before → AreTyped before → IsTyped noted.entry
    → tested_of setting before event ≡ Ok noted → entry_of setting before event ≡ Ok noted
unfolding tested_of
tested_taken law setting before event noted good ran typed fits is = by (may_forge setting.setup event) refl is
  where
    by : (b : Bool) → may_forge setting.setup event ≡ b → (if b then entry_of setting before event else made_of setting before event) ≡ Ok noted → entry_of setting before event ≡ Ok noted
    by true f e = e
    by false f e = law setting before event noted (record { limits = none_bad (first_bad setting.setup) good; ran = ran; made = e; typed = (fits, typed) }) f

refused_whole : (setup : Setup) (before : List Noted) (r : Result Noted RunError) (error : RunError) → r ≡ Err error → unless_forged setup before r ≡ Err error
unfolding unless_forged
refused_whole setup before r error e = rw e refl

-- what is refused by the test is refused
tested_refused : (setting : Setting) (before : List Noted) (event : Event) (error : RunError) → tested_of setting before event ≡ Err error → entry_of setting before event ≡ Err error
unfolding tested_of entry_of
tested_refused setting before event error is = by (may_forge setting.setup event) is
  where
    made_refused : made_of setting before event ≡ Err error → entry_of setting before event ≡ Err error
    made_refused e = refused_whole setting.setup before (made_of setting before event) error e

    by : (b : Bool) → (if b then entry_of setting before event else made_of setting before event) ≡ Err error → entry_of setting before event ≡ Err error
    by true e = e
    by false e = made_refused e

same_entry : (a b : Entry) → ◌≡◌ {A = Result Entry RunError} (Ok a) (Ok b) → a ≡ b
same_entry a b e = cc

entered_is : (noted : Noted) (entry : Entry) (r : Result Noted RunError) → r ≡ Ok noted → entered r ≡ Ok entry → noted.entry ≡ entry
entered_is noted entry r is enters = same_entry noted.entry entry (ap (λ x. entered x) (sym is) ∙ enters)

-- what was noted where the entry is this
noted_of : (entry : Entry) (r : Result Noted RunError) → entered r ≡ Ok entry → (noted : Noted) × (r ≡ Ok noted) × (noted.entry ≡ entry)
noted_of entry (Ok noted) is = (noted, refl, same_entry noted.entry entry is)
noted_of entry (Err error) is = absurd (cc)

pub stands-grows : (old new : Network) (event : Event) (entry : Entry) → IsTyped entry → Adds old new event → Gives old event entry → Grows old new event entry
unfolding IsRun
stands-grows old new event entry fits adds gives =
    λ setting before noted s is.
    let tested = taken_tested setting before event noted is in
    let same = entered_is noted entry (tested_of setting before event) tested (gives setting before s.keeps) in
    record {
      keeps = adds setting before noted s.keeps tested;
      good = s.good;
      ran = ran_on setting before event noted is s.ran;
      typed = (subst IsTyped (sym same) fits, s.typed);
    }
  where
    ran_on : (setting : Setting) (before : List Noted) (event : Event) (noted : Noted) → entry_of setting before event ≡ Ok noted → IsRun setting before → IsRun setting (noted ∷ before)
    ran_on setting before event noted is ran = (event, is, ran)

pub stands-enters : (network : Network) (event : Event) (entry : Entry) → NoneForges → IsTyped entry → Gives network event entry → Enters network event entry
stands-enters network event entry law fits gives =
    λ setting before s.
    let noted = noted_of entry (tested_of setting before event) (gives setting before s.keeps) in
    let taken = tested_taken law setting before event noted.0 s.good s.ran s.typed (subst IsTyped (sym noted.2) fits) noted.1 in
    ap (λ r. entered r) taken ∙ ap (λ e. Ok e) noted.2

pub stands-refuses : (network : Network) (event : Event) (error : RunError) → Denies network event error → Refuses network event error
stands-refuses network event error denies = λ setting before s. tested_refused setting before event error (denies setting before s.keeps)

pub stands-stays : (old new : Network) → Rests old new → Stays old new
stands-stays old new rests = λ setting before s. record { keeps = rests setting before s.keeps; good = s.good; ran = s.ran; typed = s.typed }

pub stands-shows : (network : Network) (node : Node) (engine : Option NodeEngine) → Shows network node engine → ShowsEngine network node engine
stands-shows network node engine shows = λ setting before s. shows setting before s.keeps

pub ruleset standing = (stands-new, stands-refuses, stands-stays, stands-shows)
