-- Which entries a generator stands for.
use Rattle.std.specs.Prelude.{◌≡◌, ◌+◌, ℕ, true, List, ◌∷◌, Ok, Err}
use Rattle.simplex_transcript.specs.declared.event.Event.{Event}
use Rattle.simplex_transcript.specs.declared.refusal.RunError.{RunError}
use Rattle.model_steps.specs.Engine.{Did, EngineMade, runs}
use Rattle.model_run.specs.Life.{Noted, clock_of}
use Rattle.model_run.specs.Setting.{Setting}
use Rattle.model_run.specs.Entries.{entry_of}
use Rattle.simplex_network.specs.declared.network.Network.{Network}
use Rattle.simplex_network.specs.NodeEngine.{NodeEngine, EngineStands}
use Rattle.simplex_network.specs.Stands.{StandsFor}
use Rattle.simplex_generator.specs.Draws.{DrawsBehind}
use Rattle.simplex_generator.specs.Generated.{setting_for, event_behind}
use Rattle.simplex_generator.specs.declared.generator.Generator.{Generator}

-- whatever the network made of a number's list, the answer is the rule's at it
abbrev pub Answers : {R : Type 0} → Network → (Setting → List Noted → R) → R → Type 0
Answers network rule answer =
    (number : ℕ) (before : List Noted) → StandsFor network (setting_for number) before
    → answer ≡ rule (setting_for number) before

-- and where it stands at this clock
abbrev pub AnswersAt : {R : Type 0} → Network → (now : ℕ) → (Setting → List Noted → R) → R → Type 0
AnswersAt network now rule answer =
    (number : ℕ) (before : List Noted) → StandsFor network (setting_for number) before → clock_of before ≡ now
    → answer ≡ rule (setting_for number) before

-- whatever an engine that runs did, the answer is the rule's at it
abbrev pub EngineAnswers : {A : Type 0} → NodeEngine → (EngineMade → List Did → A) → A → Type 0
EngineAnswers engine rule answer =
    (made : EngineMade) (past : List Did) → EngineStands engine made past → runs past ≡ true → answer ≡ rule made past

-- the number's generator made these entries, the newest first, and draws words from this place on
pub record Generates (generator : Generator) (number : ℕ) (before : List Noted) (at : ℕ) : Type 0 where
  pub network : StandsFor generator.network (setting_for number) before
  pub drawing : DrawsBehind generator.drawing number before at

-- whatever the generator made, the event is the next
abbrev pub Draw : Generator → Event → Type 0
Draw generator event =
    (number : ℕ) (before : List Noted) (at : ℕ) → Generates generator number before at
    → event ≡ (event_behind number before at).event

-- whatever it made, it made it and goes on behind the words that the next event took
abbrev pub Drew : Generator → Generator → Type 0
Drew old new =
    (number : ℕ) (before : List Noted) (at : ℕ) → Generates old number before at
    → Generates new number before (at + (event_behind number before at).words)

-- whatever it made, the network makes the event's entry, and the generator made it too
abbrev pub Makes : Generator → Generator → Event → Type 0
Makes old new event =
    (number : ℕ) (before : List Noted) (at : ℕ) → Generates old number before at
    → (noted : Noted) × (entry_of (setting_for number) before event ≡ Ok noted)
    × Generates new number (noted ∷ before) at

-- whatever it made, the network refuses the event
abbrev pub Refuses : Generator → Event → RunError → Type 0
Refuses generator event error =
    (number : ℕ) (before : List Noted) (at : ℕ) → Generates generator number before at
    → entry_of (setting_for number) before event ≡ Err error
