-- What the words ask for.
use Rattle.std.specs.Prelude.{ℕ, ◌==◌, ◌&&◌, length, nat_le, Bool, true, false, List, [], ◌∷◌, ◌++◌, flat_map, map}
use Rattle.std.specs.Prelude.{Option, None, Some, option_and_then, option_map, String, codes, string_bytes, if◌then◌else◌}
use Rattle.std.specs.Str.{bytes_eq}
use Rattle.std.specs.declared.alloc.Global.{Global}
use Rattle.simplex_simulator.specs.declared.plan.Chances.{Chances}
use Rattle.simplex_names.specs.Numbers.{number_of}
use Rattle.simplex_lab.specs.declared.words.Order.{Order}
use Rattle.simplex_lab.specs.declared.words.TheConstants.{ALWAYS, MOST_STEPS}
use Rattle.simplex_lab.specs.declared.words.Word.{Word}
use Rattle.simplex_lab.specs.declared.words.Word.TheVariants as asks

-- a number that is no greater
abbrev pub number_up_to : ℕ → List ℕ → Option ℕ
number_up_to most word = option_and_then (λ number. if nat_le number most then Some number else None) (number_of word)

-- one of the chances is this
abbrev pub with_chance : Chances → List ℕ → ℕ → Option Chances
with_chance chances name chance =
    if bytes_eq name (codes "--drop") then Some (record chances { drop = chance }) else
    if bytes_eq name (codes "--repeat") then Some (record chances { repeat = chance }) else
    if bytes_eq name (codes "--crash") then Some (record chances { crash = chance }) else
    if bytes_eq name (codes "--delay") then Some (record chances { delay = chance }) else
    None

abbrev pub with_chances : Order → Chances → Order
with_chances order chances =
    record {
      plan = record { seed = order.plan.seed; steps = order.plan.steps; chances = chances };
      shows_events = order.shows_events;
    }

-- an option and its value, of so many of 100
abbrev pub with_option : Order → List ℕ → List ℕ → Option Order
with_option order name value =
    option_and_then (λ chance. option_map (with_chances order) (with_chance order.plan.chances name chance))
    (number_up_to ALWAYS value)

abbrev pub showing : Order → Order
showing order = record { plan = order.plan; shows_events = true }

-- options in any order; a value comes behind its name
abbrev mutual
  pub with_options : Order → List (List ℕ) → Option Order
  with_options order [] = Some order
  with_options order (name ∷ after) =
      if bytes_eq name (codes "--events") then with_options (showing order) after else with_value order name after

  pub with_value : Order → List ℕ → List (List ℕ) → Option Order
  with_value order name [] = None
  with_value order name (value ∷ after) =
      option_and_then (λ later. with_options later after) (with_option order name value)

-- nothing goes wrong, and the events are not shown
abbrev pub order_of : ℕ → ℕ → Order
order_of seed steps = record {
  plan = record { seed = seed; steps = steps; chances = record { drop = 0; repeat = 0; crash = 0; delay = 0 } };
  shows_events = false;
}

-- STEPS OPTION ..
abbrev pub simulation_from : ℕ → List (List ℕ) → Option Word
simulation_from seed [] = None
simulation_from seed (steps ∷ options) =
    option_and_then (λ most. option_map (λ order. asks.Simulate order) (with_options (order_of seed most) options))
    (number_up_to MOST_STEPS steps)

-- SEED STEPS OPTION ..
abbrev pub simulation_of : List (List ℕ) → Option Word
simulation_of [] = None
simulation_of (seed ∷ words) = option_and_then (λ number. simulation_from number words) (number_of seed)

-- words, each behind a space
abbrev pub behind : List (List ℕ) → List ℕ
behind words = flat_map (λ word. codes " " ++ word) words

-- words, with a space between two of them
abbrev pub joined : List ℕ → List (List ℕ) → List ℕ
joined first others = first ++ behind others

-- LINE, of one word or of more
abbrev pub shrink_of : List (List ℕ) → Option Word
shrink_of [] = None
shrink_of (first ∷ others) = Some (asks.Shrink (joined first others))

-- nothing more
abbrev pub trace_of : List (List ℕ) → Option Word
trace_of [] = Some asks.Trace
trace_of (word ∷ words) = None

-- nothing, or --events
abbrev pub script_of : List (List ℕ) → Option Word
script_of [] = Some (asks.Script false)
script_of (word ∷ after) =
    if bytes_eq word (codes "--events") && length after == 0 then Some (asks.Script true) else None

-- whether the first word is that for a script
abbrev pub begins_script : List (List ℕ) → Bool
begins_script [] = false
begins_script (word ∷ words) = bytes_eq word (codes "script")

-- what the first word asks for, with the others
abbrev pub asked_with : List ℕ → List (List ℕ) → Option Word
asked_with word others =
    if bytes_eq word (codes "trace") then trace_of others else
    if bytes_eq word (codes "simulate") then simulation_of others else
    if bytes_eq word (codes "shrink") then shrink_of others else
    if bytes_eq word (codes "script") then script_of others else
    None

abbrev pub asked_by : List (List ℕ) → Option Word
asked_by [] = None
asked_by (word ∷ others) = asked_with word others

abbrev pub asked : List (String Global) → Option Word
asked words = asked_by (map string_bytes words)

-- what is said of other words
abbrev pub usage : List ℕ
usage =
    codes "usage: trace | simulate SEED STEPS [--drop P] [--repeat P] [--crash P] [--delay P] [--events] | shrink LINE | script [--events] | --help | --version\n"
