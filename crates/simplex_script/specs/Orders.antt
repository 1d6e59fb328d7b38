-- The commands that make events.
use Rattle.std.specs.Prelude.{ℕ, Bool, ◌||◌, List, [], ◌∷◌, codes, Option, Some, None, option_and_then, if◌then◌else◌}
use Rattle.std.specs.Option.{option_map}
use Rattle.std.specs.Str.{bytes_eq}
use Rattle.simplex_values.specs.declared.plan.Channel.{Channel}
use Rattle.simplex_messages.specs.declared.step.Stop.{Stop}
use Rattle.simplex_messages.specs.declared.step.Stop.TheVariants as stops
use Rattle.simplex_transcript.specs.declared.node.Node.{Node}
use Rattle.simplex_transcript.specs.declared.event.StepSource.{StepSource}
use Rattle.simplex_script.specs.declared.command.Command.{Command}
use Rattle.simplex_script.specs.declared.command.Command.TheVariants as commands
use Rattle.simplex_script.specs.declared.command.Question.{Question}
use Rattle.simplex_script.specs.declared.command.Whom.{Whom}
use Rattle.simplex_names.specs.Names.{channel_of, source_of}
use Rattle.simplex_names.specs.Numbers.{number_of}
use Rattle.simplex_script.specs.Payloads.{payload_of}
use Rattle.simplex_script.specs.Lines.{pair_of}
use Rattle.simplex_script.specs.Names.{node_of, verdict_of, way_of, whom_of}

-- how a step stops at a call, with so many records kept
abbrev pub stop_with : List ℕ → Option ℕ → Option ℕ → Option Stop
stop_with how (Some call) (Some keep) =
    if bytes_eq how (codes "cut") then Some (stops.Cut call keep) else
    if bytes_eq how (codes "fail") then Some (stops.Fail call keep) else
    None
stop_with how _ _ = None

-- cut CALL keep RECORDS, or fail CALL keep RECORDS
abbrev pub stop_from : (how call keeps records : List ℕ) → Option Stop
stop_from how call keeps records =
    if bytes_eq keeps (codes "keep") then stop_with how (number_of call) (number_of records) else None

abbrev pub is_stop : List ℕ → Bool
is_stop word = bytes_eq word (codes "cut") || bytes_eq word (codes "fail")

abbrev pub with_node : Option Node → Option (List Node) → Option (List Node)
with_node (Some node) (Some nodes) = Some (node ∷ nodes)
with_node _ _ = None

-- the nodes that the words name, if each names one
abbrev pub nodes_of : List (List ℕ) → Option (List Node)
nodes_of [] = Some []
nodes_of (word ∷ words) = with_node (node_of word) (nodes_of words)

abbrev pub started : Option (List Node) → Option Command
started nodes = option_map (λ it. commands.Start it stops.None) nodes

abbrev pub start_that_stops : Option Node → Option Stop → Option Command
start_that_stops (Some node) (Some stop) = Some (commands.Start (node ∷ []) stop)
start_that_stops _ _ = None

-- CALL keep RECORDS
abbrev pub stop_of : List ℕ → List (List ℕ) → Option Stop
stop_of how [] = None
stop_of how (call ∷ after) = option_and_then (λ pair. stop_from how call pair.0 pair.1) (pair_of after)

-- the node starts and stops inside its start, if the word behind it says so; else the nodes start
abbrev pub start_by : List (List ℕ) → List ℕ → List (List ℕ) → Option Command
start_by words node [] = started (nodes_of words)
start_by words node (how ∷ after) =
    if is_stop how then start_that_stops (node_of node) (stop_of how after) else started (nodes_of words)

-- NODE .., or NODE cut CALL keep RECORDS
abbrev pub start_of : List (List ℕ) → Option Command
start_of [] = None
start_of (node ∷ after) = start_by (node ∷ after) node after

abbrev pub crashed : Option (List Node) → Option Command
crashed nodes = option_map (λ it. commands.Crash it) nodes

-- NODE ..
abbrev pub crash_of : List (List ℕ) → Option Command
crash_of [] = None
crash_of (word ∷ words) = crashed (nodes_of (word ∷ words))

abbrev pub missed : Option (List Node) → Option Command
missed nodes = option_map (λ it. commands.Miss it) nodes

-- NODE ..
abbrev pub miss_of : List (List ℕ) → Option Command
miss_of [] = None
miss_of (word ∷ words) = missed (nodes_of (word ∷ words))

abbrev pub settled : Option (List Node) → Option Command
settled nodes = option_map (λ it. commands.Settle it) nodes

-- nothing, or NODE ..
abbrev pub settle_of : List (List ℕ) → Option Command
settle_of words = settled (nodes_of words)

abbrev pub step_with : Option Node → Option StepSource → Option Stop → Option Command
step_with (Some node) (Some source) (Some stop) = Some (commands.Step node source stop)
step_with _ _ _ = None

-- nothing, or cut CALL keep RECORDS
abbrev pub stop_behind : List (List ℕ) → Option Stop
stop_behind [] = Some stops.None
stop_behind (how ∷ after) = stop_of how after

abbrev pub step_by : List ℕ → List (List ℕ) → Option Command
step_by node [] = None
step_by node (source ∷ after) = step_with (node_of node) (source_of source) (stop_behind after)

-- NODE SOURCE, or NODE SOURCE cut CALL keep RECORDS
abbrev pub step_of : List (List ℕ) → Option Command
step_of [] = None
step_of (node ∷ after) = step_by node after

abbrev pub propose_with : Option Node → Option (List ℕ) → Option Command
propose_with (Some node) (Some payload) = Some (commands.Propose node payload)
propose_with _ _ = None

-- NODE BYTE
abbrev pub propose_in : List ℕ → List ℕ → Option Command
propose_in node byte = propose_with (node_of node) (payload_of byte)

abbrev pub propose_of : List (List ℕ) → Option Command
propose_of words = option_and_then (λ pair. propose_in pair.0 pair.1) (pair_of words)

abbrev pub judge_with : Question → Option Whom → Option Bool → Option Command
judge_with question (Some whom) (Some good) = Some (commands.Judge question whom good)
judge_with question _ _ = None

-- NODE VERDICT, or all VERDICT
abbrev pub judge_in : Question → List ℕ → List ℕ → Option Command
judge_in question whom verdict = judge_with question (whom_of whom) (verdict_of verdict)

abbrev pub judge_of : Question → List (List ℕ) → Option Command
judge_of question words = option_and_then (λ pair. judge_in question pair.0 pair.1) (pair_of words)

abbrev pub deliver_with : Option (Node × Node) → Option Channel → Option Command
deliver_with (Some way) (Some channel) = Some (commands.Deliver way.0 way.1 channel)
deliver_with _ _ = None

-- FROM->TO CHANNEL
abbrev pub deliver_in : List ℕ → List ℕ → Option Command
deliver_in way channel = deliver_with (way_of way) (channel_of channel)

abbrev pub deliver_of : List (List ℕ) → Option Command
deliver_of words = option_and_then (λ pair. deliver_in pair.0 pair.1) (pair_of words)

abbrev pub resend_with : Option (Node × Node) → Option Channel → Option Command
resend_with (Some way) (Some channel) = Some (commands.Resend way.0 way.1 channel)
resend_with _ _ = None

-- FROM->TO CHANNEL
abbrev pub resend_in : List ℕ → List ℕ → Option Command
resend_in way channel = resend_with (way_of way) (channel_of channel)

abbrev pub resend_of : List (List ℕ) → Option Command
resend_of words = option_and_then (λ pair. resend_in pair.0 pair.1) (pair_of words)

abbrev pub lose_with : Option (Node × Node) → Option Channel → Option Command
lose_with (Some way) (Some channel) = Some (commands.Lose way.0 way.1 channel)
lose_with _ _ = None

-- FROM->TO CHANNEL
abbrev pub lose_in : List ℕ → List ℕ → Option Command
lose_in way channel = lose_with (way_of way) (channel_of channel)

abbrev pub lose_of : List (List ℕ) → Option Command
lose_of words = option_and_then (λ pair. lose_in pair.0 pair.1) (pair_of words)

-- MILLISECONDS
abbrev pub tick_of : List (List ℕ) → Option Command
tick_of (ms ∷ []) = option_map (λ it. commands.Tick it) (number_of ms)
tick_of _ = None
