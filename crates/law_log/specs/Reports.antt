-- What nodes reported in a run.
use Rattle.std.specs.Prelude.{Bool, false, List, [], ◌∷◌, map, reverse, filter, flat_map, filter_map, All, Contains, Option, Some, None, ◌⊎◌}
use Rattle.simplex_types.specs.declared.activity.Activity.{Activity}
use Rattle.simplex_messages.specs.declared.call.Call.{Call}
use Rattle.simplex_messages.specs.declared.call.Call.TheVariants as calls
use Rattle.simplex_transcript.specs.declared.entry.Entry.{Entry}
use Rattle.simplex_transcript.specs.declared.node.Node.{Node}
use Rattle.model_run.specs.Life.{Noted}
use Rattle.model_run.specs.Members.{is_same_node}

-- the entries of a run, in order of events
abbrev pub entries_of : List Noted → List Entry
entries_of noted = reverse (map (λ n. n.entry) noted)

abbrev pub is_named : Node → Option Node → Bool
is_named node None = false
is_named node (Some who) = is_same_node who node

-- the entry is of an event of the node
abbrev pub is_entry_of : Node → Entry → Bool
is_entry_of node entry = is_named node entry.who

abbrev pub report_in : Call → Option Activity
report_in (calls.Report activity) = Some activity
report_in _ = None

abbrev pub reports_in : Entry → List Activity
reports_in entry = filter_map report_in entry.calls

-- what the node reported, in order
unfoldable pub reported : List Entry → Node → List Activity
reported entries node = flat_map reports_in (filter (is_entry_of node) entries)

-- a node reported it in one of the entries
unfoldable pub WasReported : List Noted → Activity → Type 0
WasReported [] activity = ⊥
WasReported (noted ∷ before) activity = Contains noted.entry.calls (calls.Report activity) ⊎ WasReported before activity

abbrev pub AreReported : List Noted → List Activity → Type 0
AreReported noted activities = All (WasReported noted) activities
