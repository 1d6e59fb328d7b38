-- The lines that are printed of a run.
use Rattle.std.specs.Prelude.{ℕ, List, [], ◌∷◌, ◌++◌, codes, decimal, Option, Some, None}
use Rattle.std.specs.List.{flat_map}
use Rattle.hex.specs.Hex.{encode_lower}
use Rattle.simplex_types.specs.declared.activity.Activity.{Activity}
use Rattle.simplex_types.specs.declared.activity.Activity.TheVariants as activities
use Rattle.simplex_messages.specs.declared.call.Call.{Call}
use Rattle.simplex_messages.specs.declared.call.Call.TheVariants as calls
use Rattle.simplex_messages.specs.declared.step.Outcome.{Outcome}
use Rattle.simplex_messages.specs.declared.step.Outcome.TheVariants as outcomes
use Rattle.simplex_transcript.specs.declared.node.Node.{Node}
use Rattle.simplex_transcript.specs.declared.event.Event.{Event}
use Rattle.simplex_transcript.specs.declared.event.Event.TheVariants as events
use Rattle.simplex_transcript.specs.declared.entry.Entry.{Entry}

-- these texts, one after another
abbrev pub pieces : List (List ℕ) → List ℕ
pieces [] = []
pieces (p ∷ []) = p
pieces (p ∷ q ∷ ps) = p ++ pieces (q ∷ ps)

-- a line on what happened to a node at an event
abbrev pub line_of : ℕ → Node → List ℕ → List ℕ
line_of event node what =
    pieces (codes "event " ∷ decimal event ∷ codes " node " ∷ decimal node.member ∷ codes "." ∷ decimal node.half ∷ codes " " ∷ what ∷ codes "\n" ∷ [])

-- a payload was reported as final
abbrev pub finalized_of : ℕ → List ℕ → List ℕ
finalized_of view payload_hex = pieces (codes "finalized " ∷ decimal view ∷ codes " " ∷ payload_hex ∷ [])

-- evidence of a kind was reported against a signer
abbrev pub evidence_of : List ℕ → ℕ → ℕ → List ℕ
evidence_of kind signer view = pieces (codes "evidence " ∷ kind ∷ codes " " ∷ decimal signer ∷ codes " " ∷ decimal view ∷ [])

-- what is told of a report: of finalizations and of evidence alone
abbrev pub told_of : Activity → Option (List ℕ)
told_of (activities.Notarize v) = None
told_of (activities.Notarization c) = None
told_of (activities.Certification c) = None
told_of (activities.Nullify v) = None
told_of (activities.Nullification c) = None
told_of (activities.Finalize v) = None
told_of (activities.Finalization c) = Some (finalized_of c.proposal.round.view (encode_lower c.proposal.payload))
told_of (activities.ConflictingNotarize e) = Some (evidence_of (codes "ConflictingNotarize") e.first.attestation.signer e.first.proposal.round.view)
told_of (activities.ConflictingFinalize e) = Some (evidence_of (codes "ConflictingFinalize") e.first.attestation.signer e.first.proposal.round.view)
told_of (activities.NullifyFinalize e) = Some (evidence_of (codes "NullifyFinalize") e.nullify.attestation.signer e.nullify.round.view)

-- a line on what is told, if anything is
abbrev pub line_if : ℕ → Node → Option (List ℕ) → List ℕ
line_if event node None = []
line_if event node (Some what) = line_of event node what

-- the line of a call: only reports have one
abbrev pub call_line_of : ℕ → Node → Call → List ℕ
call_line_of event node (calls.Report activity) = line_if event node (told_of activity)
call_line_of event node _ = []

-- how the node was stopped inside the entry, if it was
abbrev pub stop_of : Outcome → Option (List ℕ)
stop_of outcomes.Done = None
stop_of outcomes.Idle = None
stop_of outcomes.Refused = None
stop_of outcomes.Journal = Some (codes "stopped journal")
stop_of outcomes.Cut = Some (codes "stopped cut")

-- how a node was stopped by an event or inside it, if it was: a crash does something only where the node ran
abbrev pub stop_at : Event → Outcome → Option (List ℕ)
stop_at (events.Crash node) outcomes.Done = Some (codes "stopped crash")
stop_at _ outcome = stop_of outcome

-- the lines of an entry at its node: one for each report that is told, in order, then one on the stop
abbrev pub lines_at : Option Node → Option (List ℕ) → Entry → List ℕ
lines_at None stop entry = []
lines_at (Some node) stop entry = flat_map (call_line_of entry.event node) entry.calls ++ line_if entry.event node stop

-- the lines of an entry whose event is no crash
abbrev pub entry_lines : Entry → List ℕ
entry_lines entry = lines_at entry.who (stop_of entry.outcome) entry

-- what is printed of the entries of events of which none is a crash
abbrev pub Printed : List Entry → List ℕ
Printed entries = flat_map entry_lines entries

-- the lines of an event and its entry
abbrev pub event_lines : Event → Entry → List ℕ
event_lines event entry = lines_at entry.who (stop_at event entry.outcome) entry

-- what is printed of events and the entries that they made, one each. An entry does not tell a crash from an answer
abbrev pub PrintedRun : List Event → List Entry → List ℕ
PrintedRun (event ∷ events) (entry ∷ entries) = event_lines event entry ++ PrintedRun events entries
PrintedRun events entries = []
