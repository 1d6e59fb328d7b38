-- The line that sums up a run.
use Rattle.std.specs.Prelude.{ℕ, ◌+◌, max, Bool, true, false, List, [], ◌∷◌, length, filter, codes, decimal, Option, Some, None, if◌then◌else◌}
use Rattle.std.specs.List.{filter_map, fold}
use Rattle.std.specs.Option.{is_some}
use Rattle.simplex_types.specs.declared.activity.Activity.TheVariants as activities
use Rattle.simplex_messages.specs.declared.call.Call.{Call}
use Rattle.simplex_messages.specs.declared.call.Call.TheVariants as calls
use Rattle.simplex_transcript.specs.declared.event.Event.{Event}
use Rattle.simplex_transcript.specs.declared.entry.Entry.{Entry}
use Rattle.simplex_text.specs.Lines.{pieces, stop_at}

-- the view of a finalization that is reported
abbrev pub final_view : Call → Option ℕ
final_view (calls.Report (activities.Finalization c)) = Some c.proposal.round.view
final_view _ = None

-- whether evidence is reported
abbrev pub is_evidence : Call → Bool
is_evidence (calls.Report (activities.ConflictingNotarize e)) = true
is_evidence (calls.Report (activities.ConflictingFinalize e)) = true
is_evidence (calls.Report (activities.NullifyFinalize e)) = true
is_evidence _ = false

-- the views of the finalizations that an entry reports
abbrev pub final_views : Entry → List ℕ
final_views entry = filter_map final_view entry.calls

-- how many finalizations are reported, the greatest view of these or 0, and how much evidence
unfoldable pub finalized_in : List Entry → ℕ
finalized_in [] = 0
finalized_in (entry ∷ entries) = length (final_views entry) + finalized_in entries

unfoldable pub greatest_in : List Entry → ℕ
greatest_in [] = 0
greatest_in (entry ∷ entries) = max (fold max 0 (final_views entry)) (greatest_in entries)

unfoldable pub evidence_in : List Entry → ℕ
evidence_in [] = 0
evidence_in (entry ∷ entries) = length (filter is_evidence entry.calls) + evidence_in entries

-- how many events, each with its entry, stopped a node
unfoldable pub stops_in : List Event → List Entry → ℕ
stops_in (event ∷ events) (entry ∷ entries) =
    (if is_some (stop_at event entry.outcome) then 1 else 0) + stops_in events entries
stops_in events entries = 0

-- how many events there were, and these numbers
unfoldable pub summary : List Event → List Entry → List ℕ
summary events entries =
    pieces (codes "events " ∷ decimal (length events) ∷ codes " finalized " ∷ decimal (finalized_in entries)
    ∷ codes " greatest " ∷ decimal (greatest_in entries) ∷ codes " evidence " ∷ decimal (evidence_in entries)
    ∷ codes " stops " ∷ decimal (stops_in events entries) ∷ codes "\n" ∷ [])
