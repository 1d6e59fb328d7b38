-- Whether a voter's whole step sends the votes that are due, by what was read.
use Rattle.std.specs.Prelude.{ℕ, ◌==◌, ◌&&◌, ◌||◌, Bool, true, false, not, List, [], map, length, Option, Some, None}
use Rattle.std.specs.List.{filter_map, list_any, list_all}
use Rattle.std.specs.Option.{option_map_or}
use Rattle.std.specs.Str.{bytes_eq}
use Rattle.simplex_values.specs.declared.plan.Channel.{Channel}
use Rattle.simplex_values.specs.declared.plan.Channel.TheVariants as channels
use Rattle.simplex_wire.specs.declared.vote.Vote.{Vote}
use Rattle.simplex_wire.specs.Message as format
use Rattle.simplex_transcript.specs.declared.event.Event.{Event}
use Rattle.simplex_transcript.specs.declared.event.Event.TheVariants as events
use Rattle.simplex_transcript.specs.declared.event.StepSource.{StepSource}
use Rattle.simplex_transcript.specs.declared.event.StepSource.TheVariants as sources
use Rattle.simplex_transcript.specs.declared.entry.Entry.{Entry}
use Rattle.simplex_transcript.specs.declared.entry.Packet.{Packet}
use Rattle.simplex_transcript.specs.declared.node.Node.{Node}
use Rattle.model_run.specs.Setting.{Setting}
use Rattle.model_run.specs.Life.{Noted, clock_of}
use Rattle.model_audit.specs.Running.{is_done}
use Rattle.model_audit.specs.Taking.{votes_due}
use Rattle.model_audit.specs.Reading.{taking_of, rules_at, read}

abbrev pub vote_bytes : Packet → Option (List ℕ)
vote_bytes packet = on packet.channel packet.bytes
  where
    on : Channel → List ℕ → Option (List ℕ)
    on channels.Vote bytes = Some bytes
    on _ bytes = None

-- these bytes and no other, each once, in any order; no two of those due are the same
abbrev pub are_those : List (List ℕ) → List (List ℕ) → Bool
are_those due sent = length due == length sent && list_all (λ bytes. list_any (bytes_eq bytes) sent) due

abbrev pub sends : Entry → List Vote → Bool
sends entry due = are_those (map format.vote.spelling due) (filter_map vote_bytes entry.packets)

abbrev pub is_of_voter : StepSource → Bool
is_of_voter sources.Voter = true
is_of_voter sources.Timer = true
is_of_voter sources.Propose = true
is_of_voter sources.Verify = true
is_of_voter sources.Certify = true
is_of_voter _ = false

abbrev pub votes_at : Setting → List Noted → Entry → Node → StepSource → List Vote
votes_at setting before entry node source =
    let r = read setting before node in
    option_map_or (votes_due (rules_at setting node r) (clock_of before) r.known entry.added) (taking_of before source entry.took) []

-- a voter's whole step sends the votes that are due and no other, and a start sends none
unfoldable pub sends_due : Setting → List Noted → Entry → Node → Event → Bool
sends_due setting before entry node (events.Start at floor stop) = not (is_done entry.outcome) || sends entry []
sends_due setting before entry node (events.Step at source stop) =
    not (is_of_voter source && is_done entry.outcome) || sends entry (votes_at setting before entry node source)
sends_due setting before entry node event = true
