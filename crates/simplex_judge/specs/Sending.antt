-- Whether votes are among packets.
use Rattle.std.specs.Prelude.{ℕ, Bool, false, List}
use Rattle.std.specs.List.{list_any}
use Rattle.std.specs.Option.{option_map_or}
use Rattle.std.specs.Str.{bytes_eq}
use Rattle.simplex_wire.specs.declared.vote.Vote.{Vote}
use Rattle.simplex_wire.specs.Message as format
use Rattle.simplex_transcript.specs.declared.entry.Packet.{Packet}
use Rattle.model_audit.specs.VotesDue.{vote_bytes}

-- the packet is a vote of these bytes
abbrev pub carries : List ℕ → Packet → Bool
carries bytes packet = option_map_or (bytes_eq bytes) (vote_bytes packet) false

-- the vote is one of those that these bytes spell
abbrev pub is_sent : List (List ℕ) → Vote → Bool
is_sent sent vote = list_any (bytes_eq (format.vote.spelling vote)) sent
