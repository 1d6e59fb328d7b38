-- How long the packets of a run are.
use Rattle.std.specs.Prelude.{◌≤◌, Contains, length}
use Rattle.simplex_transcript.specs.declared.entry.Entry.{Entry}
use Rattle.simplex_transcript.specs.declared.entry.Packet.{Packet}
use Rattle.simplex_transcript.specs.declared.setup.Setup.{Setup}
use Rattle.model_run.specs.Kinds.{members_of}
use Rattle.law_run.specs.Faulty.{faulty_of}
use Rattle.law_run.specs.Sayings.{Each}
use Rattle.simplex_report.specs.Limit.{longest_payload}

-- a packet of a member that is not faulty is no longer than the longest payload among so many members
abbrev pub IsWithinLimit : Setup → Packet → Type 0
IsWithinLimit setup packet =
    ¬ (Contains (faulty_of setup) packet.from.member) → length packet.bytes ≤ longest_payload (members_of setup)

-- so it is with each packet of the entry
abbrev pub KeepsTheLimit : Setup → Entry → Type 0
KeepsTheLimit setup entry = Each (IsWithinLimit setup) entry.packets
