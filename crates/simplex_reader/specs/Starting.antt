-- What is known behind a start.
use Rattle.std.specs.Prelude.{◌++◌, nat_lt, ℕ, List, Option, Some, None, if◌then◌else◌}
use Rattle.std.specs.List.{list_any}
use Rattle.simplex_wire.specs.declared.artifact.Artifact.{Artifact}
use Rattle.simplex_wire.specs.declared.certificate.Finalization.{Finalization}
use Rattle.simplex_wire.specs.Fields.{artifact_round}
use Rattle.model_rules.specs.Known.{Made, Fact, view_of}
use Rattle.model_rules.specs.Calls.{floor_facts}
use Rattle.model_steps.specs.Desk.{Doing}
use Rattle.model_steps.specs.Voter.{replay_record, replay_all, is_final_from, started}
use Rattle.model_run.specs.Members.{floor_of}
use Rattle.simplex_known.specs.declared.known.Known.{Known}
use Rattle.simplex_known.specs.declared.rules.Rules.{Rules}
use Rattle.simplex_known.specs.Knows.{Knows, AreRulesOf}

-- whatever facts were kept, the floor is kept with them
abbrev pub Stands : Known → Known → Option Finalization → Type 0
Stands old new floor =
    (made : Made) (known : List Fact) (genesis : List ℕ) (now : ℕ) → Knows old made known → Knows new made (floor_facts (floor_of genesis floor) now ++ known)

-- whatever was done before, what is known behind the records is kept
abbrev pub replay_above : Made → ℕ → ℕ → Doing → Artifact → Doing
replay_above made now floor doing artifact = if nat_lt floor (artifact_round artifact).view then replay_record made now doing artifact else doing

abbrev pub ReplaysOne : Known → Known → ℕ → Artifact → Type 0
ReplaysOne old new floor artifact =
    (made : Made) (now : ℕ) (doing : Doing) → Knows old made doing.desk.known → Knows new made (replay_above made now floor doing artifact).desk.known

abbrev pub Replays : Known → Known → ℕ → List Artifact → Type 0
Replays old new floor records =
    (made : Made) (now : ℕ) (doing : Doing) → Knows old made doing.desk.known → Knows new made (replay_all made now floor doing records).desk.known

-- of a node with these rules what it knows behind its start is kept
abbrev pub Starts : Known → Rules → Option Finalization → List Artifact → Type 0
Starts known rules floor records =
    (made : Made) (genesis : List ℕ) (now : ℕ) → AreRulesOf made rules → Knows known made (started made now (floor_of genesis floor) records).desk.known

-- how many calls of the journal keep the floor
abbrev pub keeping_calls : Option Finalization → List Artifact → ℕ
keeping_calls None records = 0
keeping_calls (Some f) records = if list_any (is_final_from (view_of f.proposal)) records then 0 else 2
