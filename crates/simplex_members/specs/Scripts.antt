-- The script of a setup, as twins follow it.
use Rattle.std.specs.Prelude.{ℕ, Option, Some, None, if◌then◌else◌}
use Rattle.simplex_transcript.specs.declared.setup.SetupRound.{SetupRound}
use Rattle.model_run.specs.Setups.{is_round}
use Rattle.simplex_twins.specs.Script.{ScriptedRound, scripted}

abbrev pub round_in : SetupRound → ScriptedRound
round_in round = scripted round.leader round.primary round.secondary

-- the round, where it keeps its limits among n members
abbrev pub kept : ℕ → SetupRound → Option ScriptedRound
kept n round = if is_round n round then Some (round_in round) else None
