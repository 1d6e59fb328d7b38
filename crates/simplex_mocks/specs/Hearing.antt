-- What a member hears.
use Rattle.std.specs.Prelude.{ℕ, List}
use Rattle.simplex_values.specs.declared.plan.Channel.{Channel}
use Rattle.model_faults.specs.Heard.{Heard}

-- the message of these bytes, heard on this channel
abbrev pub bytes_heard : Channel → List ℕ → Heard
bytes_heard channel bytes = record { channel = channel; bytes = bytes }
