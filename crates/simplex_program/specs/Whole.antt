-- What a whole run means.
use Rattle.std.specs.Prelude.{◌≡◌, ℕ, List, Ok}
use Rattle.simplex_transcript.specs.declared.event.Event.{Event}
use Rattle.simplex_transcript.specs.declared.setup.Setup.{Setup}
use Rattle.simplex_form.specs.declared.input.Input.{Input}
use Rattle.simplex_form.specs.Input.{input_of}
use Rattle.model_run.specs.Setting.{at_epoch_genesis}
use Rattle.simplex_run.specs.declared.run.Transcript.{Transcript}
use Rattle.simplex_run.specs.WholeRuns.{WholeRunFrom}
use Rattle.simplex_program.specs.declared.exit.Exit.{Exit}
use Rattle.simplex_program.specs.declared.exit.Exit.TheVariants as exits

-- the whole run of the setup and the events, from the epoch's genesis digest
abbrev pub WholeRun : Setup → List Event → Transcript → Type 0
WholeRun setup = WholeRunFrom (at_epoch_genesis setup)

-- the bytes say a setup and events, of which this is the whole run
pub record SaysWhole (bytes : List ℕ) (transcript : Transcript) : Type 0 where
  pub input : Input
  pub says : input_of bytes ≡ Ok input
  pub whole : WholeRun input.setup input.events transcript

-- where the exit is that of a whole run, this holds of the run
abbrev pub OnDone : Exit → (Transcript → Type 0) → Type 0
OnDone exit P = (transcript : Transcript) → exit ≡ exits.Done transcript → P transcript
