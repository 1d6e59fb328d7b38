-- Which refusals are no answer of a run, and why a setup is refused.
use Rattle.std.specs.Prelude.{◌≡◌, Bool, true, false, Option, Some, None, Result, Ok, Err}
use Rattle.std.specs.Option.{option_map}
use Rattle.simplex_transcript.specs.declared.refusal.RunError.{RunError}
use Rattle.simplex_transcript.specs.declared.refusal.RunError.TheVariants as errors
use Rattle.simplex_transcript.specs.declared.setup.Setup.{Setup}
use Rattle.model_run.specs.Setups.{first_bad}

-- want of memory, which may come at any event
abbrev pub is_memory : RunError → Bool
is_memory errors.Memory = true
is_memory _ = false

-- a refusal behind want of memory
abbrev pub is_failed : RunError → Bool
is_failed errors.Failed = true
is_failed _ = false

-- whether memory was wanted
abbrev pub wants_memory : {A : Type 0} → Result A RunError → Bool
wants_memory (Ok answer) = false
wants_memory (Err error) = is_memory error

-- why a setup is refused, want of memory apart; none where it is not
abbrev pub setup_refusal : Setup → Option RunError
setup_refusal setup = option_map errors.BadSetup (first_bad setup)

-- the setup is refused for this reason, or for want of memory where there is none
abbrev pub IsRefused : Option RunError → RunError → Type 0
IsRefused reason errors.Memory = reason ≡ None
IsRefused reason error = reason ≡ Some error
