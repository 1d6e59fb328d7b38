use Rattle.law_run.proofs.BackingQuiet.{quiet_transcript}
use Rattle.law_run.proofs.BackingSampling.{nothing_yet, noisy}
use Rattle.law_run.proofs.backing_samples.premises_can_be_met.Goals as goal

pub returns-clause-nothing : goal.returns-clause-nothing
returns-clause-nothing c = nothing_yet

pub returns-clause-noise : goal.returns-clause-noise
returns-clause-noise c = noisy

pub returns-clause-start : goal.returns-clause-start
returns-clause-start c = quiet_transcript _ c.a_start_is_quiet.ensures
