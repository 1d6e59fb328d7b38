use Rattle.law_run.proofs.ForgingSampling.{injected_forges}
use Rattle.law_run.proofs.forging_samples.injected_bytes_can_forge.Goals as goal

pub returns : goal.returns
returns c = injected_forges
