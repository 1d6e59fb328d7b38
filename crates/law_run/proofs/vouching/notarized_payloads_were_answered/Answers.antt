use Rattle.std.specs.Prelude.{◌≡◌, ℕ, true, List}
use Rattle.law_run.proofs.AskedRunning.{notarized_from}
use Rattle.law_run.proofs.vouching.notarized_payloads_were_answered.Goals as goal

pub returns : goal.returns
returns c = λ setting noted node test p ran floors good answers k. notarized_from (λ (payload : List ℕ). test payload ≡ true) setting noted node p ran floors good answers k
