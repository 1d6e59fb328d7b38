-- What a batch leaves as it was.
use Rattle.std.proofs.Common.{◌≡◌, refl, Option, Some, None}
use Rattle.simplex_round.specs.declared.batch.Batch.{Batch}
use Rattle.model_steps.specs.Batcher.{Doing, with_batch}

pub batch-standing : (batch : Option Batch) (doing : Doing) → (with_batch batch doing).standing ≡ doing.standing
batch-standing None doing = refl
batch-standing (Some batch) doing = refl

pub batch-dirty : (batch : Option Batch) (doing : Doing) → (with_batch batch doing).dirty ≡ doing.dirty
batch-dirty None doing = refl
batch-dirty (Some batch) doing = refl
