-- Names for what a clause unfolds to compute a sample: an attribute cites one of them, and each cites those below it.
use Rattle.std.specs.Prelude.{⊤}
use Rattle.sha2.specs.Sha256.{sha224}
use Rattle.model_faults.specs.Computed.{faults}
use Rattle.model_run.specs.Computed.{run}

-- what computes a whole run, signatures and random words too
unfoldable pub samples : ⊤
unfolding run faults sha224
samples = tt
