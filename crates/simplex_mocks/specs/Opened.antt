-- Names for what proofs of this crate unfold together.
use Rattle.std.specs.Prelude.{⊤}
use Rattle.model_faults.specs.Conflicter.{conflicter_drew, conflicter_sends}
use Rattle.model_faults.specs.Equivocator.{equivocator_drew, was_heard}
use Rattle.simplex_mocks.specs.Conflicting.{StandsFor as ConflictingStandsFor}
use Rattle.simplex_mocks.specs.Equivocating.{StandsFor as EquivocatingStandsFor}

-- what a conflicter draws and sends
unfoldable pub conflicts : ⊤
unfolding ConflictingStandsFor conflicter_drew conflicter_sends
conflicts = tt

-- what an equivocator heard and draws
unfoldable pub equivocations : ⊤
unfolding EquivocatingStandsFor equivocator_drew was_heard
equivocations = tt
