-- Names for what proofs of this crate unfold together.
use Rattle.std.specs.Prelude.{⊤}
use Rattle.simplex_round.specs.Assembly.{after_work, assembled_on, constructed, first_work, work_if_any, work_on}
use Rattle.simplex_round.specs.Calls.{after_call, known_after}
use Rattle.simplex_round.specs.Stands.{StandsFor}

-- what a call leaves, and which certificate comes of it
unfoldable pub calls : ⊤
unfolding StandsFor known_after after_call first_work constructed after_work
calls = tt

-- what a certificate is assembled of
unfoldable pub assembly : ⊤
unfolding work_if_any work_on assembled_on after_work
assembly = tt
