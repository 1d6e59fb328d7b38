use Rattle.std.proofs.Common.{◌≡◌, List, length}
use Rattle.std.specs.Prelude.{find}
use Rattle.model_run.specs.Life.{Noted}
use Rattle.model_run.specs.Setting.{Setting}
use Rattle.simplex_network.specs.Stands.{StandsFor}
use Rattle.simplex_scripts.specs.Coming.{may_come}
use Rattle.simplex_scripts.proofs.coming.next_delivery.Given as goal

abbrev pub invariant-loop-rest : goal.invariant-loop-rest
invariant-loop-rest l = (setting : Setting) (before : List Noted) → StandsFor l.network setting before → l.setup ≡ setting.setup
    → find (may_come setting before l.among) l.rest ≡ find (may_come setting before l.among) l.waiting

abbrev pub decreases-loop-rest : goal.decreases-loop-rest
decreases-loop-rest l = length l.rest
