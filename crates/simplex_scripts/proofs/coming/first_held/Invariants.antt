use Rattle.std.proofs.Common.{◌≡◌, true, List, length}
use Rattle.std.specs.List.{slice_get}
use Rattle.model_steps.specs.Engine.{Did, EngineMade, runs}
use Rattle.model_run.specs.Life.{Running}
use Rattle.simplex_network.specs.NodeEngine.{EngineStands}
use Rattle.simplex_generator.specs.Generated.{held_at, held_of}
use Rattle.simplex_scripts.proofs.coming.first_held.Given as goal

abbrev pub invariant-loop-rest : goal.invariant-loop-rest
invariant-loop-rest l = (made : EngineMade) (past : List Did) → EngineStands l.engine made past → runs past ≡ true
    → slice_get (held_of (Running made past) l.now l.node l.rest) 0 ≡ slice_get (held_at (Running made past) l.now l.node) 0

abbrev pub decreases-loop-rest : goal.decreases-loop-rest
decreases-loop-rest l = length l.rest
