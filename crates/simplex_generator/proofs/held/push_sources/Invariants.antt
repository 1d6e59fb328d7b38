use Rattle.std.proofs.Common.{◌≡◌, ◌++◌, true, List, length}
use Rattle.model_steps.specs.Engine.{EngineMade, Did, runs}
use Rattle.model_run.specs.Life.{Running}
use Rattle.simplex_network.specs.NodeEngine.{EngineStands}
use Rattle.simplex_generator.specs.Generated.{held_of, held_at}
use Rattle.simplex_generator.proofs.held.push_sources.Given as goal

abbrev pub invariant-loop-rest : goal.invariant-loop-rest
invariant-loop-rest l = (made : EngineMade) (past : List Did) → EngineStands l.engine made past → runs past ≡ true
    → l.held.items ++ held_of (Running made past) l.now l.node l.rest ≡ l.initial.held.items ++ held_at (Running made past) l.now l.node

abbrev pub decreases-loop-rest : goal.decreases-loop-rest
decreases-loop-rest l = length l.rest
