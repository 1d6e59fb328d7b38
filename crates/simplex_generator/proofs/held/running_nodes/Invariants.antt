use Rattle.std.proofs.Common.{◌≡◌, ◌++◌, true, ℕ, List, length}
use Rattle.std.specs.Prelude.{filter}
use Rattle.std.specs.List.{list_all}
use Rattle.model_run.specs.Kinds.{is_node}
use Rattle.model_run.specs.Life.{Noted}
use Rattle.simplex_generator.specs.Setup.{setup_of}
use Rattle.simplex_network.specs.Stands.{StandsFor}
use Rattle.simplex_generator.specs.Generated as generated
use Rattle.simplex_generator.proofs.held.running_nodes.Given as goal

abbrev pub invariant-loop-rest : goal.invariant-loop-rest
invariant-loop-rest l = record {
  nodes : list_all (is_node (setup_of 0)) l.rest ≡ true;
  running : (number : ℕ) (before : List Noted) → StandsFor l.network (generated.setting_for number) before
      → l.running.items ++ filter (generated.is_running (generated.setting_for number) before) l.rest ≡ generated.running_nodes (generated.setting_for number) before;
}

abbrev pub decreases-loop-rest : goal.decreases-loop-rest
decreases-loop-rest l = length l.rest
