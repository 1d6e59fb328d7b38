use Rattle.std.proofs.Common.{◌≡◌, ◌++◌, ◌&&◌, true, ℕ, List, length}
use Rattle.std.specs.List.{flat_map, list_all}
use Rattle.model_run.specs.Kinds.{is_node, runs_engine}
use Rattle.model_run.specs.Life.{Noted, clock_of, life_in}
use Rattle.simplex_generator.specs.Setup.{setup_of}
use Rattle.simplex_network.specs.Stands.{StandsFor}
use Rattle.simplex_generator.specs.Generated.{setting_for, held_at, held}
use Rattle.simplex_generator.proofs.held.all_held.Given as goal

abbrev pub invariant-loop-rest : goal.invariant-loop-rest
invariant-loop-rest l = record {
  engines : list_all (λ node. is_node (setup_of 0) node && runs_engine (setup_of 0) node.member) l.rest ≡ true;
  held : (number : ℕ) (before : List Noted) → StandsFor l.network (setting_for number) before → clock_of before ≡ l.now
      → l.held.items ++ flat_map (λ node. held_at (life_in (setting_for number) before node) (clock_of before) node) l.rest ≡ held (setting_for number) before;
}

abbrev pub decreases-loop-rest : goal.decreases-loop-rest
decreases-loop-rest l = length l.rest
