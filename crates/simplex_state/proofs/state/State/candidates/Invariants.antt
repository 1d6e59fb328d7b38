use Rattle.std.proofs.Common.{◌≡◌, ◌++◌}
use Rattle.std.specs.Prelude.{List}
use Rattle.std.specs.List.{filter_map}
use Rattle.model_rules.specs.Known.{Made}
use Rattle.model_rules.specs.Calls.{Call, known_of}
use Rattle.simplex_state.specs.Certifying.{certify_at, fetch_at}
use Rattle.simplex_state.specs.Stands.{StandsFor}
use Rattle.simplex_state.proofs.state.State.candidates.Given as goal

abbrev pub invariant-loop-view : goal.invariant-loop-view
invariant-loop-view g l = record {
  proposals : (made : Made) (calls : List Call) → StandsFor l.self made calls
      → l.proposals.items ++ filter_map (certify_at (known_of made calls)) l.view-iterator ≡ filter_map (certify_at (known_of made calls)) l.self.waiting.keys;
  fetches : (made : Made) (calls : List Call) → StandsFor l.self made calls
      → l.fetches.items ++ filter_map (fetch_at (known_of made calls)) l.view-iterator ≡ filter_map (fetch_at (known_of made calls)) l.self.waiting.keys;
}
