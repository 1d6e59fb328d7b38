-- To which nodes a send goes, member by member.
use Rattle.std.specs.Prelude.{ℕ, ◌&&◌, Bool, not, List, filter, flat_map, length, ◌==◌}
use Rattle.std.specs.List.{list_any}
use Rattle.simplex_transcript.specs.declared.node.Node.{Node}
use Rattle.simplex_transcript.specs.declared.setup.Setup.{Setup}
use Rattle.model_run.specs.Kinds.{nodes_at, has_halves}
use Rattle.model_run.specs.Routing.{is_routed}

-- the nodes of these members that a packet of the view goes to
unfoldable pub routed_nodes : Setup → ℕ → Node → List ℕ → List Node
routed_nodes setup view from members = filter (is_routed setup view from) (flat_map (nodes_at setup) members)

-- whether there is a twin and a script for it
abbrev pub has_routes : Setup → Bool
has_routes setup = not (length setup.scenario == 0) && list_any has_halves setup.members
