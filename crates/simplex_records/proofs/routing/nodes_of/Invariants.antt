use Rattle.std.proofs.Common.{◌≡◌, take}
use Rattle.simplex_records.specs.Routes.{routed_nodes}
use Rattle.simplex_records.proofs.routing.nodes_of.Given as goal

abbrev pub invariant-loop-member : goal.invariant-loop-member
invariant-loop-member l = l.nodes ≡ routed_nodes l.setup l.view l.from (take l.member-index l.members)
