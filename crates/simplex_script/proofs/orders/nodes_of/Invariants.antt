use Rattle.std.proofs.Common.{◌≡◌, length}
use Rattle.std.specs.Prelude.{map}
use Rattle.simplex_script.specs.Orders.{nodes_of}
use Rattle.simplex_script.proofs.NodeLists.{behind}
use Rattle.simplex_script.proofs.orders.nodes_of.Given as goal

abbrev pub invariant-loop-rest : goal.invariant-loop-rest
invariant-loop-rest l = behind l.nodes (nodes_of (map (λ word. word.now) l.rest)) ≡ nodes_of (map (λ word. word.now) l.words)

abbrev pub decreases-loop-rest : goal.decreases-loop-rest
decreases-loop-rest l = length l.rest
