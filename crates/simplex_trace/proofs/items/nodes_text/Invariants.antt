use Rattle.std.proofs.Common.{◌≡◌, ◌++◌, take}
use Rattle.std.specs.Prelude.{codes, string_bytes}
use Rattle.simplex_trace.specs.Items.{nodes_text}
use Rattle.simplex_trace.proofs.items.nodes_text.Given as goal

abbrev pub invariant-loop-node : goal.invariant-loop-node
invariant-loop-node l = string_bytes l.text ≡ codes "to" ++ nodes_text (take l.node-index l.nodes)
