use Rattle.std.proofs.Common.{◌≡◌, take}
use Rattle.std.specs.Prelude.{string_bytes}
use Rattle.std.specs.List.{flat_map, enumerate_from}
use Rattle.law_log.specs.Lines.{entry_line}
use Rattle.simplex_logs.proofs.text.lines.Given as goal

abbrev pub invariant-loop-node : goal.invariant-loop-node
invariant-loop-node l = string_bytes l.text ≡ flat_map (λ log. flat_map (entry_line log.0) (enumerate_from 1 log.1)) (take l.node-index l.logs)
