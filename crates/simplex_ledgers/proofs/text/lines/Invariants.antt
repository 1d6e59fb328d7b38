use Rattle.std.proofs.Common.{◌≡◌, take}
use Rattle.std.specs.Prelude.{string_bytes}
use Rattle.std.specs.List.{flat_map}
use Rattle.law_ledger.specs.Lines.{log_lines}
use Rattle.simplex_ledgers.proofs.text.lines.Given as goal

abbrev pub invariant-loop-node : goal.invariant-loop-node
invariant-loop-node l = string_bytes l.text ≡ flat_map (log_lines l.blocks l.accounts) (take l.node-index l.logs)
