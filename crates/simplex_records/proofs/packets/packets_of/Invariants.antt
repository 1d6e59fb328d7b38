use Rattle.std.proofs.Common.{◌≡◌, ◌++◌, drop}
use Rattle.model_run.specs.Entries.{packets_of}
use Rattle.simplex_records.proofs.packets.packets_of.Given as goal

abbrev pub invariant-loop-call : goal.invariant-loop-call
invariant-loop-call l =
    l.packets ++ packets_of l.setup l.from (drop l.call-index l.calls) ≡ packets_of l.setup l.from l.calls
