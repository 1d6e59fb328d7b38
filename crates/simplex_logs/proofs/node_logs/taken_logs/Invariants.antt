use Rattle.std.proofs.Common.{◌≡◌, map, take}
use Rattle.law_log.specs.Logs.{honest_from}
use Rattle.simplex_logs.specs.NodeLogs.{with_log}
use Rattle.simplex_logs.proofs.node_logs.taken_logs.Given as goal

abbrev pub invariant-loop-member : goal.invariant-loop-member
invariant-loop-member l = l.logs ≡ map (with_log l.setup l.entries) (honest_from 0 (take l.member l.kind-items))
