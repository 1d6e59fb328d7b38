use Rattle.std.proofs.Common.{◌≡◌, length}
use Rattle.simplex_network.specs.Parts.{first_part}
use Rattle.simplex_network.specs.Stands.{HostsStand}
use Rattle.simplex_network.proofs.hosts.Hosts.new.Given as goal

abbrev pub invariant-loop-seat : goal.invariant-loop-seat
invariant-loop-seat l = (length l.list.items ≡ l.seat) × HostsStand l.setup l.list.items (first_part l.setup)
