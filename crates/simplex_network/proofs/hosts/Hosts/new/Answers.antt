use Rattle.std.proofs.Common.{refl}
use Rattle.simplex_network.proofs.ManyHosts.{no-hosts, hosts-push, length-pushed}
use Rattle.simplex_network.proofs.hosts.Hosts.new.Goals as goal

pub loop-seat-init : goal.loop-seat-init
loop-seat-init c = rw c.new-list.ensures.items (refl, no-hosts _ _)

pub loop-seat-preserved : goal.loop-seat-preserved
loop-seat-preserved c = (
  length-pushed _ _ _ _ c.in_ok-push.ensures.items c.loop-seat.invariant.0,
  hosts-push _ _ _ _ _ _ c.in_ok-push.ensures.items c.loop-seat.invariant.0 c.loop-seat.invariant.1 c.in_ok-blank_host.ensures,
)
