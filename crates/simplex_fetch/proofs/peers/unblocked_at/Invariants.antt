use Rattle.std.proofs.Common.{◌≡◌}
use Rattle.simplex_fetch.specs.Peers.{other_at}
use Rattle.simplex_fetch.proofs.Others.{passed_over}
use Rattle.simplex_fetch.proofs.peers.unblocked_at.Given as goal

abbrev pub invariant-loop-member : goal.invariant-loop-member
invariant-loop-member l =
    passed_over l.config.me l.peer l.member-iterator ≡ passed_over l.config.me (other_at l.config.me l.place) l.blocked.keys
