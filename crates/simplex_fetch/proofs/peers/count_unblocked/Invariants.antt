use Rattle.std.proofs.Common.{◌≡◌, ◌+◌, length}
use Rattle.model_resolver.specs.Fetcher.{unblocked, others_of}
use Rattle.simplex_fetch.proofs.Others.{taken}
use Rattle.simplex_fetch.proofs.peers.count_unblocked.Given as goal

abbrev pub invariant-loop-member : goal.invariant-loop-member
invariant-loop-member l =
    l.others ≡ length (unblocked l.blocked.keys (others_of l.config)) + taken l.config.me l.config.n l.member-iterator
