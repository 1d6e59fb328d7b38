use Rattle.std.proofs.Common.{◌≡◌, filter}
use Rattle.std.specs.List.{range_with_len}
use Rattle.simplex_round.specs.Forwarding.{is_missing_voter}
use Rattle.simplex_round.proofs.round.Round.lacking.Given as goal

abbrev pub invariant-loop-member : goal.invariant-loop-member
invariant-loop-member l =
    l.missing.items ≡ filter (is_missing_voter l.fn.self.made l.fn.self.known l.proposal) (range_with_len 0 l.member)
