use Rattle.std.proofs.Common.{◌≡◌, ◌≤◌, length, filter}
use Rattle.std.specs.List.{range_with_len}
use Rattle.simplex_batcher.specs.Activity.{seen_in}
use Rattle.simplex_batcher.proofs.activity.count_seen.Given as goal

abbrev pub invariant-loop-member : goal.invariant-loop-member
invariant-loop-member l =
    (l.count ≡ length (filter (seen_in l.seen l.since) (range_with_len 0 l.member))) × (l.count ≤ l.member)
