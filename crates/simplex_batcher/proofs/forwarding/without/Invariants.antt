use Rattle.std.proofs.Common.{◌≡◌, ◌++◌, ◌==◌, filter, not, drop}
use Rattle.model_steps.specs.Batcher.{some_passes}
use Rattle.simplex_batcher.proofs.forwarding.without.Given as goal

abbrev pub invariant-loop-member : goal.invariant-loop-member
invariant-loop-member l =
    l.others.items ++ filter (λ member. not (some_passes (λ own. own == member) l.me)) (drop l.member-index l.members)
    ≡ filter (λ member. not (some_passes (λ own. own == member) l.me)) l.members
