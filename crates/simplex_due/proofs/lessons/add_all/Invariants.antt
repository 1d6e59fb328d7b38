use Rattle.std.proofs.Common.{ℕ, ◌++◌, ◌≤◌, List, map, drop, length}
use Rattle.model_rules.specs.Known.{Made, Fact}
use Rattle.law_member.specs.Learned.{added_at}
use Rattle.simplex_known.specs.Knows.{Knows}
use Rattle.simplex_due.proofs.lessons.add_all.Given as goal

abbrev pub invariant-loop-left : goal.invariant-loop-left
invariant-loop-left l =
    (l.left ≤ length l.added)
    × ((made : Made) (facts : List Fact) (now : ℕ) → Knows l.fn.known made facts → Knows l.known made (map (added_at now) (drop l.left l.added) ++ facts))

abbrev pub decreases-loop-left : goal.decreases-loop-left
decreases-loop-left l = l.left
