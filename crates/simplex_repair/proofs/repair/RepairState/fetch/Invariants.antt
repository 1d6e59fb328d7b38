use Rattle.std.proofs.Common.{◌≡◌, ℕ, ◌-◌, ◌++◌, map, List}
use Rattle.model_rules.specs.declared.effect.Effect.TheVariants.{Fetch}
use Rattle.model_rules.specs.Repair.{RepairCall}
use Rattle.simplex_repair.specs.Gaps.{gaps_between}
use Rattle.simplex_repair.specs.Stands.{StandsFor}
use Rattle.simplex_repair.proofs.repair.RepairState.fetch.Given as goal

abbrev pub invariant-loop-view : goal.invariant-loop-view
invariant-loop-view l = (length : ℕ) (calls : List RepairCall) → StandsFor l.self length calls
    → l.effects.items ++ map Fetch (gaps_between length calls l.at l.last) ≡ l.fn.effects.items ++ map Fetch (gaps_between length calls l.fn.behind l.fn.last)

abbrev pub decreases-loop-view : goal.decreases-loop-view
decreases-loop-view l = l.last - l.at
