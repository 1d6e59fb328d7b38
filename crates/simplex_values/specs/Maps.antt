-- What stands at a view.
use Rattle.std.specs.Prelude.{ℕ, Bool, Option}
use Rattle.std.specs.Ordering.{nat_cmp}
use Rattle.std.specs.BTreeMap as tree
use Rattle.std.specs.BTreeSet as set
use Rattle.std.specs.BTreeMap.{BTreeMap}
use Rattle.std.specs.BTreeSet.{BTreeSet}

-- the value at the view
unfoldable pub found : {V : Type 0} → BTreeMap ℕ V → ℕ → Option V
found values view = tree.get nat_cmp values view

-- whether the view is in the set
unfoldable pub has : BTreeSet ℕ → ℕ → Bool
has views view = set.contains nat_cmp views view
