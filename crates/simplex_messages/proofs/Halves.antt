-- A queue that is gone through as two slices.
use Rattle.std.proofs.Common.{◌≡◌, Bool, ◌||◌, List, ◌++◌, ap, sym, ◌∙◌}
use Rattle.std.specs.List.{list_any}
use Rattle.std.proofs.lemmas.List.Folds.{list_any-append}

-- one of the whole passes where one of the front does, or one of the back
pub any_of_both : {X : Type 0} (passes : X → Bool) (front back whole : List X) → front ++ back ≡ whole → list_any passes whole ≡ (list_any passes front || list_any passes back)
any_of_both passes front back whole e = ap (list_any passes) (sym e) ∙ list_any-append passes front back
