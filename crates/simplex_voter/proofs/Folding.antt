-- A loop that folds a change of the desk over a list.
use Rattle.std.proofs.Common.{◌≡◌, ℕ, ◌+◌, ◌<◌, List, ◌∷◌, length, get_or, fold, drop, ap, sym, ◌∙◌, add-one, suc}
use Rattle.std.proofs.Math.Seq.{drop-cons}
use Rattle.model_rules.specs.Pending.{Desk}
use Rattle.model_steps.specs.Desk.{Doing}
use Rattle.simplex_voter.specs.Stands.{on_desk}

-- what was done so far, from which what is left gives the same as all from what was done before
pub record Folded {X : Type 0} (change : Desk → X → Desk) (Stands : Doing → Type 0) (before : Doing) (all left : List X) : Type 0 where
  pub doing : Doing
  pub stands : Stands doing
  pub ends : on_desk (λ desk. fold change desk left) doing ≡ on_desk (λ desk. fold change desk all) before

module _ {X : Type 0} where
  pub drop-item : (xs : List X) (i : ℕ) (x : X) → i < length xs → x ≡ get_or xs i x → drop i xs ≡ x ∷ drop (i + 1) xs
  drop-item xs i x within is = rw add-one (drop-cons xs i x within ∙ ap (λ y. y ∷ drop (suc i) xs) (sym is))

  -- one item is done
  pub folded-item : (change : Desk → X → Desk) (Before After : Doing → Type 0) (before : Doing) (xs : List X) (i : ℕ) (x : X)
      → i < length xs → x ≡ get_or xs i x
      → ((doing : Doing) → Before doing → After (on_desk (λ desk. change desk x) doing))
      → Folded change Before before xs (drop i xs) → Folded change After before xs (drop (i + 1) xs)
  folded-item change Before After before xs i x within is item f =
      record {
        doing = on_desk (λ desk. change desk x) f.doing;
        stands = item f.doing f.stands;
        ends = rw (drop-item xs i x within is) at f.ends;
      }
