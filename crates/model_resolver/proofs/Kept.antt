-- Asks that are kept.
use Rattle.std.proofs.Common.{◌≡◌, refl, ap, List, [], ◌∷◌}
use Rattle.model_resolver.specs.declared.arrivals.Arrival.{Arrival}
use Rattle.model_resolver.specs.Asks.{without_asks, holds_ask}

-- where no ask is dropped all stay
pub without_none : (xs : List Arrival) → without_asks (holds_ask []) xs ≡ xs
without_none [] = refl
without_none (x ∷ xs) = ap (λ ys. x ∷ ys) (without_none xs)
