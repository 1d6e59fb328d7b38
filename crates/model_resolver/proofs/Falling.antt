-- The order of sends.
use Rattle.std.proofs.Common.{◌≡◌, ℕ, nat_le, true, List, [], ◌∷◌, arith}
use Rattle.std.proofs.lemmas.Grind.{common_steps}
use Rattle.std.proofs.lemmas.Bool.Decides.{nat_tests}
use Rattle.model_resolver.specs.declared.sending.Sending.{Sending}
use Rattle.model_resolver.specs.Sends.{placed}
use Rattle.model_resolver.specs.Resolver.{Made, Doing, putting, leaving}
use Rattle.model_resolver.specs.Laws.{falls_from, falls}
use Rattle.model_resolver.proofs.Keeping.{Keeps, HandsOn}

placed-below : (top : ℕ) (sent : Sending) (sends : List Sending) → nat_le sent.view top ≡ true → falls_from top sends ≡ true → falls_from top (placed sent sends) ≡ true
unfolding falls_from placed
placed-below top sent [] below falling = grind (arith, common_steps, below)
placed-below top sent (other ∷ others) below falling =
    grind (arith, common_steps, nat_tests, below, falling, placed-below other.view sent others)

pub placed-falls : (sent : Sending) (sends : List Sending) → falls sends ≡ true → falls (placed sent sends) ≡ true
unfolding falls falls_from placed
placed-falls sent [] falling = grind (arith, common_steps)
placed-falls sent (other ∷ others) falling =
    grind (arith, common_steps, nat_tests, falling, placed-below other.view sent others)

-- the sends so far fall
abbrev pub Falls : Doing → Type 0
Falls doing = falls doing.sends ≡ true

pub falling-kept : Keeps Falls
unfolding putting leaving
falling-kept = record {
  sent = λ to bytes doing p. placed-falls _ doing.sends p;
  blocked = λ member why doing p. p;
  put = λ message doing p. p;
  left = λ id doing p. p;
  fetched = λ fetcher doing p. p;
  took = λ call doing p. p;
}

pub falling-handed : (made : Made) → HandsOn made Falls
falling-handed made view bytes certificate same doing p = p
