-- The greatest number that passes.
use Rattle.std.proofs.Common.{◌≡◌, ℕ, zero, suc, ◌<◌, Bool, true, false, Option, Some, None, refl, arith}
use Rattle.std.proofs.lemmas.Bool.{cases_eq}
use Rattle.std.proofs.lemmas.Grind.{common_steps}
use Rattle.model_rules.specs.Lists.{greatest_below}

none_is_some : (x : ℕ) → ◌≡◌ {A = Option ℕ} None (Some x) → ⊥
none_is_some x e = cc

none_at_some : {A : Type 0} (x : ℕ) → ◌≡◌ {A = Option ℕ} (Some x) None → A
none_at_some x e = absurd (cc)

pub greatest_is : (test : ℕ → Bool) (n p : ℕ) → p < n → test p ≡ true → ((q : ℕ) → p < q → q < n → test q ≡ false) → greatest_below test n ≡ Some p
unfolding greatest_below
greatest_is test zero p l e none = absurd (omega (arith, l))
greatest_is test (suc n) p l e none = grind (arith, common_steps, l, e, none n, greatest_is test n p, cases_eq n p, λ (q : ℕ) (a : p < q) (b : q < n). none q a (omega (arith, b)))

pub greatest_none : (test : ℕ → Bool) (n : ℕ) → ((q : ℕ) → q < n → test q ≡ false) → greatest_below test n ≡ None
unfolding greatest_below
greatest_none test zero none = refl
greatest_none test (suc n) none = grind (arith, common_steps, none n (omega arith), greatest_none test n (λ q l. none q (omega (arith, l))))

pub greatest_passes : (test : ℕ → Bool) (n p : ℕ) → greatest_below test n ≡ Some p → (test p ≡ true) × (p < n)
unfolding greatest_below
greatest_passes test zero p e = absurd (none_is_some p e)
greatest_passes test (suc n) p e = (grind (arith, common_steps, e, greatest_passes test n p), grind (arith, common_steps, e, greatest_passes test n p))

-- none above it passes
pub greatest_rest : (test : ℕ → Bool) (n p q : ℕ) → greatest_below test n ≡ Some p → p < q → q < n → test q ≡ false
unfolding greatest_below
greatest_rest test zero p q e above below = absurd (omega (arith, below))
greatest_rest test (suc n) p q e above below = grind (arith, common_steps, e, above, below, cases_eq n q, greatest_rest test n p q)

pub nothing_passes : (test : ℕ → Bool) (n q : ℕ) → greatest_below test n ≡ None → q < n → test q ≡ false
unfolding greatest_below
nothing_passes test zero q e below = absurd (omega (arith, below))
nothing_passes test (suc n) q e below = grind (arith, common_steps, e, below, cases_eq n q, nothing_passes test n q)
