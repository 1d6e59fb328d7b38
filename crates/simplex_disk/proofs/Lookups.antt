-- What is found under a number after a change of a map.
use Rattle.std.proofs.Common.{◌≡◌, ◌≢◌, ℕ, List, [], ◌∷◌, Some, refl, arith, inl, inr}
use Rattle.std.specs.Ordering.{nat_cmp}
use Rattle.std.specs.Cmp.{unsigned_tied}
use Rattle.std.specs.Map.{lookup, set_value}
use Rattle.std.specs.BTreeMap.{is_at, insert_entry}
use Rattle.std.proofs.lemmas.Bool.{cases_order}
use Rattle.std.proofs.lemmas.Bool.Decides.{nat_tests}
use Rattle.std.proofs.lemmas.Grind.{common_steps}

module _ {V : Type 0} where
  pub lookup-set_same : (n : ℕ) (es : List (ℕ × V)) (v w : V) → lookup (is_at (nat_cmp n)) es ≡ Some v → lookup (is_at (nat_cmp n)) (set_value (is_at (nat_cmp n)) es w) ≡ Some w
  lookup-set_same n [] v w h = cc
  lookup-set_same n (e ∷ es) v w h = grind (arith, common_steps, unsigned_tied n e.0, lookup-set_same n es v w)

  pub lookup-set_other : (n m : ℕ) (es : List (ℕ × V)) (w : V) → m ≢ n → lookup (is_at (nat_cmp m)) (set_value (is_at (nat_cmp n)) es w) ≡ lookup (is_at (nat_cmp m)) es
  lookup-set_other n m [] w other = refl
  lookup-set_other n m (e ∷ es) w other = grind (arith, common_steps, unsigned_tied n e.0, unsigned_tied m e.0, lookup-set_other n m es w other)

  pub lookup-insert_same : (n : ℕ) (es : List (ℕ × V)) (w : V) → lookup (is_at (nat_cmp n)) (insert_entry nat_cmp es n w) ≡ Some w
  lookup-insert_same n [] w = grind (arith, common_steps, nat_tests)
  lookup-insert_same n (e ∷ es) w = elim (cases_order n e.0) [
    | inl same ↦ grind (arith, common_steps, nat_tests)
    | inr (inl below) ↦ grind (arith, common_steps, nat_tests)
    | inr (inr above) ↦ grind (arith, common_steps, nat_tests, lookup-insert_same n es w)
  ]

  pub lookup-insert_other : (n m : ℕ) (es : List (ℕ × V)) (w : V) → m ≢ n → lookup (is_at (nat_cmp m)) (insert_entry nat_cmp es n w) ≡ lookup (is_at (nat_cmp m)) es
  lookup-insert_other n m [] w other = grind (arith, common_steps, unsigned_tied m n)
  lookup-insert_other n m (e ∷ es) w other = elim (cases_order n e.0) [
    | inl same ↦ grind (arith, common_steps, nat_tests, unsigned_tied m n, unsigned_tied m e.0)
    | inr (inl below) ↦ grind (arith, common_steps, nat_tests, unsigned_tied m n, unsigned_tied m e.0)
    | inr (inr above) ↦ grind (arith, common_steps, nat_tests, unsigned_tied m e.0, lookup-insert_other n m es w other)
  ]
