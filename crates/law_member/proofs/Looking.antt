-- What a look into a list of facts says of each of them.
use Rattle.std.proofs.Common.{◌≡◌, ℕ, zero, suc, ◌<◌, ◌≤◌, Bool, true, false, List, [], ◌∷◌, ◌++◌, length, get_or, Contains, Option, Some, None, refl, sym, ap, ◌∙◌, inl, inr, ◌⊎◌, arith}
use Rattle.std.specs.List.{list_any}
use Rattle.std.specs.Option.{option_or}
use Rattle.std.proofs.lemmas.List.Folds.{Any-from_list_any, list_any-from_Any}
use Rattle.model_rules.specs.Lists.{first_of, greatest_of}

either_is : {A : Type 0} (o p : Option A) (a : A) → option_or o p ≡ Some a → (o ≡ Some a) ⊎ (p ≡ Some a)
either_is (Some b) p a e = inl e
either_is None p a e = inr e

neither_is : {A : Type 0} (o p : Option A) → option_or o p ≡ None → (o ≡ None) × (p ≡ None)
neither_is (Some b) p e = cc
neither_is None p e = (refl, e)

module _ {E : Type 0} where
  none_in_empty : (x : E) → Contains [] x → ⊥
  none_in_empty x c = omega (arith, c.1)

  it_or_before : (y : E) (past : List E) (x : E) → Contains (y ∷ past) x → (y ≡ x) ⊎ Contains past x
  it_or_before y past x c = at c.0 c.1 c.2
    where
      at : (k : ℕ) → k < length (y ∷ past) → get_or (y ∷ past) k x ≡ x → (y ≡ x) ⊎ Contains past x
      at zero lt e = inl e
      at (suc k) lt e = inr (k, omega (arith, lt), e)

  -- the first answer is that of one of them
  pub first_some : {A : Type 0} (pick : E → Option A) (past : List E) (a : A) → first_of pick past ≡ Some a
      → (x : E) × Contains past x × (pick x ≡ Some a)
  unfolding first_of
  first_some pick [] a e = cc
  first_some pick (x ∷ past) a e =
      elim (either_is (first_of pick past) (pick x) a e) [
        | inl before ↦ let r = first_some pick past a before in (r.0, (suc r.1.0, omega (arith, r.1.1), r.1.2), r.2)
        | inr now ↦ (x, (0, omega arith, refl), now)
      ]

  -- where there is no first answer, none of them gives one
  pub first_none : {A : Type 0} (pick : E → Option A) (past : List E) (x : E) → first_of pick past ≡ None → Contains past x → pick x ≡ None
  unfolding first_of
  first_none pick [] x e c = absurd (none_in_empty x c)
  first_none pick (y ∷ past) x e c =
      let parts = neither_is (first_of pick past) (pick y) e in
      elim (it_or_before y past x c) [
        | inl same ↦ ap pick (sym same) ∙ parts.1
        | inr before ↦ first_none pick past x parts.0 before
      ]

  -- where no fact passes, each fails
  pub none_passes : (test : E → Bool) (past : List E) (x : E) → list_any test past ≡ false → Contains past x → test x ≡ false
  none_passes test past x e c = at (test x) refl
    where
      at : (b : Bool) → test x ≡ b → b ≡ false
      at false f = refl
      at true f = absurd (cc (e, list_any-from_Any test past (c.0, x, c.1, c.2, f)))

  -- where one passes, here it is
  pub one_passes : (test : E → Bool) (past : List E) → list_any test past ≡ true → (x : E) × Contains past x × (test x ≡ true)
  one_passes test past e = let a = Any-from_list_any test past e in (a.1, (a.0, a.2, a.3), a.4)

  -- and where one passes, the test of all does
  pub passes : (test : E → Bool) (past : List E) (x : E) → Contains past x → test x ≡ true → list_any test past ≡ true
  passes test past x c f = list_any-from_Any test past (c.0, x, c.1, c.2, f)

  pub at_most_greatest : (number : E → ℕ) (past : List E) (x : E) → Contains past x → number x ≤ greatest_of number past
  unfolding greatest_of
  at_most_greatest number [] x c = absurd (none_in_empty x c)
  at_most_greatest number (y ∷ past) x c =
      elim (it_or_before y past x c) [
        | inl e ↦ omega (arith, ap number e)
        | inr r ↦ omega (arith, at_most_greatest number past x r)
      ]

  -- more of them, and the first answer is the same
  pub first_stays : {A : Type 0} (pick : E → Option A) (more past : List E) (a : A) → first_of pick past ≡ Some a
      → first_of pick (more ++ past) ≡ Some a
  unfolding first_of
  first_stays pick [] past a e = e
  first_stays pick (x ∷ more) past a e = ap (λ o. option_or o (pick x)) (first_stays pick more past a e)

  -- more of them, and the greatest number is no less
  pub greatest_grows : (number : E → ℕ) (more past : List E) → greatest_of number past ≤ greatest_of number (more ++ past)
  unfolding greatest_of
  greatest_grows number [] past = omega arith
  greatest_grows number (x ∷ more) past = omega (arith, greatest_grows number more past)
