-- The lines of one member behind those of another.
use Rattle.std.proofs.Common.{◌≡◌, ℕ, ◌+◌, Bool, true, false, zero, suc, List, [], ◌∷◌, ◌++◌, filter, if◌then◌else◌, sym, ap, ◌∙◌, arith, append_assoc, append-nil}
use Rattle.std.specs.List.{flat_map, range_with_len}
use Rattle.std.proofs.lemmas.Grind.{common_steps}
use Rattle.std.proofs.lemmas.List.Concat.{flat_map-append}

-- ---- a member, or none

module _ (f : ℕ → List ℕ) (test : ℕ → Bool) (base : List ℕ) (n : ℕ) where
  pub kept_lines : test n ≡ true → base ++ f n ≡ base ++ flat_map f (filter test (n ∷ []))
  kept_lines = at (test n)
    where
      at : (b : Bool) → b ≡ true → base ++ f n ≡ base ++ flat_map f (if b then n ∷ [] else [])
      at true e = ap (λ (lines : List ℕ). base ++ lines) (sym (append-nil (f n)))
      at false e = cc

  pub dropped_lines : test n ≡ false → base ≡ base ++ flat_map f (filter test (n ∷ []))
  dropped_lines = at (test n)
    where
      at : (b : Bool) → b ≡ false → base ≡ base ++ flat_map f (if b then n ∷ [] else [])
      at true e = cc
      at false e = sym (append-nil base)

-- ---- one more number

range_more : (test : ℕ → Bool) (a n : ℕ)
    → filter test (range_with_len a (n + 1)) ≡ filter test (range_with_len a n) ++ (if test (a + n) then (a + n) ∷ [] else [])
range_more test a zero = grind (arith, common_steps)
range_more test a (suc n) = grind (arith, common_steps, range_more test (a + 1) n)

none_plus : (n : ℕ) → 0 + n ≡ n
none_plus n = omega arith

one_more : (test : ℕ → Bool) (n : ℕ) → filter test (range_with_len 0 (n + 1)) ≡ filter test (range_with_len 0 n) ++ filter test (n ∷ [])
one_more test n = range_more test 0 n ∙ ap (λ (k : ℕ). filter test (range_with_len 0 n) ++ (if test k then k ∷ [] else [])) (none_plus n)

pub members_more : (f : ℕ → List ℕ) (test : ℕ → Bool) (base : List ℕ) (n : ℕ)
    → (base ++ flat_map f (filter test (range_with_len 0 n))) ++ flat_map f (filter test (n ∷ [])) ≡ base ++ flat_map f (filter test (range_with_len 0 (n + 1)))
members_more f test base n =
    append_assoc base (flat_map f (filter test (range_with_len 0 n))) (flat_map f (filter test (n ∷ [])))
    ∙ ap (λ (lines : List ℕ). base ++ lines)
    (sym (flat_map-append f (filter test (range_with_len 0 n)) (filter test (n ∷ []))) ∙ ap (flat_map f) (sym (one_more test n)))
