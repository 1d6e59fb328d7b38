-- The views of a span that have a round.
use Rattle.std.proofs.Common.{◌≡◌, ◌<◌, ◌≤◌, ◌+◌, ◌-◌, ℕ, zero, suc, Bool, false, ◌&&◌, nat_le, nat_lt, refl, List, [], ◌∷◌, map, filter, if◌then◌else◌, Option, Some, None, inl, inr, arith}
use Rattle.std.specs.Prelude.{⊤}
use Rattle.std.specs.List.{range_with_len, AllByRecursion}
use Rattle.std.specs.Option.{is_some, option_map}
use Rattle.std.proofs.lemmas.Grind.{common_steps}
use Rattle.std.proofs.lemmas.Bool.{cases_order}
use Rattle.std.proofs.lemmas.Bool.Decides.{nat_tests}
use Rattle.std.proofs.lemmas.Map.Keys.{sorted_head, sorted_tail}
use Rattle.std.specs.declared.cmp.Ordering.TheVariants.{Less}
use Rattle.std.specs.Ordering.{nat_cmp}
use Rattle.std.specs.Cmp.{unsigned_tied}
use Rattle.std.specs.Map.{keys_of, lookup}
use Rattle.std.specs.BTreeMap.{is_at}
use Rattle.std.specs.BTreeMap.Range.{entries_between}
use Rattle.std.specs.declared.ops.Bound.TheVariants.{Included}
use Rattle.std.specs.List.Sorted.{IsStrictlySortedBy}

pub less_is_below : (v w : ℕ) → nat_cmp v w ≡ Less → v < w
less_is_below v w h = grind (arith, nat_tests)

module _ {V : Type 0} where
  -- the numbers rise
  abbrev pub Rising : List (ℕ × V) → Type 0
  Rising es = IsStrictlySortedBy nat_cmp (keys_of es)

  -- all numbers are above this one
  abbrev pub Above : ℕ → List (ℕ × V) → Type 0
  Above v [] = ⊤
  Above v (x ∷ es) = (v < x.0) × Above v es

  -- whether there is something at the number
  abbrev pub has : List (ℕ × V) → ℕ → Bool
  has es v = is_some (lookup (is_at (nat_cmp v)) es)

  -- the numbers from a on, n of them, that have something
  abbrev pub span : ℕ → ℕ → List (ℕ × V) → List ℕ
  span a n [] = []
  span a n (x ∷ es) = if nat_le a x.0 && nat_lt x.0 (a + n) then x.0 ∷ span a n es else span a n es

  pub above_from : (v : ℕ) (es : List (ℕ × V)) → AllByRecursion (λ y. nat_cmp v y ≡ Less) (keys_of es) → Above v es
  above_from v [] h = tt
  above_from v (x ∷ es) h = (less_is_below v x.0 h.0, above_from v es h.1)

  pub above_lower : (v w : ℕ) (es : List (ℕ × V)) → v < w → Above w es → Above v es
  above_lower v w [] less h = tt
  above_lower v w (x ∷ es) less h = (let a : w < x.0 = h.0 in let b : v < x.0 = omega arith in b, above_lower v w es less h.1)

  pub above_head : (x : ℕ × V) (es : List (ℕ × V)) → Rising (x ∷ es) → Above x.0 es
  above_head x es s = above_from x.0 es (sorted_head nat_cmp x.0 (keys_of es) s)

  pub tail_rises : (x : ℕ × V) (es : List (ℕ × V)) → Rising (x ∷ es) → Rising es
  tail_rises x es s = sorted_tail nat_cmp x.0 (keys_of es) s

  -- at a number below all there is nothing
  pub has-above : (v : ℕ) (es : List (ℕ × V)) → Above v es → has es v ≡ false
  has-above v [] h = refl
  has-above v (x ∷ es) h =
      let here : v < x.0 = h.0 in let rest = has-above v es h.1 in grind (arith, common_steps, nat_tests)

  -- one more number in front
  pub span-more : (a n : ℕ) (es : List (ℕ × V)) → Rising es
      → span a (suc n) es ≡ (if has es a then a ∷ span (a + 1) n es else span (a + 1) n es)
  span-more a n [] s = refl
  span-more a n (x ∷ es) s =
      let rest = span-more a n es (tail_rises x es s) in
      let high = above_head x es s in
      elim (cases_order a x.0) [
        | inl same ↦ let none : has es a ≡ false = has-above a es (rw same high) in grind (arith, common_steps, nat_tests, unsigned_tied a x.0)
        | inr (inl below) ↦ let none : has es a ≡ false = has-above a es (above_lower a x.0 es below high) in grind (arith, common_steps, nat_tests, unsigned_tied a x.0)
        | inr (inr above) ↦ grind (arith, common_steps, nat_tests, unsigned_tied a x.0)
      ]

  pub span-none : (a : ℕ) (es : List (ℕ × V)) → span a 0 es ≡ []
  span-none a [] = refl
  span-none a (x ∷ es) = let rest = span-none a es in grind (arith, common_steps, nat_tests)

  -- these are the numbers of the range that have something
  pub span-is : (n a : ℕ) (es : List (ℕ × V)) → Rising es → span a n es ≡ filter (has es) (range_with_len a n)
  span-is zero a es s = span-none a es
  span-is (suc n) a es s =
      let more = span-more a n es s in
      let rest = span-is n (a + 1) es s in
      grind (arith, common_steps)

  -- what a map has between two numbers
  pub between-span : (first last : ℕ) (es : List (ℕ × V)) → first ≤ last
      → map (λ e. e.0) (entries_between nat_cmp (Included first) (Included last) es) ≡ span first (last + 1 - first) es
  between-span first last [] h = refl
  between-span first last (x ∷ es) h = let rest = between-span first last es h in grind (arith, common_steps, nat_tests, unsigned_tied first x.0)

-- a value is there where one is that it is made of
pub is_some-map : {A B : Type 0} → (f : A → B) (o : Option A) → is_some (option_map f o) ≡ is_some o
is_some-map f None = refl
is_some-map f (Some x) = refl
