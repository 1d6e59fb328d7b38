-- The other members, in rising order.
use Rattle.std.proofs.Common.{◌≡◌, ◌∙◌, ap, refl, ℕ, zero, suc, ◌+◌, ◌<◌, ◌≤◌, ◌==◌, ◌++◌, Bool, true, false, List, [], ◌∷◌, arith}
use Rattle.std.specs.Prelude.{not, filter, cond, slice_index}
use Rattle.std.specs.List.{range_with_len}
use Rattle.std.proofs.lemmas.List.Elements.{filter-append}
use Rattle.std.proofs.lemmas.List.FromFn.{get_or-range_with_len}
use Rattle.model_faults.specs.Equivocator.{others_than}

abbrev pub is_not : ℕ → ℕ → Bool
is_not member m = not (m == member)

pub differs_below : (a b : ℕ) → a < b → (a == b) ≡ false
differs_below a b h = grind (arith, h)

pub differs_above : (a b : ℕ) → b < a → (a == b) ≡ false
differs_above a b h = grind (arith, h)

pub range_more : (a n : ℕ) → range_with_len a (suc n) ≡ range_with_len a n ++ (a + n) ∷ []
range_more a zero = let e : a ≡ a + 0 = omega arith in ap (λ x. x ∷ []) e
range_more a (suc n) = let e : a + 1 + n ≡ a + suc n = omega arith in ap (λ xs. a ∷ xs) (range_more (a + 1) n ∙ ap (λ x. range_with_len (a + 1) n ++ x ∷ []) e)

-- all but two, of one member more
pub but_more : (n me victim : ℕ) → filter (is_not victim) (others_than (suc n) me)
    ≡ filter (is_not victim) (others_than n me) ++ filter (is_not victim) (filter (is_not me) (n ∷ []))
but_more n me victim =
    let e : 0 + n ≡ n = omega arith in
    ap (λ xs. filter (is_not victim) (filter (is_not me) xs)) (range_more 0 n ∙ ap (λ x. range_with_len 0 n ++ x ∷ []) e)
    ∙ ap (filter (is_not victim)) (filter-append (is_not me) (range_with_len 0 n) (n ∷ []))
    ∙ filter-append (is_not victim) (others_than n me) (filter (is_not me) (n ∷ []))

-- above a member nobody is left out
pub all_above : (start len me : ℕ) → me < start → filter (is_not me) (range_with_len start len) ≡ range_with_len start len
all_above start zero me h = refl
all_above start (suc len) me h =
    ap (λ b. cond (not b) (start ∷ filter (is_not me) (range_with_len (start + 1) len)) (filter (is_not me) (range_with_len (start + 1) len))) (differs_above start me h)
    ∙ ap (λ xs. start ∷ xs) (all_above (start + 1) len me (omega (arith, h)))

pub keeps_first : (start len me : ℕ) → start < me → filter (is_not me) (range_with_len start (suc len)) ≡ start ∷ filter (is_not me) (range_with_len (start + 1) len)
keeps_first start len me h =
    ap (λ b. cond (not b) (start ∷ filter (is_not me) (range_with_len (start + 1) len)) (filter (is_not me) (range_with_len (start + 1) len))) (differs_below start me h)

pub below_me : (start len me place : ℕ) → start + place < me → me < start + len → slice_index (filter (is_not me) (range_with_len start len)) place ≡ start + place
below_me start zero me place h k = absurd (omega (arith, h, k))
below_me start (suc len) me zero h k =
    let e : start ≡ start + 0 = omega arith in ap (λ xs. slice_index xs 0) (keeps_first start len me (omega (arith, h))) ∙ e
below_me start (suc len) me (suc place) h k =
    let e : start + 1 + place ≡ start + suc place = omega arith in
    ap (λ xs. slice_index xs (suc place)) (keeps_first start len me (omega (arith, h)))
    ∙ below_me (start + 1) len me place (omega (arith, h)) (omega (arith, k)) ∙ e

pub drops_me : (len me : ℕ) → filter (is_not me) (range_with_len me (suc len)) ≡ filter (is_not me) (range_with_len (me + 1) len)
drops_me len me =
    let e : (me == me) ≡ true = grind (arith) in
    ap (λ b. cond (not b) (me ∷ filter (is_not me) (range_with_len (me + 1) len)) (filter (is_not me) (range_with_len (me + 1) len))) e

pub at_me : (len me place : ℕ) → place < len → slice_index (filter (is_not me) (range_with_len me (suc len))) place ≡ me + place + 1
at_me len me place h =
    let e : me + 1 + place ≡ me + place + 1 = omega arith in
    ap (λ xs. slice_index xs place) (drops_me len me ∙ all_above (me + 1) len me (omega arith)) ∙ get_or-range_with_len (me + 1) len place 0 h ∙ e

pub from_me : (start len me place : ℕ) → start ≤ me → me ≤ start + place → me < start + len → place + 1 < len
    → slice_index (filter (is_not me) (range_with_len start len)) place ≡ start + place + 1
from_me start zero me place a b c d = absurd (omega (arith, d))
from_me start (suc len) me zero a b c d =
    let e : start ≡ me = omega (arith, a, b) in
    let f : me + 0 + 1 ≡ start + 0 + 1 = omega (arith, e) in
    ap (λ s. slice_index (filter (is_not me) (range_with_len s (suc len))) 0) e ∙ at_me len me 0 (omega (arith, d)) ∙ f
from_me start (suc len) me (suc place) a b c d =
    by_start (start == me) refl (λ below. from_me (start + 1) len me place (omega (arith, below)) (omega (arith, b)) (omega (arith, c)) (omega (arith, d)))
  where
    by_start : (t : Bool) → (start == me) ≡ t
        → (start < me → slice_index (filter (is_not me) (range_with_len (start + 1) len)) place ≡ start + 1 + place + 1)
        → slice_index (filter (is_not me) (range_with_len start (suc len))) (suc place) ≡ start + suc place + 1
    by_start true t later =
        let e : start ≡ me = grind (arith, t) in
        let f : me + suc place + 1 ≡ start + suc place + 1 = omega (arith, e) in
        ap (λ s. slice_index (filter (is_not me) (range_with_len s (suc len))) (suc place)) e ∙ at_me len me (suc place) (omega (arith, d)) ∙ f
    by_start false t later =
        let below : start < me = grind (arith, t, a) in
        let f : start + 1 + place + 1 ≡ start + suc place + 1 = omega arith in
        ap (λ xs. slice_index xs (suc place)) (keeps_first start len me below)
        ∙ later below ∙ f

pub nothing_before : {A : Type 0} (xs ys : List A) → ([] ++ xs) ++ ys ≡ xs ++ ys
nothing_before xs ys = refl
