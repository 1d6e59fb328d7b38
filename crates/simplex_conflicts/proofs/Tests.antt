-- What tests of lists answer.
use Rattle.std.proofs.Common.{◌≡◌, ℕ, ◌||◌, ◌++◌, Bool, true, false, List, [], ◌∷◌, map, refl, sym, ap, ◌∙◌, ◌⊎◌, inl, inr}
use Rattle.std.specs.Prelude.{Result, Ok, Err, OnOk, IfOk}
use Rattle.std.specs.List.{list_any}
use Rattle.std.proofs.lemmas.Bool.{or_cases}
use Rattle.std.proofs.lemmas.List.Folds.{list_any-append}

-- ---- answers

pub same_answer : (a b : Bool) → (a ≡ true → b ≡ true) → (b ≡ true → a ≡ true) → a ≡ b
same_answer true b there back = sym (there refl)
same_answer false true there back = back refl
same_answer false false there back = refl

pub never : (a : Bool) → (a ≡ true → ⊥) → a ≡ false
never true not = absurd (not refl)
never false not = refl

pub either : (a : Bool) → (a ≡ true) ⊎ (a ≡ false)
either true = inl refl
either false = inr refl

pub or_false : (a : Bool) → (a || false) ≡ a
or_false true = refl
or_false false = refl

pub or_group : (a b c : Bool) → (a || (b || c)) ≡ ((a || b) || c)
or_group true b c = refl
or_group false b c = refl

shuffled : (a b c d : Bool) → ((a || b) || (c || d)) ≡ ((a || c) || (b || d))
shuffled true b c d = refl
shuffled false true true d = refl
shuffled false true false d = refl
shuffled false false c d = refl

or_true : (a : Bool) → (a || true) ≡ true
or_true true = refl
or_true false = refl

or_swap : (a b c : Bool) → (a || (b || c)) ≡ (b || (a || c))
or_swap true true c = refl
or_swap true false c = refl
or_swap false b c = refl

pub or_first : (a b : Bool) → (a || b) ≡ false → a ≡ false
or_first true b e = cc
or_first false b e = refl

-- an answer that the first of two tests gives, and one that is left to the second
pub by_first : (a x y t : Bool) → t ≡ (x || y) → a ≡ x → a ≡ true → a ≡ t
by_first a x y t e f is = f ∙ left x y (sym f ∙ is) ∙ sym e
  where
    left : (x y : Bool) → x ≡ true → x ≡ (x || y)
    left x y e = rw e refl

pub by_second : (a b x y t : Bool) → t ≡ (x || y) → a ≡ x → a ≡ false → b ≡ y → b ≡ t
by_second a b x y t e f is g = g ∙ right x y (sym f ∙ is) ∙ sym e
  where
    right : (x y : Bool) → x ≡ false → y ≡ (x || y)
    right x y e = rw e refl

-- what follows where a call succeeded
pub on_ok : {A E : Type 0} {P Q : Type 0} (r : Result A E) → (P → Q) → OnOk r P → OnOk r Q
on_ok (Ok x) leads p = leads p
on_ok (Err e) leads p = tt

pub if_ok : {A E : Type 0} {P Q : A → Type 0} (r : Result A E) → ((x : A) → P x → Q x) → IfOk r P → IfOk r Q
if_ok (Ok x) leads p = leads x p
if_ok (Err e) leads p = tt

pub if_ok_both : {A E : Type 0} {P Q R : A → Type 0} (r : Result A E) → ((x : A) → P x → Q x → R x) → IfOk r P → IfOk r Q → IfOk r R
if_ok_both (Ok x) leads p q = leads x p q
if_ok_both (Err e) leads p q = tt

-- ---- lists

pub any_same : {X : Type 0} (f g : X → Bool) → ((x : X) → f x ≡ g x) → (xs : List X) → list_any f xs ≡ list_any g xs
any_same f g same [] = refl
any_same f g same (x ∷ xs) = rw (same x, any_same f g same xs) refl

pub any_either : {X : Type 0} (f g : X → Bool) (xs : List X) → list_any (λ x. f x || g x) xs ≡ (list_any f xs || list_any g xs)
any_either f g [] = refl
any_either f g (x ∷ xs) = ap (λ (t : Bool). (f x || g x) || t) (any_either f g xs) ∙ shuffled (f x) (g x) (list_any f xs) (list_any g xs)

pub any_map : {X Y : Type 0} (h : Y → X) (f : X → Bool) (ys : List Y) → list_any f (map h ys) ≡ list_any (λ y. f (h y)) ys
any_map h f [] = refl
any_map h f (y ∷ ys) = ap (λ (t : Bool). f (h y) || t) (any_map h f ys)

pub any_never : {X : Type 0} (xs : List X) → list_any (λ (x : X). false) xs ≡ false
any_never [] = refl
any_never (x ∷ xs) = any_never xs

-- what leads from one test to another at each element does so at the list
pub any_leads : {X : Type 0} (f g : X → Bool) → ((x : X) → f x ≡ true → g x ≡ true) → (xs : List X) → list_any f xs ≡ true → list_any g xs ≡ true
any_leads f g leads [] e = e
any_leads f g leads (x ∷ xs) e = elim (or_cases (f x) (list_any f xs) e) [
  | inl here ↦ rw (leads x here) refl
  | inr there ↦ rw (any_leads f g leads xs there) (or_true (g x))
]

-- what passes names a number, by which it passes another test
pub any_names : {X : Type 0} (f : X → Bool) (P : ℕ → Type 0) (g : ℕ → X → Bool) → ((x : X) → f x ≡ true → (u : ℕ) × P u × (g u x ≡ true))
    → (xs : List X) → list_any f xs ≡ true → (u : ℕ) × P u × (list_any (g u) xs ≡ true)
any_names f P g names [] e = absurd (cc)
any_names f P g names (x ∷ xs) e = elim (or_cases (f x) (list_any f xs) e) [
  | inl here ↦ (let w = names x here in (w.0, w.1, rw w.2 refl))
  | inr there ↦ (let w = any_names f P g names xs there in (w.0, w.1, rw w.2 (or_true (g w.0 x))))
]

-- one more behind the others, and one more before them
pub any_turned : {X : Type 0} (f : X → Bool) (xs ys zs : List X) → list_any f (xs ++ (ys ++ zs)) ≡ list_any f ((ys ++ xs) ++ zs)
any_turned f xs ys zs =
    list_any-append f xs (ys ++ zs) ∙ ap (λ (t : Bool). list_any f xs || t) (list_any-append f ys zs)
    ∙ or_swap (list_any f xs) (list_any f ys) (list_any f zs)
    ∙ or_group (list_any f ys) (list_any f xs) (list_any f zs)
    ∙ ap (λ (t : Bool). t || list_any f zs) (sym (list_any-append f ys xs))
    ∙ sym (list_any-append f (ys ++ xs) zs)
