-- What a list contains, and its fronts.
use Rattle.std.proofs.Common.{◌≡◌, ℕ, zero, suc, ◌<◌, ◌⊎◌, Bool, true, false, cond, List, [], ◌∷◌, ◌++◌, length, get_or, filter, Contains, All, AllPairs, refl, sym, ap, ◌∙◌, subst₂, inl, inr, arith, length-append, subst, append-nil}
use Rattle.std.proofs.lemmas.List.{get_or_append_left}

pub not_in_empty : {X : Type 0} (x : X) → Contains [] x → ⊥
not_in_empty x c = omega (arith, c.1)

pub Contains-here : {X : Type 0} (x : X) (xs : List X) → Contains (x ∷ xs) x
Contains-here x xs = (0, omega arith, refl)

pub Contains-there : {X : Type 0} (y : X) (xs : List X) (x : X) → Contains xs x → Contains (y ∷ xs) x
Contains-there y xs x c = (suc c.0, omega (arith, c.1), c.2)

pub Contains-cons_cases : {X : Type 0} (y : X) (xs : List X) (x : X) → Contains (y ∷ xs) x → (y ≡ x) ⊎ Contains xs x
Contains-cons_cases {X} y xs x c = at c.0 c.1 c.2
  where
    at : (k : ℕ) → k < length (y ∷ xs) → get_or (y ∷ xs) k x ≡ x → (y ≡ x) ⊎ Contains xs x
    at zero lt e = inl e
    at (suc k) lt e = inr (k, omega (arith, lt), e)

filter_here : {X : Type 0} (y : X) (xs : List X) (x : X) (b : Bool) → b ≡ true → y ≡ x → Contains (cond b (y ∷ xs) xs) x
filter_here y xs x true h e = (0, omega arith, e)
filter_here y xs x false h e = cc

filter_there : {X : Type 0} (y : X) (xs : List X) (x : X) (b : Bool) → Contains xs x → Contains (cond b (y ∷ xs) xs) x
filter_there y xs x true c = Contains-there y xs x c
filter_there y xs x false c = c

pub Contains-filter : {X : Type 0} (p : X → Bool) (xs : List X) (x : X) → p x ≡ true → Contains xs x → Contains (filter p xs) x
Contains-filter p [] x h c = absurd (not_in_empty x c)
Contains-filter p (y ∷ ys) x h c =
    elim (Contains-cons_cases y ys x c) [
      | inl e ↦ filter_here y (filter p ys) x (p y) (ap p e ∙ h) e
      | inr r ↦ filter_there y (filter p ys) x (p y) (Contains-filter p ys x h r)
    ]

filter_cases : {X : Type 0} (y : X) (xs : List X) (x : X) (b : Bool) → Contains (cond b (y ∷ xs) xs) x → (y ≡ x) ⊎ Contains xs x
filter_cases y xs x true c = Contains-cons_cases y xs x c
filter_cases y xs x false c = inr c

pub Contains-from_filter : {X : Type 0} (p : X → Bool) (xs : List X) (x : X) → Contains (filter p xs) x → Contains xs x
Contains-from_filter p [] x c = c
Contains-from_filter p (y ∷ ys) x c =
    elim (filter_cases y (filter p ys) x (p y) c) [
      | inl e ↦ (0, omega arith, e)
      | inr r ↦ Contains-there y ys x (Contains-from_filter p ys x r)
    ]

-- the front of a list whose pairs are in order
pub AllPairs-front : {X : Type 0} (R : X → X → Type 0) (xs ys : List X) → AllPairs R (xs ++ ys) → AllPairs R xs
AllPairs-front R xs ys h i j d lt in' =
    let a : get_or (xs ++ ys) i d ≡ get_or xs i d = get_or_append_left xs ys d i (omega arith) in
    let b : get_or (xs ++ ys) j d ≡ get_or xs j d = get_or_append_left xs ys d j in' in
    subst₂ R a b (h i j d lt (omega (arith, length-append xs ys, in')))

pub AllPairs-front_alone : {X : Type 0} (R : X → X → Type 0) (xs ys : List X) → AllPairs R (xs ++ ys) → AllPairs R (xs ++ [])
AllPairs-front_alone R xs ys h = subst (AllPairs R) (sym (append-nil xs)) (AllPairs-front R xs ys h)

pub All-front : {X : Type 0} (P : X → Type 0) (xs ys : List X) → All P (xs ++ ys) → All P xs
All-front P xs ys h k d lt = subst P (get_or_append_left xs ys d k lt) (h k d (omega (arith, length-append xs ys, lt)))

pub All-front_alone : {X : Type 0} (P : X → Type 0) (xs ys : List X) → All P (xs ++ ys) → All P (xs ++ [])
All-front_alone P xs ys h = subst (All P) (sym (append-nil xs)) (All-front P xs ys h)
