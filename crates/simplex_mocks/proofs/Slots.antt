-- A list whose items are changed one after another.
use Rattle.std.proofs.Common.{◌≡◌, ◌∙◌, ap, refl, ℕ, zero, suc, ◌+◌, ◌-◌, ◌<◌, ◌++◌, List, [], ◌∷◌, map, take, drop, length, slice_index_or, slice_set, replicate, length-append, arith}
use Rattle.std.proofs.Math.Seq.{take-append_seam}
use Rattle.std.proofs.lemmas.List.{length-replicate}
use Rattle.simplex_values.specs.declared.plan.Recipients.{Recipients}
use Rattle.simplex_mocks.specs.declared.relayed.Relayed.{Relayed}
use Rattle.simplex_mocks.specs.Relay.{Place, times_for, with_relayed, taken_back}

-- so many items are changed
abbrev pub changed : {A : Type 0} → (A → A) → ℕ → List A → List A
changed f i xs = map f (take i xs) ++ drop i xs

pub set_suc : {A : Type 0} (f : A → A) (xs : List A) (i : ℕ) (given new : A) → i < length xs → new ≡ f (slice_index_or (changed f i xs) i given)
    → slice_set (changed f i xs) i new ≡ changed f (suc i) xs
set_suc f [] i given new h e = absurd (omega (arith, h))
set_suc f (x ∷ xs) zero given new h e = ap (λ y. y ∷ xs) e
set_suc f (x ∷ xs) (suc i) given new h e = ap (λ ys. f x ∷ ys) (set_suc f xs i given new (omega (arith, h)) e)

-- one more is changed
pub set_next : {A : Type 0} (f : A → A) (xs ys : List A) (i : ℕ) (given new : A) → ys ≡ changed f i xs → i < length xs → new ≡ f (slice_index_or ys i given)
    → slice_set ys i new ≡ changed f (i + 1) xs
set_next f xs ys i given new s h e =
    let n : suc i ≡ i + 1 = omega arith in
    ap (λ zs. slice_set zs i new) s ∙ set_suc f xs i given new h (e ∙ ap (λ zs. f (slice_index_or zs i given)) s) ∙ ap (λ k. changed f k xs) n

-- the next stays
pub set_same : {A : Type 0} (xs : List A) (i : ℕ) (given new : A) → new ≡ slice_index_or xs i given → slice_set xs i new ≡ xs
set_same [] i given new e = refl
set_same (x ∷ xs) zero given new e = ap (λ y. y ∷ xs) e
set_same (x ∷ xs) (suc i) given new e = ap (λ ys. x ∷ ys) (set_same xs i given new e)

pub all_changed : {A : Type 0} (f : A → A) (xs : List A) → changed f (length xs) xs ≡ map f xs
all_changed f [] = refl
all_changed f (x ∷ xs) = ap (λ ys. f x ∷ ys) (all_changed f xs)

-- what is taken back from those that were changed is as it was
pub changed_back : {A : Type 0} (f g : A → A) → ((x : A) → g (f x) ≡ x) → (i : ℕ) (xs : List A) → changed g i (changed f i xs) ≡ xs
changed_back f g back zero xs = refl
changed_back f g back (suc i) [] = refl
changed_back f g back (suc i) (x ∷ xs) = ap (λ y. y ∷ changed g i (changed f i xs)) (back x) ∙ ap (λ ys. x ∷ ys) (changed_back f g back i xs)

cut_back : {A : Type 0} (xs : List A) (n : ℕ) (x : A) → take (length (xs ++ replicate n x) - n) (xs ++ replicate n x) ≡ xs
cut_back xs n x =
    let e : length (xs ++ replicate n x) - n ≡ length xs = omega (arith, length-append xs (replicate n x), length-replicate n x) in
    ap (λ k. take k (xs ++ replicate n x)) e ∙ take-append_seam xs (replicate n x)

-- what an inbox gave back leaves it as it was
pub gives_back : (sender : ℕ) (to : Recipients) (relayed : Relayed) (place : Place) → taken_back sender to (with_relayed sender to relayed place) ≡ place
gives_back sender to relayed place =
    ap (λ holds. record { member = place.member; holds = holds }) (cut_back place.holds (times_for sender to place.member) relayed)
