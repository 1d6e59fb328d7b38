-- Parts of a list of events.
use Rattle.std.proofs.Common.{◌≡◌, ◌<◌, ◌+◌, ℕ, List, [], ◌∷◌, ◌++◌, take, length, get_or, Option, Some, None, refl, sym, subst, ◌∙◌, inl, inr}
use Rattle.std.specs.Prelude.{IfSome}
use Rattle.std.proofs.lemmas.List.{take_more}
use Rattle.simplex_transcript.specs.declared.event.Event.{Event}
use Rattle.simplex_shrinker.specs.Part.{unnumbered, IsPartOf, with_last}

pub part_empty : (xs ys : List Event) → xs ≡ [] → IsPartOf xs ys
unfolding IsPartOf
part_empty xs ys e = subst (λ (zs : List Event). IsPartOf zs ys) (sym e) tt

pub part_itself : (xs : List Event) → IsPartOf xs xs
unfolding IsPartOf
part_itself [] = tt
part_itself (x ∷ xs) = inl (refl, part_itself xs)

pub part_of_part : (xs ys zs : List Event) → IsPartOf xs ys → IsPartOf ys zs → IsPartOf xs zs
unfolding IsPartOf
part_of_part [] ys zs p q = tt
part_of_part (x ∷ xs) [] zs p q = absurd p
part_of_part (x ∷ xs) (y ∷ ys) [] p q = absurd q
part_of_part (x ∷ xs) (y ∷ ys) (z ∷ zs) p (inr q) = inr (part_of_part (x ∷ xs) (y ∷ ys) zs p q)
part_of_part (x ∷ xs) (y ∷ ys) (z ∷ zs) (inl p) (inl q) = inl (p.0 ∙ q.0, part_of_part xs ys zs p.1 q.1)
part_of_part (x ∷ xs) (y ∷ ys) (z ∷ zs) (inr p) (inl q) = inr (part_of_part (x ∷ xs) ys zs p q.1)

-- one event more that is left out
left_out : (xs ys : List Event) (y : Event) → IsPartOf xs ys → IsPartOf xs (ys ++ y ∷ [])
unfolding IsPartOf
left_out [] ys y p = tt
left_out (x ∷ xs) [] y p = absurd p
left_out (x ∷ xs) (z ∷ ys) y (inl p) = inl (p.0, left_out xs ys y p.1)
left_out (x ∷ xs) (z ∷ ys) y (inr p) = inr (left_out (x ∷ xs) ys y p)

-- and one that is kept
kept_last : (xs ys : List Event) (x y : Event) → unnumbered x ≡ unnumbered y → IsPartOf xs ys → IsPartOf (xs ++ x ∷ []) (ys ++ y ∷ [])
unfolding IsPartOf
kept_last [] [] x y e p = inl (e, tt)
kept_last [] (z ∷ ys) x y e p = inr (kept_last [] ys x y e tt)
kept_last (a ∷ xs) [] x y e p = absurd p
kept_last (a ∷ xs) (z ∷ ys) x y e (inl p) = inl (p.0, kept_last xs ys x y e p.1)
kept_last (a ∷ xs) (z ∷ ys) x y e (inr p) = inr (kept_last (a ∷ xs) ys x y e p)

last_or_out : (xs ys : List Event) (o : Option Event) (y : Event) → IfSome o (λ x. unnumbered x ≡ unnumbered y) → IsPartOf xs ys → IsPartOf (with_last xs o) (ys ++ y ∷ [])
last_or_out xs ys None y e p = left_out xs ys y p
last_or_out xs ys (Some x) y e p = kept_last xs ys x y e p

pub part_more : (old new events : List Event) (i : ℕ) (o : Option Event) (y : Event) → i < length events → y ≡ get_or events i y → new ≡ with_last old o
    → IfSome o (λ x. unnumbered x ≡ unnumbered y) → IsPartOf old (take i events) → IsPartOf new (take (i + 1) events)
part_more old new events i o y low is last like p =
    subst (λ (xs : List Event). IsPartOf xs (take (i + 1) events)) (sym last)
    (subst (IsPartOf (with_last old o)) (sym (take_more events i y low)) (subst (λ (z : Event). IsPartOf (with_last old o) (take i events ++ z ∷ [])) is (last_or_out old (take i events) o y like p)))
