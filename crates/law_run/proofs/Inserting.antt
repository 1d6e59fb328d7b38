-- Members that are put, one by one, among those that are blocked.
use Rattle.std.proofs.Common.{◌≡◌, ◌<◌, ℕ, ◌==◌, ◌||◌, Bool, true, false, List, [], ◌∷◌, ◌++◌, refl, sym, ap, ◌∙◌}
use Rattle.std.specs.BTreeSet.{insert_key}
use Rattle.std.specs.Ordering.{MatchOrdering, match_ordering, nat_cmp}
use Rattle.std.specs.declared.cmp.Ordering.{Ordering}
use Rattle.std.specs.declared.cmp.Ordering.TheVariants.{Less, Equal, Greater}
use Rattle.std.proofs.lemmas.Cmp.{ranked}
use Rattle.model_resolver.specs.Asks.{holds_member}

unfoldable pub inserted : List ℕ → List ℕ → List ℕ
inserted blocked [] = blocked
inserted blocked (member ∷ members) = inserted (insert_key nat_cmp blocked member) members

pub inserted-append : (blocked xs ys : List ℕ) → inserted blocked (xs ++ ys) ≡ inserted (inserted blocked xs) ys
unfolding inserted
inserted-append blocked [] ys = refl
inserted-append blocked (x ∷ xs) ys = inserted-append (insert_key nat_cmp blocked x) xs ys

either_first : (a b c : Bool) → (a || (b || c)) ≡ (b || (a || c))
either_first true true c = refl
either_first true false c = refl
either_first false true c = refl
either_first false false c = refl

twice : (a c : Bool) → (a || (a || c)) ≡ (a || c)
twice true c = refl
twice false c = refl

-- whom the list holds with one more
holds_insert : (blocked : List ℕ) (more member : ℕ) → holds_member (insert_key nat_cmp blocked more) member ≡ (more == member || holds_member blocked member)
holds_insert [] more member = refl
holds_insert (x ∷ xs) more member = at (nat_cmp more x) (ranked more x (nat_cmp more x) refl) (holds_insert xs more member)
  where
    at : (o : Ordering) → MatchOrdering o (more < x) (more ≡ x) (x < more) → holds_member (insert_key nat_cmp xs more) member ≡ (more == member || holds_member xs member)
        → holds_member (match_ordering o (more ∷ x ∷ xs) (x ∷ xs) (x ∷ insert_key nat_cmp xs more)) member ≡ (more == member || (x == member || holds_member xs member))
    at Less r old = refl
    at Equal r old = sym (ap (λ y. y == member || (x == member || holds_member xs member)) r ∙ twice (x == member) (holds_member xs member))
    at Greater r old = ap (λ b. x == member || b) old ∙ either_first (x == member) (more == member) (holds_member xs member)

-- and with all of these
pub holds_inserted : (blocked members : List ℕ) (member : ℕ) → holds_member (inserted blocked members) member ≡ (holds_member members member || holds_member blocked member)
unfolding inserted
holds_inserted blocked [] member = refl
holds_inserted blocked (more ∷ members) member =
    holds_inserted (insert_key nat_cmp blocked more) members member ∙ ap (λ b. holds_member members member || b) (holds_insert blocked more member)
    ∙ turn (holds_member members member) (more == member) (holds_member blocked member)
  where
    turn : (a b c : Bool) → (a || (b || c)) ≡ ((b || a) || c)
    turn true true c = refl
    turn true false c = refl
    turn false true c = refl
    turn false false c = refl
