-- Records with a fact among their fields.
use Rattle.std.proofs.Common.{◌≡◌, subst, ap}

-- records are one where their plain fields are, and the fact has one proof
pub same_fields : {A B R : Type 0} (P : A → B → Type 0) (make : (a : A) (b : B) → P a b → R) → ((a : A) (b : B) → IsProp (P a b)) → (a a' : A) (b b' : B) → a ≡ a' → b ≡ b' → (p : P a b) (p' : P a' b') → make a b p ≡ make a' b' p'
same_fields {A} {B} {R} P make one a a' b b' first second p p' =
    let Q : A → Type 0 = λ x. (p' : P x b') → make a b p ≡ make x b' p' in
    let O : B → Type 0 = λ y. (p' : P a y) → make a b p ≡ make a y p' in
    subst Q first (subst O second (λ p'. ap (make a b) (one a b p p'))) p'
