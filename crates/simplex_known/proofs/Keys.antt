-- Keys of proposals.
use Rattle.std.proofs.Common.{◌≡◌, ◌==◌, ℕ, ◌&&◌, List, [], ◌∷◌, arith, refl}
use Rattle.std.proofs.lemmas.Grind.{common_steps}
use Rattle.std.specs.Cmp.{unsigned_tied}
use Rattle.std.specs.Cmp.Lexicographic.{slice_cmp}
use Rattle.std.specs.Ordering.{nat_cmp, is_eq}
use Rattle.std.specs.Str.{bytes_eq}
use Rattle.std.specs.BTreeMap.{is_at}
use Rattle.simplex_known.specs.Proposals.{key_cmp}

-- two lists of bytes are equal where their bytes are
bytes_at : (xs ys : List ℕ) → is_eq (slice_cmp nat_cmp xs ys) ≡ bytes_eq xs ys
bytes_at [] [] = refl
bytes_at [] (y ∷ ys) = refl
bytes_at (x ∷ xs) [] = refl
bytes_at (x ∷ xs) (y ∷ ys) = grind (arith, common_steps, unsigned_tied x y, bytes_at xs ys)

-- two keys are equal where their parts are
pub key_at : (epoch view parent : ℕ) (payload : List ℕ) (k : ℕ × ℕ × ℕ × List ℕ)
    → is_at (key_cmp (epoch, view, parent, payload)) k ≡ (epoch == k.0 && view == k.1 && parent == k.2 && bytes_eq payload k.3)
key_at epoch view parent payload k =
    grind (arith, common_steps, unsigned_tied epoch k.0, unsigned_tied view k.1, unsigned_tied parent k.2, bytes_at payload k.3)
