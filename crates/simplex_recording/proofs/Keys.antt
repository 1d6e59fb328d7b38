-- Keys of votes and of evidence.
use Rattle.std.proofs.Common.{◌≡◌, ◌==◌, ℕ, ◌&&◌, List, [], ◌∷◌, arith, refl}
use Rattle.std.proofs.lemmas.Grind.{common_steps}
use Rattle.std.specs.Cmp.{unsigned_tied}
use Rattle.std.specs.Cmp.Lexicographic.{slice_cmp}
use Rattle.std.specs.Ordering.{nat_cmp, is_eq}
use Rattle.std.specs.Str.{bytes_eq}
use Rattle.std.specs.BTreeMap.{is_at}
use Rattle.simplex_recording.specs.Kept.{pair_cmp, cast_cmp}

-- two lists of bytes are equal where their bytes are
pub bytes_at : (xs ys : List ℕ) → is_eq (slice_cmp nat_cmp xs ys) ≡ bytes_eq xs ys
bytes_at [] [] = refl
bytes_at [] (y ∷ ys) = refl
bytes_at (x ∷ xs) [] = refl
bytes_at (x ∷ xs) (y ∷ ys) = grind (arith, common_steps, unsigned_tied x y, bytes_at xs ys)

-- two keys are equal where their parts are
pub pair_at : (view signer : ℕ) (p : ℕ × ℕ) → is_at (pair_cmp (view, signer)) p ≡ (view == p.0 && signer == p.1)
pair_at view signer p = grind (arith, common_steps, unsigned_tied view p.0, unsigned_tied signer p.1)

pub cast_at : (view : ℕ) (payload : List ℕ) (signer : ℕ) (p : ℕ × List ℕ × ℕ)
    → is_at (cast_cmp (view, payload, signer)) p ≡ (view == p.0 && bytes_eq payload p.1 && signer == p.2)
cast_at view payload signer p = grind (arith, common_steps, unsigned_tied view p.0, bytes_at payload p.1, unsigned_tied signer p.2)
