-- Records from the front, one by one.
use Rattle.std.proofs.Common.{◌≡◌, ◌<◌, ◌≤◌, ◌-◌, ℕ, zero, suc, arith, List, [], ◌∷◌, Option, None, Some, Result, Ok, Err, refl, ap, ◌∙◌}
use Rattle.std.specs.Result.{result_ok}
use Rattle.simplex_wire.specs.declared.artifact.Artifact.{Artifact}
use Rattle.simplex_wire.specs.declared.error.DecodeError.{DecodeError}
use Rattle.simplex_disk.specs.Chain.{block, and_behind, taken, walked, opened_by}

-- the record that was taken, and what is read behind it
abbrev pub and_more : (List ℕ → List Artifact) → Option (Artifact × List ℕ) → List Artifact
and_more more None = []
and_more more (Some x) = x.0 ∷ more x.1

same_more : (more : List ℕ → List Artifact) (r : Result (Artifact × List ℕ) DecodeError) → and_behind more r ≡ and_more more (result_ok r)
same_more more (Ok x) = refl
same_more more (Err e) = refl

pub walked-taken : (n : ℕ) (bytes : List ℕ) → walked (suc n) bytes ≡ and_more (walked n) (taken bytes)
unfolding walked taken
walked-taken n [] = refl
walked-taken n (gate ∷ bytes) = same_more (walked n) (block bytes)

-- Behind an open gate it is the same.
pub opened-taken : (n : ℕ) (bytes : List ℕ) → opened_by (suc n) (1 ∷ bytes) ≡ and_more (opened_by n) (taken (1 ∷ bytes))
unfolding opened_by taken
opened-taken n bytes = same_more (opened_by n) (block bytes)

pub walk_none : (left : ℕ) (rest : List ℕ) → 0 < left → taken rest ≡ None → walked left rest ≡ []
walk_none zero rest more none = absurd (omega arith)
walk_none (suc n) rest more none = walked-taken n rest ∙ ap (λ (o : Option (Artifact × List ℕ)). and_more (walked n) o) none

pub walk_some : (left : ℕ) (rest behind : List ℕ) (a : Artifact) → 0 < left → taken rest ≡ Some (a, behind) → walked left rest ≡ a ∷ walked (left - 1) behind
walk_some zero rest behind a more some = absurd (omega arith)
walk_some (suc n) rest behind a more some =
    walked-taken n rest ∙ ap (λ (o : Option (Artifact × List ℕ)). and_more (walked n) o) some ∙ ap (λ (k : ℕ). a ∷ walked k behind) (let e : n ≡ suc n - 1 = omega arith in e)

pub walk_end : (left : ℕ) (rest : List ℕ) → left ≤ 0 → walked left rest ≡ []
unfolding walked
walk_end zero rest none = refl
walk_end (suc n) rest none = absurd (omega arith)
