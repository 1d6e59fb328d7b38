-- What one pass over the accepted votes leaves.
use Rattle.std.proofs.Common.{arith, ℕ, ◌≡◌, List, [], ◌∷◌, Bool, true, refl, map, filter, drop, if◌then◌else◌}
use Rattle.std.proofs.lemmas.Grind.{common_steps}
use Rattle.std.specs.List.{slice_get}
use Rattle.std.specs.Map.{values_of}
use Rattle.std.specs.Map.Calls.{RetainsPairs}
use Rattle.simplex_values.specs.declared.proposal.Subject.{Subject}
use Rattle.simplex_round.specs.declared.ballot.Ballot.{Ballot}
use Rattle.simplex_round.specs.Ballots.{AtSigners, marked}
use Rattle.simplex_round.specs.Assembly.{Scheme, is_unchecked, verifies_by, checked}

-- what one turn does with the findings that are left
abbrev pub Turn : Subject → List Bool → Ballot → Bool → Ballot → List Bool → Type 0
Turn subject left v b w after =
    (b ≡ true)
    × (w ≡ (if is_unchecked subject v then record v { found = slice_get left 0 } else v))
    × (after ≡ (if is_unchecked subject v then drop 1 left else left))

module _ {F : Type 0} (T : F → ℕ → Ballot → Bool → Ballot → F → Type 0) (I : F → Type 0) (left : F → List Bool) (subject : Subject)
    (turn : (g : F) (k : ℕ) (v : Ballot) (b : Bool) (w : Ballot) (g' : F) → I g → T g k v b w g' → Turn subject (left g) v b w (left g') × I g') where
  pub marked_values : (f : F) (es kept : List (ℕ × Ballot)) → I f → RetainsPairs T f es kept
      → (AtSigners es → AtSigners kept) × (values_of kept ≡ marked subject (values_of es) (left f))
  unfolding marked
  marked_values f [] kept i r = grind (arith, common_steps, r)
  marked_values f (e ∷ es) kept i (b, w, f', rest, t, r, is) =
      let step = turn f e.0 e.1 b w f' i t in
      let more = marked_values f' es rest step.1 r in
      grind (arith, common_steps, step.0, more, is)

-- what is found of all in turn is what checking each gives
pub marked_checked : (scheme : Scheme) (subject : Subject) (bs : List Ballot)
    → marked subject bs (map (verifies_by scheme subject) (filter (is_unchecked subject) bs)) ≡ map (checked scheme subject) bs
unfolding marked checked
marked_checked scheme subject [] = refl
marked_checked scheme subject (b ∷ bs) = grind (arith, common_steps, marked_checked scheme subject bs)
