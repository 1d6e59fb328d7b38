-- Where walks end as one more link comes.
use Rattle.std.proofs.Common.{◌≡◌, ℕ, zero, suc, ◌<◌, ◌≤◌, ◌==◌, Bool, true, false, List, [], ◌∷◌, ◌++◌, Option, Some, None, refl, sym, ap, subst, ◌∙◌, inl, inr, arith, eqb-true, eq-eqb, if◌then◌else◌}
use Rattle.std.specs.Option.{option_or}
use Rattle.simplex_values.specs.declared.proposal.Proposal.{Proposal}
use Rattle.std.proofs.lemmas.List.Elements.{Contains-push_cases}
use Rattle.model_log.specs.Walks.{link_at, with_walk, walk_within, walk, end_of}
use Rattle.model_log.specs.Ends.{end_in, end_behind, GoDown, IsNewLink}
use Rattle.model_log.proofs.Holding.{found}

none_at_zero : (links : List Proposal) → GoDown links → (o : Option Proposal) → link_at links 0 ≡ o → o ≡ None
none_at_zero links down None e = refl
none_at_zero links down (Some p) e = let f = found links 0 p e in absurd (omega (arith, f.1, down p f.0))

-- ---- the bound does not matter

pub none_there : (n : ℕ) (links : List Proposal) (view : ℕ) → link_at links view ≡ None → walk_within n links view ≡ []
unfolding walk_within
none_there zero links view e = refl
none_there (suc n) links view e = ap (with_walk (walk_within n links)) e

pub some_there : (n : ℕ) (links : List Proposal) (view : ℕ) (p : Proposal) → link_at links view ≡ Some p → walk_within (suc n) links view ≡ p ∷ walk_within n links p.parent
unfolding walk_within
some_there n links view p e = ap (with_walk (walk_within n links)) e

pub lower : (links : List Proposal) → GoDown links → (view : ℕ) (p : Proposal) → link_at links view ≡ Some p → p.parent < view
lower links down view p e = (let f = found links view p e in omega (arith, f.1, down p f.0))

pub enough : (links : List Proposal) → GoDown links → (n m view : ℕ) → view ≤ n → view ≤ m → walk_within n links view ≡ walk_within m links view
enough links down zero m view le lf = none_there zero links view at_zero ∙ sym (none_there m links view at_zero)
  where
    at_zero : link_at links view ≡ None
    at_zero = (let z : 0 ≡ view = omega (arith, le) in subst (λ (v : ℕ). link_at links v ≡ None) z (none_at_zero links down (link_at links 0) refl))
enough links down (suc n) zero view le lf = none_there (suc n) links view at_zero ∙ sym (none_there zero links view at_zero)
  where
    at_zero : link_at links view ≡ None
    at_zero = (let z : 0 ≡ view = omega (arith, lf) in subst (λ (v : ℕ). link_at links v ≡ None) z (none_at_zero links down (link_at links 0) refl))
enough links down (suc n) (suc m) view le lf = at (link_at links view) refl (λ p low. enough links down n m p.parent (omega (arith, low, le)) (omega (arith, low, lf)))
  where
    at : (o : Option Proposal) → link_at links view ≡ o → ((p : Proposal) → p.parent < view → walk_within n links p.parent ≡ walk_within m links p.parent) → walk_within (suc n) links view ≡ walk_within (suc m) links view
    at None e rest = none_there (suc n) links view e ∙ sym (none_there (suc m) links view e)
    at (Some p) e rest = some_there n links view p e ∙ ap (λ (ys : List Proposal). p ∷ ys) (rest p (lower links down view p e)) ∙ sym (some_there m links view p e)

-- ---- a walk by its first link

pub end_none : (links : List Proposal) (view : ℕ) → link_at links view ≡ None → end_in links view ≡ view
end_none links view e = ap (end_of view) (none_there view links view e)

pub end_some : (links : List Proposal) → GoDown links → (view : ℕ) (p : Proposal) → link_at links view ≡ Some p → end_in links view ≡ end_in links p.parent
end_some links down view p e =
    let low = lower links down view p e in
    ap (end_of view) (enough links down view (suc view) view (omega arith) (omega arith) ∙ some_there view links view p e)
    ∙ ap (end_of p.parent) (enough links down view p.parent p.parent (omega (arith, low)) (omega arith))

pub walk_none : (links : List Proposal) (view : ℕ) → link_at links view ≡ None → walk links view ≡ []
walk_none links view e = none_there view links view e

pub walk_some : (links : List Proposal) → GoDown links → (view : ℕ) (p : Proposal) → link_at links view ≡ Some p → walk links view ≡ p ∷ walk links p.parent
walk_some links down view p e =
    let low = lower links down view p e in
    enough links down view (suc view) view (omega arith) (omega arith) ∙ some_there view links view p e
    ∙ ap (λ (ys : List Proposal). p ∷ ys) (enough links down view p.parent p.parent (omega (arith, low)) (omega arith))

-- what holds of a view where it holds of the parent of its link holds of all
down_to : (links : List Proposal) → GoDown links → (P : ℕ → Type 0) → ((view : ℕ) → link_at links view ≡ None → P view) → ((view : ℕ) (p : Proposal) → link_at links view ≡ Some p → P p.parent → P view)
    → (n view : ℕ) → view ≤ n → P view
down_to links down P none some zero view le = at (link_at links view) refl
  where
    at : (o : Option Proposal) → link_at links view ≡ o → P view
    at None e = none view e
    at (Some p) e = absurd (omega (arith, le, lower links down view p e))
down_to links down P none some (suc n) view le = at (link_at links view) refl (λ p low. down_to links down P none some n p.parent (omega (arith, low, le)))
  where
    at : (o : Option Proposal) → link_at links view ≡ o → ((p : Proposal) → p.parent < view → P p.parent) → P view
    at None e rest = none view e
    at (Some p) e rest = some view p e (rest p (lower links down view p e))

pub end_low : (links : List Proposal) → GoDown links → (view : ℕ) → end_in links view ≤ view
end_low links down view =
    down_to links down (λ v. end_in links v ≤ v) (λ v e. omega (arith, end_none links v e)) (λ v p e le. omega (arith, le, end_some links down v p e, lower links down v p e)) view view (omega arith)

-- the walk of where a walk ends ends there
pub end_ends : (links : List Proposal) → GoDown links → (view : ℕ) → end_in links (end_in links view) ≡ end_in links view
end_ends links down view =
    down_to links down (λ v. end_in links (end_in links v) ≡ end_in links v) (λ v e. ap (end_in links) (end_none links v e))
    (λ v p e rest. ap (end_in links) (end_some links down v p e) ∙ rest ∙ sym (end_some links down v p e)) view view (omega arith)

-- ---- one more link

pub find_more : (links : List Proposal) (p : Proposal) (view : ℕ) → link_at (links ++ p ∷ []) view ≡ option_or (link_at links view) (if p.round.view == view then Some p else None)
find_more [] p view = refl
find_more (q ∷ links) p view = at (q.round.view == view) (find_more links p view)
  where
    at : (b : Bool) → link_at (links ++ p ∷ []) view ≡ option_or (link_at links view) (if p.round.view == view then Some p else None)
        → (if b then Some q else link_at (links ++ p ∷ []) view) ≡ option_or (if b then Some q else link_at links view) (if p.round.view == view then Some p else None)
    at true e = refl
    at false e = e

module _ (links : List Proposal) (p : Proposal) (down : GoDown (links ++ p ∷ [])) (first : GoDown links) (low : p.parent < p.round.view) (new : link_at links p.round.view ≡ None) where
  abbrev Moves : ℕ → Type 0
  Moves view = end_in (links ++ p ∷ []) view ≡ (if end_in links view == p.round.view then end_in (links ++ p ∷ []) p.parent else end_in links view)

  no_link : (view : ℕ) → link_at links view ≡ None → Moves view
  no_link view e = at (p.round.view == view) refl
    where
      apart : (a b : ℕ) → (a == b) ≡ false → a ≡ b → ⊥
      apart a b f s = (let t : true ≡ false = sym (eq-eqb a b s) ∙ f in cc)

      at : (b : Bool) → (p.round.view == view) ≡ b → Moves view
      at true f =
          let same : p.round.view ≡ view = eqb-true p.round.view view f in
          let is : link_at (links ++ p ∷ []) view ≡ Some p = find_more links p view ∙ ap (λ o. option_or o (if p.round.view == view then Some p else None)) e ∙ ap (λ (c : Bool). if c then Some p else None) f in
          let here : (end_in links view == p.round.view) ≡ true = eq-eqb (end_in links view) p.round.view (end_none links view e ∙ sym same) in
          end_some (links ++ p ∷ []) down view p is ∙ ap (λ (c : Bool). if c then end_in (links ++ p ∷ []) p.parent else end_in links view) (sym here)
      at false f =
          let is : link_at (links ++ p ∷ []) view ≡ None = find_more links p view ∙ ap (λ o. option_or o (if p.round.view == view then Some p else None)) e ∙ ap (λ (c : Bool). if c then Some p else None) f in
          let there : (end_in links view == p.round.view) ≡ false = by (end_in links view == p.round.view) refl in
          end_none (links ++ p ∷ []) view is ∙ sym (end_none links view e) ∙ ap (λ (c : Bool). if c then end_in (links ++ p ∷ []) p.parent else end_in links view) (sym there)
        where
          by : (c : Bool) → (end_in links view == p.round.view) ≡ c → c ≡ false
          by false g = refl
          by true g = absurd (apart p.round.view view f (sym (eqb-true (end_in links view) p.round.view g) ∙ end_none links view e))

  a_link : (view : ℕ) (q : Proposal) → link_at links view ≡ Some q → Moves q.parent → Moves view
  a_link view q e rest =
      let is : link_at (links ++ p ∷ []) view ≡ Some q = find_more links p view ∙ ap (λ o. option_or o (if p.round.view == view then Some p else None)) e in
      end_some (links ++ p ∷ []) down view q is ∙ rest ∙ ap (λ (n : ℕ). if n == p.round.view then end_in (links ++ p ∷ []) p.parent else n) (sym (end_some links first view q e))

  moves : (view : ℕ) → Moves view
  moves view = down_to links first Moves no_link a_link view view (omega arith)

  -- the parent's walk does not come to the view
  parent_stays : end_in (links ++ p ∷ []) p.parent ≡ end_in links p.parent
  parent_stays = at (end_in links p.parent == p.round.view) refl
    where
      at : (c : Bool) → (end_in links p.parent == p.round.view) ≡ c → end_in (links ++ p ∷ []) p.parent ≡ end_in links p.parent
      at true g = absurd (omega (arith, eqb-true (end_in links p.parent) p.round.view g, end_low links first p.parent, low))
      at false g = moves p.parent ∙ ap (λ (c : Bool). if c then end_in (links ++ p ∷ []) p.parent else end_in links p.parent) g

  ends_move : (view : ℕ) → end_in (links ++ p ∷ []) view ≡ end_behind links p view
  ends_move view = moves view ∙ ap (λ (n : ℕ). if end_in links view == p.round.view then n else end_in links view) parent_stays

pub link_moves_ends : (links : List Proposal) (p : Proposal) (view : ℕ) → IsNewLink links p → end_in (links ++ p ∷ []) view ≡ end_behind links p view
link_moves_ends links p view n = ends_move links p down n.down n.low n.first view
  where
    down : GoDown (links ++ p ∷ [])
    down q k = elim (Contains-push_cases links p q k) [
      | inl old ↦ n.down q old
      | inr same ↦ subst (λ (x : Proposal). x.parent < x.round.view) same n.low
    ]
