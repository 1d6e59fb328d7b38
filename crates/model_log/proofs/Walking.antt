-- Whole walks, and where two of them meet.
use Rattle.std.proofs.Common.{◌≡◌, ℕ, zero, suc, ◌<◌, ◌≤◌, true, List, [], ◌∷◌, ◌++◌, Contains, Option, Some, None, refl, sym, ap, ap₂, subst, ◌∙◌, inl, inr, arith, eqb-true}
use Rattle.std.proofs.lemmas.Bool.{cases_eq}
use Rattle.simplex_values.specs.declared.proposal.Proposal.{Proposal}
use Rattle.model_log.specs.Walks.{link_at, with_walk, walk_within, walk, end_of, is_whole}
use Rattle.model_log.proofs.Holding.{found}

-- a whole walk: each link is of the view, and the rest is a whole walk of its parent
abbrev pub Descends : List Proposal → ℕ → List Proposal → Type 0
Descends links view [] = view ≡ 0
Descends links view (p ∷ below) = (p.round.view ≡ view) × Contains links p × Descends links p.parent below

abbrev pub GoDown : List Proposal → Type 0
GoDown links = (p : Proposal) → Contains links p → p.parent < p.round.view

walk_step : (links : List Proposal) (n view : ℕ) (o : Option Proposal) → link_at links view ≡ o
    → ((v : ℕ) → end_of v (walk_within n links v) ≡ 0 → Descends links v (walk_within n links v))
    → end_of view (with_walk (walk_within n links) o) ≡ 0 → Descends links view (with_walk (walk_within n links) o)
walk_step links n view None h rest e = e
walk_step links n view (Some p) h rest e = let f = found links view p h in (f.1, f.0, rest p.parent e)

pub walk_descends : (links : List Proposal) (n view : ℕ) → end_of view (walk_within n links view) ≡ 0 → Descends links view (walk_within n links view)
unfolding walk_within
walk_descends links zero view e = e
walk_descends links (suc n) view e = walk_step links n view (link_at links view) refl (walk_descends links n) e

pub whole_descends : (links : List Proposal) (view : ℕ) → is_whole links view ≡ true → Descends links view (walk links view)
whole_descends links view e = walk_descends links view view (eqb-true (end_of view (walk links view)) 0 e)

-- ---- two sets of links

-- links of one view are one
abbrev pub AreOne : List Proposal → List Proposal → Type 0
AreOne links others = (p q : Proposal) → Contains links p → Contains others q → p.round.view ≡ q.round.view → p ≡ q

-- none steps over the view
abbrev pub Keeps : List Proposal → ℕ → Type 0
Keeps links view = (p : Proposal) → Contains links p → view < p.round.view → view ≤ p.parent

pub same_walk : (links others : List Proposal) → GoDown links → GoDown others → AreOne links others
    → (v : ℕ) (w x : List Proposal) → Descends links v w → Descends others v x → w ≡ x
same_walk links others down down' one v [] [] d d' = refl
same_walk links others down down' one v [] (q ∷ x) d d' = absurd (omega (arith, d, d'.0, down' q d'.1))
same_walk links others down down' one v (p ∷ w) [] d d' = absurd (omega (arith, d', d.0, down p d.1))
same_walk links others down down' one v (p ∷ w) (q ∷ x) d d' =
    let e : p ≡ q = one p q d.1 d'.1 (d.0 ∙ sym d'.0) in
    let r : w ≡ x = same_walk links others down down' one p.parent w x d.2 (subst (λ (y : Proposal). Descends others y.parent x) (sym e) d'.2) in
    ap₂ (λ (y : Proposal) (ys : List Proposal). y ∷ ys) e r

-- a walk from above a view that no link steps over ends as that view's walk
pub meets : (links others : List Proposal) → GoDown links → GoDown others → AreOne links others
    → (a : ℕ) (w : List Proposal) → Descends links a w → Keeps others a
    → (b : ℕ) (x : List Proposal) → a ≤ b → Descends others b x → (u : List Proposal) × (x ≡ u ++ w)
meets links others down down' one a w d keeps b [] le d' =
    ([], sym (same_walk links others down down' one a w [] d (omega (arith, le, d'))))
meets links others down down' one a w d keeps b (q ∷ x) le d' =
    elim (cases_eq a b) [
      | inl e ↦ ([], sym (same_walk links others down down' one b w (q ∷ x) (subst (λ (v : ℕ). Descends links v w) e d) d'))
      | inr ne ↦
          let low : a ≤ q.parent = keeps q d'.1 (omega (arith, le, ne, d'.0)) in
          let r = meets links others down down' one a w d keeps q.parent x low d'.2 in
          (q ∷ r.0, ap (λ (ys : List Proposal). q ∷ ys) r.1)
    ]
