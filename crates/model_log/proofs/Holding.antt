-- What lists of links and of final views hold.
use Rattle.std.proofs.Common.{◌≡◌, ℕ, zero, suc, ◌<◌, max, ◌⊎◌, Bool, true, false, cond, List, [], ◌∷◌, ◌++◌, length, get_or, filter, Contains, Some, refl, sym, ap, subst, ◌∙◌, inl, inr, arith, eqb-true, ltb-true}
use Rattle.std.specs.Prelude.{◌==◌, filter_map}
use Rattle.std.proofs.lemmas.Bool.{cases_lt}
use Rattle.std.proofs.lemmas.List.Elements.{filter-append, filter_map-append, Contains-append_left, Contains-append_right}
use Rattle.simplex_values.specs.declared.proposal.Proposal.{Proposal}
use Rattle.simplex_types.specs.declared.activity.Activity.{Activity}
use Rattle.model_rules.specs.Lists.{greatest_of}
use Rattle.model_log.specs.Links.{proposal_in, final_view, proposals_of, is_link, links_of, finals_of}
use Rattle.model_log.specs.Walks.{link_at}
use Rattle.model_log.specs.Log.{greatest}

module _ {X : Type 0} where
  pub not_in_empty : (x : X) → Contains [] x → ⊥
  not_in_empty x c = omega (arith, c.1)

  pub there : (y : X) (xs : List X) (x : X) → Contains xs x → Contains (y ∷ xs) x
  there y xs x c = (suc c.0, omega (arith, c.1), c.2)

  pub here_or_there : (y : X) (xs : List X) (x : X) → Contains (y ∷ xs) x → (y ≡ x) ⊎ Contains xs x
  here_or_there y xs x c = at c.0 c.1 c.2
    where
      at : (k : ℕ) → k < length (y ∷ xs) → get_or (y ∷ xs) k x ≡ x → (y ≡ x) ⊎ Contains xs x
      at zero lt e = inl e
      at (suc k) lt e = inr (k, omega (arith, lt), e)

  -- what is in a filter is in the list, and passes
  filtered_step : (test : X → Bool) (y : X) (xs : List X) (x : X) (b : Bool) → test y ≡ b
      → (Contains (filter test xs) x → Contains xs x × (test x ≡ true))
      → Contains (cond b (y ∷ filter test xs) (filter test xs)) x → Contains (y ∷ xs) x × (test x ≡ true)
  filtered_step test y xs x true h rest c = elim (here_or_there y (filter test xs) x c) [
    | inl e ↦ ((0, omega arith, e), subst (λ (z : X). test z ≡ true) e h)
    | inr r ↦ let k = rest r in (there y xs x k.0, k.1)
  ]
  filtered_step test y xs x false h rest c = let k = rest c in (there y xs x k.0, k.1)

  pub filtered : (test : X → Bool) (xs : List X) (x : X) → Contains (filter test xs) x → Contains xs x × (test x ≡ true)
  filtered test [] x c = absurd (not_in_empty x c)
  filtered test (y ∷ ys) x c = filtered_step test y ys x (test y) refl (filtered test ys x) c

-- ---- links

pub links_are : (verifies : Activity → Bool) (activities : List Activity) (p : Proposal) → Contains (links_of verifies activities) p
    → Contains (proposals_of verifies activities) p × (p.parent < p.round.view)
links_are verifies activities p c =
    let r = filtered is_link (proposals_of verifies activities) p c in
    (r.0, ltb-true p.parent p.round.view r.1)

found_step : (q : Proposal) (qs : List Proposal) (view : ℕ) (p : Proposal) (b : Bool) → (q.round.view == view) ≡ b
    → (link_at qs view ≡ Some p → Contains qs p × (p.round.view ≡ view))
    → cond b (Some q) (link_at qs view) ≡ Some p → Contains (q ∷ qs) p × (p.round.view ≡ view)
found_step q qs view p true h rest e =
    let same : q ≡ p = cc in
    ((0, omega arith, same), subst (λ (x : Proposal). x.round.view ≡ view) same (eqb-true q.round.view view h))
found_step q qs view p false h rest e = let r = rest e in (there q qs p r.0, r.1)

-- the link that is found is one of the links, of this view
pub found : (links : List Proposal) (view : ℕ) (p : Proposal) → link_at links view ≡ Some p → Contains links p × (p.round.view ≡ view)
found [] view p e = cc
found (q ∷ qs) view p e = found_step q qs view p (q.round.view == view) refl (found qs view p) e

-- with more links it is found likewise
pub found_first : (links more : List Proposal) (view : ℕ) (p : Proposal) → link_at links view ≡ Some p → link_at (links ++ more) view ≡ Some p
found_first [] more view p e = cc
found_first (q ∷ qs) more view p e = at (q.round.view == view) (found_first qs more view p) e
  where
    at : (b : Bool) → (link_at qs view ≡ Some p → link_at (qs ++ more) view ≡ Some p)
        → cond b (Some q) (link_at qs view) ≡ Some p → cond b (Some q) (link_at (qs ++ more) view) ≡ Some p
    at true rest e = e
    at false rest e = rest e

-- ---- two lists of activities

pub proposals_append : (verifies : Activity → Bool) (a b : List Activity) → proposals_of verifies (a ++ b) ≡ proposals_of verifies a ++ proposals_of verifies b
unfolding proposals_of
proposals_append verifies a b = ap (filter_map proposal_in) (filter-append verifies a b) ∙ filter_map-append proposal_in (filter verifies a) (filter verifies b)

pub finals_append : (verifies : Activity → Bool) (a b : List Activity) → finals_of verifies (a ++ b) ≡ finals_of verifies a ++ finals_of verifies b
unfolding finals_of
finals_append verifies a b = ap (filter_map final_view) (filter-append verifies a b) ∙ filter_map-append final_view (filter verifies a) (filter verifies b)

pub links_append : (verifies : Activity → Bool) (a b : List Activity) → links_of verifies (a ++ b) ≡ links_of verifies a ++ links_of verifies b
links_append verifies a b = ap (filter is_link) (proposals_append verifies a b) ∙ filter-append is_link (proposals_of verifies a) (proposals_of verifies b)

module _ (verifies : Activity → Bool) (a b : List Activity) where
  pub proposals_left : (p : Proposal) → Contains (proposals_of verifies a) p → Contains (proposals_of verifies (a ++ b)) p
  proposals_left p c = subst (λ (ps : List Proposal). Contains ps p) (sym (proposals_append verifies a b)) (Contains-append_left (proposals_of verifies a) (proposals_of verifies b) p c)

  pub proposals_right : (p : Proposal) → Contains (proposals_of verifies b) p → Contains (proposals_of verifies (a ++ b)) p
  proposals_right p c = subst (λ (ps : List Proposal). Contains ps p) (sym (proposals_append verifies a b)) (Contains-append_right (proposals_of verifies a) (proposals_of verifies b) p c)

  pub finals_left : (v : ℕ) → Contains (finals_of verifies a) v → Contains (finals_of verifies (a ++ b)) v
  finals_left v c = subst (λ (vs : List ℕ). Contains vs v) (sym (finals_append verifies a b)) (Contains-append_left (finals_of verifies a) (finals_of verifies b) v c)

  pub finals_right : (v : ℕ) → Contains (finals_of verifies b) v → Contains (finals_of verifies (a ++ b)) v
  finals_right v c = subst (λ (vs : List ℕ). Contains vs v) (sym (finals_append verifies a b)) (Contains-append_right (finals_of verifies a) (finals_of verifies b) v c)

-- ---- the greatest

-- it is 0, or one of them
pub greatest_is : (views : List ℕ) → (greatest views ≡ 0) ⊎ Contains views (greatest views)
unfolding greatest_of
greatest_is [] = inl refl
greatest_is (v ∷ rest) =
    elim (cases_lt v (greatest rest)) [
      | inl lt ↦ let e : max v (greatest rest) ≡ greatest rest = omega (arith, lt) in
          elim (greatest_is rest) [
            | inl z ↦ inl (e ∙ z)
            | inr c ↦ inr (subst (λ (x : ℕ). Contains (v ∷ rest) x) (sym e) (there v rest (greatest rest) c))
          ]
      | inr ge ↦ let e : max v (greatest rest) ≡ v = omega (arith, ge) in inr (subst (λ (x : ℕ). Contains (v ∷ rest) x) (sym e) (0, omega arith, refl))
    ]
