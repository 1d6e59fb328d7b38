-- Logs of one chain, and that its links do not clash.
use Rattle.std.proofs.Common.{◌≡◌, ℕ, ◌≤◌, ◌⊎◌, ◌&&◌, ◌==◌, Bool, true, false, List, [], ◌∷◌, ◌++◌, map, reverse, filter, Contains, Option, Some, None, refl, sym, ap, subst, ◌∙◌, inl, inr, arith, eq-eqb}
use Rattle.std.specs.Prelude.{if◌then◌else◌}
use Rattle.std.specs.Option.{option_and_then}
use Rattle.std.specs.Str.{bytes_eq}
use Rattle.std.proofs.lemmas.Bool.{cases_lt}
use Rattle.std.proofs.lemmas.Slice.Eq.{bytes_eq-Decides}
use Rattle.std.proofs.lemmas.List.{map-append, reverse-append}
use Rattle.simplex_values.specs.declared.proposal.Proposal.{Proposal}
use Rattle.simplex_values.specs.Proposal.{is_same_round, is_same_proposal}
use Rattle.simplex_types.specs.declared.activity.Activity.{Activity}
use Rattle.model_log.specs.Links.{proposal_in, proposals_of, links_of, finals_of}
use Rattle.model_log.specs.Walks.{link_at, walk_within, walk, is_whole}
use Rattle.model_log.specs.Log.{entry_for, tip, tip_of, log_of}
use Rattle.model_log.specs.Observing.{with_next, differing, clash_with, clash_of}
use Rattle.model_log.specs.Fronts.{IsFrontOf, AreFronts, AreConsistent}
use Rattle.model_log.proofs.Holding.{filtered, links_are, found, greatest_is, proposals_left, proposals_right, finals_left, finals_right}
use Rattle.model_log.proofs.Walking.{whole_descends, Keeps, meets}

-- ---- the tip

at_zero : (links : List Proposal) → is_whole links 0 ≡ true
unfolding walk_within
at_zero links = refl

-- the walk of the tip is whole, and the tip is 0 or final
pub tip_is : (links : List Proposal) (finals : List ℕ) → (is_whole links (tip links finals) ≡ true) × ((tip links finals ≡ 0) ⊎ Contains finals (tip links finals))
tip_is links finals =
    elim (greatest_is (filter (is_whole links) finals)) [
      | inl z ↦ (subst (λ (v : ℕ). is_whole links v ≡ true) (sym z) (at_zero links), inl z)
      | inr c ↦ let r = filtered (is_whole links) finals (tip links finals) c in (r.1, inr r.0)
    ]

-- ---- one log begins the other

front : (w x u : List Proposal) → x ≡ u ++ w → IsFrontOf (map entry_for (reverse w)) (map entry_for (reverse x))
front w x u e =
    (map entry_for (reverse u), ap (λ (ys : List Proposal). map entry_for (reverse ys)) e ∙ ap (map entry_for) (reverse-append u w) ∙ map-append entry_for (reverse w) (reverse u))

module _ (verifies : Activity → Bool) (all : List Activity) (chain : AreConsistent verifies all) where
  -- both lists are parts of what is of one chain
  abbrev IsPart : List Activity → Type 0
  IsPart a = ((p : Proposal) → Contains (proposals_of verifies a) p → Contains (proposals_of verifies all) p)
      × ((v : ℕ) → Contains (finals_of verifies a) v → Contains (finals_of verifies all) v)

  keeps_tip : (a b : List Activity) → IsPart a → IsPart b → Keeps (links_of verifies b) (tip_of verifies a)
  keeps_tip a b in_a in_b p c lt =
      elim (tip_is (links_of verifies a) (finals_of verifies a)).1 [
        | inl z ↦ omega (arith, z)
        | inr f ↦ chain.kept (tip_of verifies a) p (in_a.1 (tip_of verifies a) f) (in_b.0 p (links_are verifies b p c).0) lt
      ]

  lower_first : (a b : List Activity) → IsPart a → IsPart b → tip_of verifies a ≤ tip_of verifies b → IsFrontOf (log_of verifies a) (log_of verifies b)
  unfolding log_of
  lower_first a b in_a in_b le =
      let links = links_of verifies a in
      let others = links_of verifies b in
      let met = meets links others
      (λ p c. (links_are verifies a p c).1)
      (λ p c. (links_are verifies b p c).1)
      (λ p q c d e. chain.one p q (in_a.0 p (links_are verifies a p c).0) (in_b.0 q (links_are verifies b q d).0) e)
      (tip_of verifies a) (walk links (tip_of verifies a)) (whole_descends links (tip_of verifies a) (tip_is links (finals_of verifies a)).0)
      (keeps_tip a b in_a in_b)
      (tip_of verifies b) (walk others (tip_of verifies b)) le (whole_descends others (tip_of verifies b) (tip_is others (finals_of verifies b)).0) in
      front (walk links (tip_of verifies a)) (walk others (tip_of verifies b)) met.0 met.1

  pub parts_are_fronts : (a b : List Activity) → IsPart a → IsPart b → AreFronts (log_of verifies a) (log_of verifies b)
  parts_are_fronts a b in_a in_b =
      elim (cases_lt (tip_of verifies b) (tip_of verifies a)) [
        | inl lt ↦ inr (lower_first b a in_b in_a (omega (arith, lt)))
        | inr le ↦ inl (lower_first a b in_a in_b le)
      ]

pub logs_are_fronts : (verifies : Activity → Bool) (a b : List Activity) → AreConsistent verifies (a ++ b) → AreFronts (log_of verifies a) (log_of verifies b)
logs_are_fronts verifies a b chain =
    parts_are_fronts verifies (a ++ b) chain a b (proposals_left verifies a b, finals_left verifies a b) (proposals_right verifies a b, finals_right verifies a b)

-- ---- no clash

and_true : (a b : Bool) → a ≡ true → b ≡ true → (a && b) ≡ true
and_true true b e f = f
and_true false b e f = cc

same_itself : (p : Proposal) → is_same_proposal p p ≡ true
same_itself p =
    and_true (is_same_round p.round p.round && p.parent == p.parent) (bytes_eq p.payload p.payload)
    (and_true (is_same_round p.round p.round) (p.parent == p.parent)
    (and_true (p.round.epoch == p.round.epoch) (p.round.view == p.round.view) (eq-eqb p.round.epoch p.round.epoch refl) (eq-eqb p.round.view p.round.view refl))
    (eq-eqb p.parent p.parent refl)) ((bytes_eq-Decides p.payload p.payload).1 refl)

same_does_not_differ : (p q : Proposal) → p ≡ q → differing q p ≡ None
same_does_not_differ p q e =
    let same : is_same_proposal p q ≡ true = ap (λ (r : Proposal). is_same_proposal p r) (sym e) ∙ same_itself p in
    rw same refl

named_last : (verifies : Activity → Bool) (activity : Activity) (q : Proposal) → verifies activity ≡ true → proposal_in activity ≡ Some q
    → Contains (proposals_of verifies (activity ∷ [])) q
unfolding proposals_of
named_last verifies activity q e h = rw e (rw h (0, omega arith, refl))

module _ (verifies : Activity → Bool) (taken : List Activity) (activity : Activity) (chain : AreConsistent verifies (with_next taken activity)) where
  with_held : (q : Proposal) → verifies activity ≡ true → proposal_in activity ≡ Some q → (r : Option Proposal) → link_at (links_of verifies taken) q.round.view ≡ r
      → option_and_then (differing q) r ≡ None
  with_held q e h None k = refl
  with_held q e h (Some p) k =
      let f = found (links_of verifies taken) q.round.view p k in
      same_does_not_differ p q (chain.one p q
      (proposals_left verifies taken (activity ∷ []) p (links_are verifies taken p f.0).0)
      (proposals_right verifies taken (activity ∷ []) q (named_last verifies activity q e h)) f.1)

  with_named : verifies activity ≡ true → (o : Option Proposal) → proposal_in activity ≡ o → option_and_then (clash_with (links_of verifies taken)) o ≡ None
  with_named e None h = refl
  with_named e (Some q) h = with_held q e h (link_at (links_of verifies taken) q.round.view) refl

  with_test : (b : Bool) → verifies activity ≡ b → (if b then option_and_then (clash_with (links_of verifies taken)) (proposal_in activity) else None) ≡ None
  with_test false e = refl
  with_test true e = with_named e (proposal_in activity) refl

  pub no_clash : clash_of verifies taken activity ≡ None
  unfolding clash_of
  no_clash = with_test (verifies activity) refl
