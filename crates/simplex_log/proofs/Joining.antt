-- What stands as the first link of a view comes.
use Rattle.std.proofs.Common.{◌≡◌, ◌≢◌, ℕ, ◌<◌, max, ◌==◌, ◌⊎◌, Bool, true, false, List, [], ◌∷◌, ◌++◌, map, reverse, refl, sym, ap, subst, ◌∙◌, inl, inr, arith, eqb-true, eq-eqb, filter, if◌then◌else◌}
use Rattle.simplex_values.specs.declared.proposal.Proposal.{Proposal}
use Rattle.model_log.specs.Ends.{GoDown, IsNewLink, end_in, top_at}
use Rattle.model_log.specs.Log.{entry_for}
use Rattle.model_log.specs.Walks.{walk_within}
use Rattle.model_log.proofs.Chaining.{tip_is}
use Rattle.model_log.proofs.Ending.{link_moves_ends}
use Rattle.model_log.proofs.Growing.{top_moves, top_gone}
use Rattle.model_log.proofs.Holding.{greatest_is, filtered}
use Rattle.model_log.proofs.Moving.{walk_stays}
use Rattle.simplex_log.specs.declared.finals.Finals.{Finals}
use Rattle.simplex_log.specs.declared.kept.Kept.{Kept}
use Rattle.simplex_log.specs.Kept.{top_in, log_to}
use Rattle.simplex_log.specs.Stands.{FinalsOf, Raised, IsJoining}

pub differs : (a b : ℕ) → (a == b) ≡ false → b ≢ a
differs a b e s = (let t : true ≡ false = sym (eq-eqb a b (sym s)) ∙ e in cc)

-- the walk of the greatest that ends at a view ends there
top_ends : (links : List Proposal) (finals : List ℕ) (view : ℕ) → (top_at links finals view ≡ 0) ⊎ (end_in links (top_at links finals view) ≡ view)
top_ends links finals view =
    elim (greatest_is (filter test finals)) [
      | inl z ↦ inl z
      | inr k ↦ inr (eqb-true (end_in links (top_at links finals view)) view (filtered test finals (top_at links finals view) k).1)
    ]
  where
    test : ℕ → Bool
    test f = end_in links f == view

pub whole_tip : (links : List Proposal) (finals : List ℕ) → end_in links (top_at links finals 0) ≡ 0
whole_tip links finals = eqb-true (end_in links (top_at links finals 0)) 0 (tip_is links finals).0

end_zero : (links : List Proposal) → end_in links 0 ≡ 0
unfolding walk_within
end_zero links = refl

-- a whole log stays as a link comes
pub log_stays : (links : List Proposal) (p : Proposal) (tip : ℕ) → GoDown (links ++ p ∷ []) → end_in links tip ≡ 0 → log_to (links ++ p ∷ []) tip ≡ log_to links tip
unfolding log_to
log_stays links p tip down whole = ap (λ (w : List Proposal). map entry_for (reverse w)) (walk_stays links (p ∷ []) down tip tip whole)

module _ (old : Kept) (links : List Proposal) (finals : List ℕ) (p : Proposal) (top last : ℕ) (low : p.parent < p.round.view) (joins : IsJoining old links finals p top last) where
  abbrev more : List Proposal
  more = links ++ p ∷ []

  pub new_link : IsNewLink links p
  new_link = record { down = (joins.links_are).falls; low = low; first = joins.first_is }

  -- where its parent's walk comes to genesis, so does that of the final view
  pub top_whole : (foot : ℕ) → foot ≡ end_in links p.parent → foot ≡ 0 → end_in more top ≡ 0
  top_whole foot ends zero = at (top_ends links finals p.round.view)
    where
      at : (top_at links finals p.round.view ≡ 0) ⊎ (end_in links (top_at links finals p.round.view) ≡ p.round.view) → end_in more top ≡ 0
      at (inl z) = ap (end_in more) (joins.top_is ∙ z) ∙ end_zero more
      at (inr e) =
          link_moves_ends links p top new_link
          ∙ ap (λ (c : Bool). if c then end_in links p.parent else end_in links top) (eq-eqb (end_in links top) p.round.view (ap (end_in links) joins.top_is ∙ e))
          ∙ sym ends ∙ zero

  module _ (down : GoDown more) (raised left : Finals) (foot : ℕ) (ends : foot ≡ end_in links p.parent) (rises : Raised more old.finals raised foot top)
      (tops_left : (q : ℕ) → top_in left.tops q ≡ (if p.round.view == q then 0 else top_in raised.tops q)) (tip_left : left.tip ≡ raised.tip) (entries_left : left.entries.items ≡ raised.entries.items) where
    moved_top : (view : ℕ) → 0 < view → (b : Bool) → (p.round.view == view) ≡ b → top_in left.tops view ≡ top_at more finals view
    moved_top view positive true e =
        tops_left view ∙ ap (λ (c : Bool). if c then 0 else top_in raised.tops view) e
        ∙ sym (subst (λ (v : ℕ). top_at more finals v ≡ 0) (eqb-true p.round.view view e) (top_gone links p new_link finals))
    moved_top view positive false e =
        let ne : view ≢ p.round.view = differs p.round.view view e in
        tops_left view ∙ ap (λ (c : Bool). if c then 0 else top_in raised.tops view) e
        ∙ rises.tops_rise view positive
        ∙ ap (λ (n : ℕ). max n (if foot == view then top else 0)) (joins.tops_are view positive ne)
        ∙ ap (λ (n : ℕ). max (top_at links finals view) (if n == view then top else 0)) ends
        ∙ ap (λ (n : ℕ). max (top_at links finals view) (if end_in links p.parent == view then n else 0)) joins.top_is
        ∙ sym (top_moves links p new_link finals view ne)

    moved_tip : left.tip ≡ top_at more finals 0
    moved_tip =
        let ne : 0 ≢ p.round.view = omega (arith, low) in
        tip_left ∙ rises.tip_rises
        ∙ ap (λ (n : ℕ). max n (if foot == 0 then top else 0)) joins.tip_is
        ∙ ap (λ (n : ℕ). max (top_at links finals 0) (if n == 0 then top else 0)) ends
        ∙ ap (λ (n : ℕ). max (top_at links finals 0) (if end_in links p.parent == 0 then n else 0)) joins.top_is
        ∙ sym (top_moves links p new_link finals 0 ne)

    pub joined_finals : FinalsOf left more finals
    joined_finals =
        let whole : end_in links old.finals.tip ≡ 0 = ap (end_in links) joins.tip_is ∙ whole_tip links finals in
        record {
          tops_are = λ view positive. moved_top view positive (p.round.view == view) refl;
          tip_is = moved_tip;
          entries_are = entries_left ∙ rises.entries_rise (joins.entries_are ∙ sym (log_stays links p old.finals.tip down whole)) ∙ ap (log_to more) (sym tip_left);
        }
