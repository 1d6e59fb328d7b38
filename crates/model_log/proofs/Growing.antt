-- What one more link, one more final view, and a link that is held already change.
use Rattle.std.proofs.Common.{◌≡◌, ◌≢◌, ℕ, zero, suc, ◌<◌, max, ◌==◌, Bool, true, false, cond, List, [], ◌∷◌, ◌++◌, filter, Option, Some, None, refl, sym, ap, subst, ◌∙◌, arith, eqb-true, if◌then◌else◌, append-nil}
use Rattle.std.specs.Option.{option_or}
use Rattle.std.proofs.lemmas.Bool.Decides.{nat_tests}
use Rattle.std.proofs.lemmas.List.Elements.{filter-append}
use Rattle.simplex_values.specs.declared.proposal.Proposal.{Proposal}
use Rattle.model_rules.specs.Lists.{greatest_of}
use Rattle.model_log.specs.Log.{greatest}
use Rattle.model_log.specs.Walks.{link_at, with_walk, walk_within, end_of}
use Rattle.model_log.specs.Ends.{end_in, top_at, IsNewLink}
use Rattle.model_log.proofs.Ending.{end_low, find_more, link_moves_ends}

-- ---- the greatest

pub greatest_more : (xs : List ℕ) (x : ℕ) → greatest (xs ++ x ∷ []) ≡ max (greatest xs) x
unfolding greatest_of
greatest_more [] x = omega arith
greatest_more (y ∷ ys) x = omega (arith, greatest_more ys x)

greatest_kept : (test : ℕ → Bool) (x : ℕ) (xs : List ℕ) → greatest (filter test (x ∷ xs)) ≡ max (if test x then x else 0) (greatest (filter test xs))
unfolding greatest_of
greatest_kept test x xs = at (test x)
  where
    at : (b : Bool) → greatest (cond b (x ∷ filter test xs) (filter test xs)) ≡ max (if b then x else 0) (greatest (filter test xs))
    at true = refl
    at false = omega arith

-- ---- one more final view

pub top_final : (links : List Proposal) (finals : List ℕ) (final view : ℕ)
    → top_at links (finals ++ final ∷ []) view ≡ max (top_at links finals view) (if end_in links final == view then final else 0)
top_final links finals final view =
    ap greatest (filter-append test finals (final ∷ [])) ∙ at (test final)
  where
    test : ℕ → Bool
    test f = end_in links f == view

    at : (b : Bool) → greatest (filter test finals ++ cond b (final ∷ []) []) ≡ max (greatest (filter test finals)) (if b then final else 0)
    at true = greatest_more (filter test finals) final
    at false = ap greatest (append-nil (filter test finals)) ∙ omega arith

-- ---- one more link

top_step : (from v e r f t s : ℕ) → e ≢ v
    → max (if (if from == v then r else from) == e then f else 0) (max t (if r == e then s else 0))
    ≡ max (max (if from == e then f else 0) t) (if r == e then max (if from == v then f else 0) s else 0)
top_step from v e r f t s ne = grind (arith, nat_tests)

-- the greatest of a list that a test takes from a front
top_more : (links : List Proposal) (f : ℕ) (finals : List ℕ) (view : ℕ)
    → top_at links (f ∷ finals) view ≡ max (if end_in links f == view then f else 0) (top_at links finals view)
top_more links f finals view = greatest_kept (λ (x : ℕ). end_in links x == view) f finals

apart : (from v r : ℕ) → r < v → ((if from == v then r else from) == v) ≡ false
apart from v r low = grind (arith, nat_tests)

module _ (links : List Proposal) (p : Proposal) (new : IsNewLink links p) where
  abbrev moved : ℕ → ℕ
  moved f = if end_in links f == p.round.view then end_in links p.parent else end_in links f

  -- those that ended at its view end where its parent's walk ends
  pub top_moves : (finals : List ℕ) (view : ℕ) → view ≢ p.round.view
      → top_at (links ++ p ∷ []) finals view ≡ max (top_at links finals view) (if end_in links p.parent == view then top_at links finals p.round.view else 0)
  unfolding greatest_of
  top_moves [] view ne = at (end_in links p.parent == view)
    where
      at : (b : Bool) → 0 ≡ max 0 (if b then 0 else 0)
      at true = refl
      at false = refl
  top_moves (f ∷ finals) view ne =
      let old = top_more links f finals view in
      let here = top_more links f finals p.round.view in
      let more = top_more (links ++ p ∷ []) f finals view in
      let ends = link_moves_ends links p f new in
      let rest = top_moves finals view ne in
      more
      ∙ ap (λ (n : ℕ). max (if n == view then f else 0) (top_at (links ++ p ∷ []) finals view)) ends
      ∙ ap (λ (n : ℕ). max (if moved f == view then f else 0) n) rest
      ∙ top_step (end_in links f) p.round.view view (end_in links p.parent) f (top_at links finals view) (top_at links finals p.round.view) ne
      ∙ ap (λ (n : ℕ). max n (if end_in links p.parent == view then max (if end_in links f == p.round.view then f else 0) (top_at links finals p.round.view) else 0)) (sym old)
      ∙ ap (λ (n : ℕ). max (top_at links (f ∷ finals) view) (if end_in links p.parent == view then n else 0)) (sym here)

  leaves : (f : ℕ) → (end_in (links ++ p ∷ []) f == p.round.view) ≡ false
  leaves f =
      let low : end_in links p.parent < p.round.view = omega (arith, end_low links new.down p.parent, new.low) in
      ap (λ (n : ℕ). n == p.round.view) (link_moves_ends links p f new) ∙ apart (end_in links f) p.round.view (end_in links p.parent) low

  -- none ends there any more
  pub top_gone : (finals : List ℕ) → top_at (links ++ p ∷ []) finals p.round.view ≡ 0
  unfolding greatest_of
  top_gone [] = refl
  top_gone (f ∷ finals) =
      top_more (links ++ p ∷ []) f finals p.round.view
      ∙ ap (λ (b : Bool). max (if b then f else 0) (top_at (links ++ p ∷ []) finals p.round.view)) (leaves f)
      ∙ ap (λ (n : ℕ). max 0 n) (top_gone finals)

-- ---- links that read the same

module _ (links others : List Proposal) (same : (view : ℕ) → link_at links view ≡ link_at others view) where
  pub same_walks : (n view : ℕ) → walk_within n links view ≡ walk_within n others view
  unfolding walk_within
  same_walks zero view = refl
  same_walks (suc n) view = ap (with_walk (walk_within n links)) (same view) ∙ at (link_at others view) (same_walks n)
    where
      at : (o : Option Proposal) → ((v : ℕ) → walk_within n links v ≡ walk_within n others v) → with_walk (walk_within n links) o ≡ with_walk (walk_within n others) o
      at None rest = refl
      at (Some p) rest = ap (λ (ys : List Proposal). p ∷ ys) (rest p.parent)

  pub same_ends : (view : ℕ) → end_in links view ≡ end_in others view
  same_ends view = ap (end_of view) (same_walks view view)

  pub same_tops : (finals : List ℕ) (view : ℕ) → top_at links finals view ≡ top_at others finals view
  unfolding greatest_of
  same_tops [] view = refl
  same_tops (f ∷ finals) view =
      top_more links f finals view
      ∙ ap (λ (n : ℕ). max (if n == view then f else 0) (top_at links finals view)) (same_ends f)
      ∙ ap (λ (n : ℕ). max (if end_in others f == view then f else 0) n) (same_tops finals view)
      ∙ sym (top_more others f finals view)

pub none_left : (o : Option Proposal) → option_or o None ≡ o
none_left None = refl
none_left (Some q) = refl

-- a link that is held already
pub held_again : (links : List Proposal) (p : Proposal) → link_at links p.round.view ≡ Some p → (view : ℕ) → link_at (links ++ p ∷ []) view ≡ link_at links view
held_again links p held view = find_more links p view ∙ at (p.round.view == view) refl
  where
    at : (b : Bool) → (p.round.view == view) ≡ b → option_or (link_at links view) (if b then Some p else None) ≡ link_at links view
    at true e =
        let here : link_at links view ≡ Some p = subst (λ (v : ℕ). link_at links v ≡ Some p) (eqb-true p.round.view view e) held in
        ap (λ (o : Option Proposal). option_or o (Some p)) here ∙ sym here
    at false e = none_left (link_at links view)
