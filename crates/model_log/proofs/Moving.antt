-- The log changes where its tip does.
use Rattle.std.proofs.Common.{◌≡◌, ℕ, zero, suc, ◌↔◌, Bool, List, [], ◌∷◌, ◌++◌, map, reverse, Option, Some, None, refl, sym, ap, ap₂, subst, ◌∙◌, arith, eqb-true}
use Rattle.std.proofs.lemmas.List.{map-append, reverse-append}
use Rattle.simplex_values.specs.declared.proposal.Proposal.{Proposal}
use Rattle.simplex_types.specs.declared.activity.Activity.{Activity}
use Rattle.model_log.specs.declared.entry.LogEntry.{LogEntry}
use Rattle.model_log.specs.Links.{links_of, finals_of}
use Rattle.model_log.specs.Walks.{link_at, with_walk, walk_within, walk, end_of}
use Rattle.model_log.specs.Log.{entry_for, tip_of, log_of}
use Rattle.model_log.proofs.Holding.{links_are, links_append, found, found_first}
use Rattle.model_log.proofs.Walking.{Descends, whole_descends, GoDown}
use Rattle.model_log.proofs.Chaining.{tip_is}

-- ---- a whole walk stays as links come

none_at_zero : (links : List Proposal) → GoDown links → (o : Option Proposal) → link_at links 0 ≡ o → o ≡ None
none_at_zero links down None e = refl
none_at_zero links down (Some p) e = let f = found links 0 p e in absurd (omega (arith, f.1, down p f.0))

stays_step : (links more : List Proposal) → GoDown (links ++ more) → (n view : ℕ) (o : Option Proposal) → link_at links view ≡ o
    → ((v : ℕ) → end_of v (walk_within n links v) ≡ 0 → walk_within n (links ++ more) v ≡ walk_within n links v)
    → end_of view (with_walk (walk_within n links) o) ≡ 0
    → with_walk (walk_within n (links ++ more)) (link_at (links ++ more) view) ≡ with_walk (walk_within n links) o
stays_step links more down n view None h rest e =
    let nothing : link_at (links ++ more) view ≡ None =
    subst (λ (v : ℕ). link_at (links ++ more) v ≡ None) (sym e) (none_at_zero (links ++ more) down (link_at (links ++ more) 0) refl) in
    ap (with_walk (walk_within n (links ++ more))) nothing
stays_step links more down n view (Some p) h rest e =
    ap (with_walk (walk_within n (links ++ more))) (found_first links more view p h) ∙ ap (λ (ys : List Proposal). p ∷ ys) (rest p.parent e)

pub walk_stays : (links more : List Proposal) → GoDown (links ++ more) → (n view : ℕ) → end_of view (walk_within n links view) ≡ 0
    → walk_within n (links ++ more) view ≡ walk_within n links view
unfolding walk_within
walk_stays links more down zero view e = refl
walk_stays links more down (suc n) view e = stays_step links more down n view (link_at links view) refl (walk_stays links more down n) e

-- ---- the tip is the view of the last entry

last_view : List LogEntry → ℕ
last_view [] = 0
last_view (x ∷ []) = x.view
last_view (x ∷ y ∷ rest) = last_view (y ∷ rest)

last_is : (xs : List LogEntry) (x : LogEntry) → last_view (xs ++ x ∷ []) ≡ x.view
unfolding last_view
last_is [] x = refl
last_is (y ∷ []) x = refl
last_is (y ∷ z ∷ rest) x = last_is (z ∷ rest) x

walk_top : (links : List Proposal) (view : ℕ) (w : List Proposal) → Descends links view w → last_view (map entry_for (reverse w)) ≡ view
unfolding last_view
walk_top links view [] d = sym d
walk_top links view (p ∷ w) d =
    let e : map entry_for (reverse (p ∷ w)) ≡ map entry_for (reverse w) ++ entry_for p ∷ [] =
    ap (map entry_for) (reverse-append (p ∷ []) w) ∙ map-append entry_for (reverse w) (p ∷ []) in
    ap last_view e ∙ last_is (map entry_for (reverse w)) (entry_for p) ∙ d.0

log_top : (verifies : Activity → Bool) (a : List Activity) → last_view (log_of verifies a) ≡ tip_of verifies a
unfolding log_of
log_top verifies a =
    let links = links_of verifies a in
    walk_top links (tip_of verifies a) (walk links (tip_of verifies a)) (whole_descends links (tip_of verifies a) (tip_is links (finals_of verifies a)).0)

-- ---- both ways

same_with_tip : (verifies : Activity → Bool) (taken later : List Activity) → tip_of verifies (taken ++ later) ≡ tip_of verifies taken
    → log_of verifies (taken ++ later) ≡ log_of verifies taken
unfolding log_of
same_with_tip verifies taken later e =
    let links = links_of verifies taken in
    let more = links_of verifies later in
    let tip = tip_of verifies taken in
    let down : GoDown (links ++ more) = subst GoDown (links_append verifies taken later) (λ p c. (links_are verifies (taken ++ later) p c).1) in
    let whole : end_of tip (walk links tip) ≡ 0 = eqb-true (end_of tip (walk links tip)) 0 (tip_is links (finals_of verifies taken)).0 in
    ap₂ (λ (ls : List Proposal) (v : ℕ). map entry_for (reverse (walk ls v))) (links_append verifies taken later) e
    ∙ ap (λ (w : List Proposal). map entry_for (reverse w)) (walk_stays links more down tip tip whole)

pub changes_with_tip : (verifies : Activity → Bool) (taken later : List Activity)
    → (tip_of verifies (taken ++ later) ≡ tip_of verifies taken) ↔ (log_of verifies (taken ++ later) ≡ log_of verifies taken)
changes_with_tip verifies taken later = (
  same_with_tip verifies taken later,
  λ e. sym (log_top verifies (taken ++ later)) ∙ ap last_view e ∙ log_top verifies taken,
)
