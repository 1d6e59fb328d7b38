-- The log of a view above another.
use Rattle.std.proofs.Common.{◌≡◌, ℕ, List, [], ◌∷◌, ◌++◌, map, reverse, refl, sym, ap, ◌∙◌}
use Rattle.std.proofs.lemmas.List.{map-append, reverse-append}
use Rattle.simplex_values.specs.declared.proposal.Proposal.{Proposal}
use Rattle.model_log.specs.declared.entry.LogEntry.{LogEntry}
use Rattle.model_log.specs.Log.{entry_for}
use Rattle.model_log.specs.Walks.{walk, walk_within}
use Rattle.simplex_log.specs.Kept.{log_to}

map_reverse : {A B : Type 0} (f : A → B) (xs : List A) → map f (reverse xs) ≡ reverse (map f xs)
map_reverse f [] = refl
map_reverse f (x ∷ xs) =
    ap (map f) (reverse-append (x ∷ []) xs) ∙ map-append f (reverse xs) (x ∷ [])
    ∙ ap (λ (ys : List _). ys ++ f x ∷ []) (map_reverse f xs) ∙ sym (reverse-append (f x ∷ []) (map f xs))

-- a walk through a view: the log of that, and what was walked above it
pub log_more : (links : List Proposal) (top foot : ℕ) (above : List LogEntry) → above ++ map entry_for (walk links foot) ≡ map entry_for (walk links top)
    → log_to links foot ++ reverse above ≡ log_to links top
unfolding log_to
log_more links top foot above walked =
    ap (λ (es : List LogEntry). es ++ reverse above) (map_reverse entry_for (walk links foot))
    ∙ sym (reverse-append above (map entry_for (walk links foot)))
    ∙ ap reverse walked ∙ sym (map_reverse entry_for (walk links top))

-- a walk to genesis
pub log_whole : (links : List Proposal) (top foot : ℕ) (above : List LogEntry) → foot ≡ 0 → above ++ map entry_for (walk links foot) ≡ map entry_for (walk links top)
    → reverse above ≡ log_to links top
unfolding log_to walk_within
log_whole links top foot above zero walked =
    sym (ap (λ (v : ℕ). log_to links v ++ reverse above) zero) ∙ log_more links top foot above walked
