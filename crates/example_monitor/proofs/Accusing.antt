-- The accusations of one entry more.
use Rattle.std.proofs.Common.{◌≡◌, ℕ, ◌<◌, ◌+◌, ◌++◌, List, ◌∷◌, length, get_or, drop, filter_map, sym, ap, ◌∙◌, append_assoc}
use Rattle.std.proofs.lemmas.List.{at_drop_more}
use Rattle.simplex.specs.declared.Entry.{Entry}
use Rattle.example_monitor.specs.declared.accusation.Accusation.{Accusation}
use Rattle.example_monitor.specs.Accusations.{accusation_by, accusations_of}

pub further : (found more : List Accusation) (entries : List Entry) (i : ℕ) (entry : Entry) → i < length entries → entry ≡ get_or entries i entry
    → more ≡ found ++ filter_map (accusation_by entry.event) entry.calls → found ++ accusations_of (drop i entries) ≡ accusations_of entries
    → more ++ accusations_of (drop (i + 1) entries) ≡ accusations_of entries
further found more entries i entry low is grown so_far =
    let rest = drop (i + 1) entries in
    let here = at_drop_more accusations_of entries i entry low ∙ ap (λ (e : Entry). accusations_of (e ∷ rest)) (sym is) in
    ap (λ (all : List Accusation). all ++ accusations_of rest) grown
    ∙ append_assoc found (filter_map (accusation_by entry.event) entry.calls) (accusations_of rest)
    ∙ ap (λ (all : List Accusation). found ++ all) (sym here)
    ∙ so_far
