-- The log of a list of activities.
use Rattle.std.specs.Prelude.{ℕ, ◌==◌, Bool, List, map, reverse, filter, Option, Some, None, if◌then◌else◌}
use Rattle.simplex_values.specs.declared.proposal.Proposal.{Proposal}
use Rattle.simplex_types.specs.declared.activity.Activity.{Activity}
use Rattle.model_rules.specs.Lists.{greatest_of}
use Rattle.model_log.specs.declared.entry.LogEntry.{LogEntry}
use Rattle.model_log.specs.Links.{links_of, finals_of}
use Rattle.model_log.specs.Walks.{walk, end_of, is_whole}

abbrev pub greatest : List ℕ → ℕ
greatest views = greatest_of (λ view. view) views

abbrev pub entry_for : Proposal → LogEntry
entry_for p = record { view = p.round.view; parent = p.parent; payload = p.payload }

-- the greatest final view whose walk is whole, or 0
abbrev pub tip : List Proposal → List ℕ → ℕ
tip links finals = greatest (filter (is_whole links) finals)

abbrev pub tip_of : (Activity → Bool) → List Activity → ℕ
tip_of verifies activities = tip (links_of verifies activities) (finals_of verifies activities)

-- the walk of the tip, from its lowest view up
unfoldable pub log_of : (Activity → Bool) → List Activity → List LogEntry
log_of verifies activities = map entry_for (reverse (walk (links_of verifies activities) (tip_of verifies activities)))

-- the view without a link at which a walk ends
abbrev pub gap_at : ℕ → Option ℕ
gap_at view = if view == 0 then None else Some view

-- of the walk of the greatest final view
unfoldable pub gap_of : (Activity → Bool) → List Activity → Option ℕ
gap_of verifies activities =
    let last = greatest (finals_of verifies activities) in
    gap_at (end_of last (walk (links_of verifies activities) last))
