-- What is kept by view.
use Rattle.std.specs.Prelude.{◌≡◌, ◌==◌, ℕ, Bool, true, false, List, [], ◌∷◌, ◌++◌, map, filter, reverse, Option, Some, None, option_map, unwrap_or, if◌then◌else◌}
use Rattle.std.specs.Option.{option_to_list}
use Rattle.std.specs.BTreeMap.{BTreeMap}
use Rattle.simplex_values.specs.Maps.{found}
use Rattle.simplex_values.specs.declared.proposal.Proposal.{Proposal}
use Rattle.simplex_types.specs.declared.activity.Activity.{Activity}
use Rattle.model_log.specs.declared.entry.LogEntry.{LogEntry}
use Rattle.model_log.specs.Links.{proposal_in, final_view, is_link}
use Rattle.model_log.specs.Log.{entry_for}
use Rattle.model_log.specs.Walks.{walk}
use Rattle.simplex_log.specs.declared.links.Link.{Link}

-- the link that is kept of the view
unfoldable pub held_at : BTreeMap ℕ Link → ℕ → Option Proposal
held_at views view = option_map (λ (l : Link). l.proposal) (found views view)

-- the link, with another view further down
abbrev pub pointing : ℕ → Option Link → Option Link
pointing down None = None
pointing down (Some l) = Some (record { proposal = l.proposal; down = down })

-- the proposal's link is put at its view, and goes down to its parent
abbrev pub Puts : BTreeMap ℕ Link → BTreeMap ℕ Link → Proposal → Type 0
Puts old new p =
    (view : ℕ) → found new view
    ≡ (if p.round.view == view then Some (record { proposal = p; down = p.parent }) else found old view)

-- the greatest final view that is kept as ending there, or 0
unfoldable pub top_in : BTreeMap ℕ ℕ → ℕ → ℕ
top_in tops view = unwrap_or (found tops view) 0

-- the log up to a view
unfoldable pub log_to : List Proposal → ℕ → List LogEntry
log_to links view = map entry_for (reverse (walk links view))

-- what a certificate that verifies adds to the links and to the final views
unfoldable pub links_in : Activity → List Proposal
links_in activity = filter is_link (option_to_list (proposal_in activity))

unfoldable pub finals_in : Activity → List ℕ
finals_in activity = option_to_list (final_view activity)

-- with the view behind them, where it is final
abbrev pub finals_with : List ℕ → ℕ → Bool → List ℕ
finals_with finals view false = finals
finals_with finals view true = finals ++ view ∷ []
