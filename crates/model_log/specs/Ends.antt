-- Where walks end as links come.
use Rattle.std.specs.Prelude.{ℕ, ◌≡◌, ◌<◌, ◌==◌, List, Contains, None, filter, if◌then◌else◌}
use Rattle.simplex_values.specs.declared.proposal.Proposal.{Proposal}
use Rattle.model_log.specs.Log.{greatest}
use Rattle.model_log.specs.Walks.{link_at, walk, end_of}

-- where the walk of a view ends
abbrev pub end_in : List Proposal → ℕ → ℕ
end_in links view = end_of view (walk links view)

-- the same with one more link: a walk that ended at its view goes on from its parent
abbrev pub end_behind : List Proposal → Proposal → ℕ → ℕ
end_behind links p view = if end_in links view == p.round.view then end_in links p.parent else end_in links view

-- the greatest of the final views whose walks end at the view, or 0
abbrev pub top_at : List Proposal → List ℕ → ℕ → ℕ
top_at links finals view = greatest (filter (λ final. end_in links final == view) finals)

-- each goes down
abbrev pub GoDown : List Proposal → Type 0
GoDown links = (p : Proposal) → Contains links p → p.parent < p.round.view

-- the link is the first of its view
pub record IsNewLink (links : List Proposal) (p : Proposal) : Type 0 where
  pub down : GoDown links
  pub low : p.parent < p.round.view
  pub first : link_at links p.round.view ≡ None
