use Rattle.std.proofs.Common.{◌≡◌, ◌++◌, List, map}
use Rattle.simplex_values.specs.declared.proposal.Proposal.{Proposal}
use Rattle.model_log.specs.Ends.{end_in}
use Rattle.model_log.specs.Log.{entry_for}
use Rattle.model_log.specs.Walks.{walk}
use Rattle.simplex_log.specs.Stands.{LinksOf}
use Rattle.simplex_log.proofs.links.Links.branch.Given as goal

abbrev pub invariant-loop-link : goal.invariant-loop-link
invariant-loop-link l = (links : List Proposal) → LinksOf l.self links
    → (l.entries.items ++ map entry_for (walk links l.at) ≡ map entry_for (walk links l.view)) × (end_in links l.at ≡ end_in links l.view)

abbrev pub decreases-loop-link : goal.decreases-loop-link
decreases-loop-link l = l.at
