use Rattle.std.proofs.Common.{◌≡◌, List}
use Rattle.simplex_values.specs.declared.proposal.Proposal.{Proposal}
use Rattle.model_log.specs.Ends.{end_in}
use Rattle.simplex_log.specs.Stands.{LinksOf}
use Rattle.simplex_log.proofs.links.Links.end.Given as goal

abbrev pub invariant-loop-link : goal.invariant-loop-link
invariant-loop-link l = (links : List Proposal) → LinksOf l.fn.self links → LinksOf l.self links × (l.«end» ≡ end_in links l.from)

abbrev pub decreases-loop-link : goal.decreases-loop-link
decreases-loop-link l = l.from
