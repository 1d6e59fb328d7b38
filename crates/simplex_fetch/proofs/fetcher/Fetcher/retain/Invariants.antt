use Rattle.std.proofs.Common.{drop}
use Rattle.model_resolver.specs.Fetcher.{retiring}
use Rattle.simplex_fetch.proofs.Visits.{Visiting}
use Rattle.simplex_fetch.proofs.fetcher.Fetcher.retain.Given as goal

abbrev pub invariant-loop-view : goal.invariant-loop-view
invariant-loop-view l = Visiting (retiring l.retire) l.view-items l.initial.self (drop l.view-index l.view-items) l.self l.outs.items
