use Rattle.std.proofs.Common.{◌≤◌, ◌+◌, length}
use Rattle.std.specs.BTreeSet.{btree_set_len}
use Rattle.model_resolver.specs.Fetcher.{expiring}
use Rattle.simplex_fetch.proofs.Visits.{Visiting}
use Rattle.simplex_fetch.proofs.fetcher.Fetcher.expire.Given as goal

abbrev pub invariant-loop-view : goal.invariant-loop-view
invariant-loop-view l =
    Visiting (expiring l.now) l.initial.views.keys l.initial.self l.views.keys l.self l.outs.items
    × (l.self.next_id + length l.views.keys ≤ l.initial.self.next_id + length l.initial.views.keys)

abbrev pub decreases-loop-view : goal.decreases-loop-view
decreases-loop-view l = btree_set_len l.views
