use Rattle.std.proofs.Common.{◌≡◌, [], map, drop}
use Rattle.model_resolver.specs.Fetcher.{fetched_beside, of_all}
use Rattle.simplex_fetch.proofs.fetcher.Fetcher.fetch_all.Given as goal

abbrev pub invariant-loop-fetch : goal.invariant-loop-fetch
invariant-loop-fetch l =
    (fetched_beside (map of_all (drop l.fetch-index l.fetch-items)) l.now l.new.keys l.self ≡ fetched_beside (map of_all l.fetch-items) l.now [] l.initial.self)
    × (l.self.next_id ≡ l.initial.self.next_id)
