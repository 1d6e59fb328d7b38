use Rattle.std.proofs.Common.{◌≡◌, ◌++◌}
use Rattle.simplex_records.specs.Requests.{places_of}
use Rattle.simplex_records.proofs.requests.push_places.Given as goal

abbrev pub invariant-loop-place : goal.invariant-loop-place
invariant-loop-place l = l.places.items ≡ l.initial.places.items ++ places_of l.event l.place
