use Rattle.std.proofs.Common.{◌≡◌, length}
use Rattle.simplex_judge.specs.Followers.{AreSeats}
use Rattle.simplex_judge.proofs.followers.Followers.new.Given as goal

abbrev pub invariant-loop-place : goal.invariant-loop-place
invariant-loop-place l = (length l.seats.items ≡ l.place) × AreSeats l.seats.items l.setup
