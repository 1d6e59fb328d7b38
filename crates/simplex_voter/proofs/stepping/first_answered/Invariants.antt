use Rattle.std.proofs.Common.{◌≡◌, drop, None}
use Rattle.simplex_voter.specs.Arrivals.{least_of}
use Rattle.simplex_voter.proofs.stepping.first_answered.Given as goal

abbrev pub invariant-loop-request : goal.invariant-loop-request
invariant-loop-request l = least_of l.first (drop l.request-index l.certify) ≡ least_of None l.certify
