use Rattle.std.proofs.Common.{◌≡◌, drop}
use Rattle.simplex_voter.specs.Arrivals.{first_waiting}
use Rattle.simplex_voter.proofs.waiting.waiting_certify.Given as goal

-- the first that waits is the first of those to come
abbrev pub invariant-loop-request : goal.invariant-loop-request
invariant-loop-request l = first_waiting (drop l.request-index l.certify) ≡ first_waiting l.certify
