use Rattle.std.proofs.Common.{◌≡◌, ◌++◌, map, take, drop}
use Rattle.simplex_voter.specs.Arrivals.{mark_request}
use Rattle.simplex_voter.proofs.answering.mark_certify.Given as goal

abbrev pub invariant-loop-request : goal.invariant-loop-request
invariant-loop-request l =
    l.request-items ≡ map (mark_request l.number l.arrival) (take l.request-index l.fn.certify.items) ++ drop l.request-index l.fn.certify.items
