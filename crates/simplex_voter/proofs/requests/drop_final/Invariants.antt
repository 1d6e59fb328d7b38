use Rattle.std.proofs.Common.{◌≡◌, fold, map, drop}
use Rattle.simplex_voter.specs.Arrivals.{drop_final_number, opened_of}
use Rattle.simplex_voter.proofs.requests.drop_final.Given as goal

abbrev pub invariant-loop-request : goal.invariant-loop-request
invariant-loop-request l =
    fold (drop_final_number l.finalized) l.dropped.items (map opened_of (drop l.request-index l.certify))
    ≡ fold (drop_final_number l.finalized) l.fn.dropped.items (map opened_of l.certify)
