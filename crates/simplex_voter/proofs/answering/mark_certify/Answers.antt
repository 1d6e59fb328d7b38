use Rattle.std.proofs.Common.{get_or, ap, arith}
use Rattle.std.proofs.lemmas.List.Edits.{map_over_more}
use Rattle.simplex_voter.specs.Arrivals.{mark_request}
use Rattle.simplex_voter.proofs.answering.mark_certify.Goals as goal

pub loop-request-preserved : goal.loop-request-preserved
loop-request-preserved c =
    rw c.mark_request.ensures
    (map_over_more (mark_request c.args.number c.args.arrival.now) _ _ _ _ (omega arith) c.loop-request.invariant
    (ap (get_or c.loop-request.request-items c.loop-request.request-index) c.request-item.is))
