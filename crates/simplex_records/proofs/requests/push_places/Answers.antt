use Rattle.std.proofs.Common.{◌∙◌}
use Rattle.simplex_records.proofs.Asked.{places-more}
use Rattle.simplex_records.proofs.requests.push_places.Goals as goal

pub loop-place-preserved : goal.loop-place-preserved
loop-place-preserved c = c.in_ok-push.ensures.items ∙ places-more _ _ c.args.event c.loop-place.place c.loop-place.invariant
