use Rattle.std.proofs.Common.{◌≤◌, arith, length, ap}
use Rattle.simplex_shrinker.proofs.Parts.{part_empty, part_more}
use Rattle.simplex_shrinker.proofs.without.without.Goals as goal

pub loop-place-init : goal.loop-place-init
loop-place-init c = (omega (arith, ap length c.new-left.ensures), part_empty _ _ c.new-left.ensures)

pub loop-place-preserved : goal.loop-place-preserved
loop-place-preserved c = (
  omega (arith, c.in_ok-push_if.ensures.few, c.loop-place.invariant.0),
  part_more c.loop-place.left c.push_if.new.left c.args.events.now c.loop-place.place c.in_ok-kept.kept c.index-events-place.result c.loop-place-test.true c.index-events-place.is
      c.in_ok-push_if.ensures.last c.in_ok-kept.ensures c.loop-place.invariant.1,
)
