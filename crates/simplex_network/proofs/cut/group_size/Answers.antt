use Rattle.std.proofs.Common.{ap, refl, ◌+◌, ℕ, arith}
use Rattle.simplex_network.proofs.Places.{node_small, node-half}
use Rattle.simplex_network.proofs.Cutting.{cut-none, cut-more, cut-ends, cut-all}
use Rattle.simplex_network.proofs.cut.group_size.Goals.{else-loop-event-test, then-loop-event-test+in_default}
use Rattle.simplex_network.proofs.cut.group_size.Goals as goal

pub loop-event-init : goal.loop-event-init
loop-event-init c = (refl, cut-none _ _ _ _ c.empty_set-named.ensures)

pub seat_of-requires-clause-member : goal.seat_of-requires-clause-member
seat_of-requires-clause-member c = let small = node_small c.args.setup.now c.in-Some.node c.requires.good c.in-Some.ensures.lendable.exists in omega (arith, small)

pub loop-event-preserved : goal.loop-event-preserved
loop-event-preserved c = (
  ap (λ (n : ℕ). n + 1) c.loop-event.invariant.0,
  cut-more _ _ _ _ _ _ _ _ _ (omega arith) c.event-item.is (node-half c.args.setup.now c.in-Some.node c.in-Some.ensures.lendable.exists) c.seat_of.ensures c.in-Some.ensures.lendable
      c.in-Some.ensures.joins c.in_ok-add.ensures.ok c.loop-event.invariant.1,
)

pub returns-clause-each : goal.returns-clause-each
returns-clause-each c = rw c.loop-event.invariant.0 c.loop-event.invariant.1.each

pub returns-clause-group : goal.returns-clause-group
returns-clause-group c =
    λ before stand. rw c.loop-event.invariant.0 (elim c.loop-event-test.branch [
      | else-loop-event-test w ↦ cut-all _ _ _ _ _ (omega (arith, w.loop-event-test.false, c.loop-event.auto.event-index-end)) c.loop-event.invariant.1 before stand
      | then-loop-event-test+in_default w ↦ cut-ends _ _ _ _ _ _ w.loop-event-test.true w.event-item.is w.in_default.ensures.joins c.loop-event.invariant.1 before stand
    ])
