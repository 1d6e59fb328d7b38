use Rattle.std.proofs.Common.{refl}
use Rattle.simplex_voter.specs.Actor.{StandsFor}
use Rattle.simplex_voter.proofs.Lives.{step-made, idle-made}
use Rattle.simplex_voter.proofs.LivesOver.{step-fares, idle-fares}
use Rattle.simplex_voter.proofs.actor.Actor.step.Goals as goal

pub returns-then-not-is_held-clause-does : goal.returns-then-not-is_held-clause-does
unfolding StandsFor
returns-then-not-is_held-clause-does g c = record {
  stands = λ made past s.
      (idle-made made past c.args.input c.args.now c.args.stop.now (rw c.if-not-is_held.true at (c.in_ok-is_held.ensures made.rules _ _ s.planner)) refl refl c.requires.empty s).stays;
  gives = λ made past s.
      let after = idle-made made past c.args.input c.args.now c.args.stop.now (rw c.if-not-is_held.true at (c.in_ok-is_held.ensures made.rules _ _ s.planner)) refl refl c.requires.empty s in
      (after.outcome_is, after.out_is);
  over = idle-fares c.args.input c.args.now c.args.stop.now (λ made past s. rw c.if-not-is_held.true at (c.in_ok-is_held.ensures made.rules _ _ s.planner)) refl refl c.requires.empty;
  faults = refl;
}

pub returns-clause-does : goal.returns-clause-does
unfolding StandsFor
returns-clause-does g c = record {
  stands = λ made past s.
      (step-made made past c.args.input c.args.now c.args.stop.now (rw c.if-not-is_held.false at (c.in_ok-is_held.ensures made.rules _ _ s.planner))
      c.take_out-planned.ensures.stands c.take_out-planned.ensures.out c.in_ok-outcome.ensures.told refl s).stays;
  gives = λ made past s.
      let after = step-made made past c.args.input c.args.now c.args.stop.now (rw c.if-not-is_held.false at (c.in_ok-is_held.ensures made.rules _ _ s.planner))
      c.take_out-planned.ensures.stands c.take_out-planned.ensures.out c.in_ok-outcome.ensures.told refl s in
      (after.outcome_is, after.out_is);
  over = step-fares c.args.input c.args.now c.args.stop.now (λ made past s. rw c.if-not-is_held.false at (c.in_ok-is_held.ensures made.rules _ _ s.planner))
      c.take_out-planned.ensures.stands c.take_out-planned.ensures.out c.in_ok-outcome.ensures.over refl;
  faults = c.in_ok-outcome.ensures.faults;
}
