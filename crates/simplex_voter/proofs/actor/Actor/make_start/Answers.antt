use Rattle.std.proofs.Common.{refl}
use Rattle.simplex_voter.specs.Actor.{StandsFor}
use Rattle.simplex_voter.proofs.Lives.{start-made, unread-made}
use Rattle.simplex_voter.proofs.LivesOver.{start-fares, unread-fares, faults-later}
use Rattle.simplex_voter.proofs.actor.Actor.make_start.Goals as goal

pub returns-in_default : goal.returns-in_default
unfolding StandsFor
returns-in_default g c = record {
  stands = λ made s.
      (unread-made made c.args.now c.args.stop.now (λ order. rw c.in_default.is at (c.in_ok-records.ensures.told order)) refl refl c.in_ok-list_floor.ensures s).stays;
  gives = λ made s.
      let after = unread-made made c.args.now c.args.stop.now (λ order. rw c.in_default.is at (c.in_ok-records.ensures.told order)) refl refl c.in_ok-list_floor.ensures s in
      (after.outcome_is, after.out_is);
  over = unread-fares c.args.now c.args.stop.now (rw c.in_default.is at c.in_ok-records.ensures.over) refl c.in_ok-list_floor.ensures;
  faults = rw c.in_default.is at c.in_ok-records.ensures.faults;
}

pub returns : goal.returns
unfolding StandsFor
returns g c = record {
  stands = λ made s.
      (start-made _ made c.args.now c.args.stop.now (λ order. rw c.in-Some.is at (c.in_ok-records.ensures.told order))
      (λ rules stands. rw c.deref.ensures.value at (c.in_ok-start.ensures rules stands))
      c.take_out-planned.ensures.stands c.take_out-planned.ensures.out (rw c.past_reading-later.ensures at c.in_ok-outcome.ensures.told) refl s).stays;
  gives = λ made s.
      let after = start-made _ made c.args.now c.args.stop.now (λ order. rw c.in-Some.is at (c.in_ok-records.ensures.told order))
      (λ rules stands. rw c.deref.ensures.value at (c.in_ok-start.ensures rules stands))
      c.take_out-planned.ensures.stands c.take_out-planned.ensures.out (rw c.past_reading-later.ensures at c.in_ok-outcome.ensures.told) refl s in
      (after.outcome_is, after.out_is);
  over = start-fares c.in-Some.records _ c.args.now c.args.stop.now (rw c.in-Some.is at c.in_ok-records.ensures.over)
      (λ rules stands. rw c.deref.ensures.value at (c.in_ok-start.ensures rules stands))
      c.take_out-planned.ensures.stands c.take_out-planned.ensures.out (rw c.past_reading-later.ensures at c.in_ok-outcome.ensures.over) refl;
  faults = faults-later _ _ _ _ (rw c.in-Some.is at c.in_ok-records.ensures.faults) c.in_ok-outcome.ensures.faults;
}
