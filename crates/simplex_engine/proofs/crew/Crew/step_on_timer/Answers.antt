use Rattle.simplex_engine.proofs.Polls.{takes-timer, gives-timer, taken-timer}
use Rattle.simplex_engine.proofs.PollsOver.{fares-timer}
use Rattle.simplex_engine.proofs.crew.Crew.step_on_timer.Goals as goal

pub returns : goal.returns
returns g c =
    rw c.polled.ensures (record {
      stands = takes-timer _ _ _ _ _ _ c.in_ok-outcome.ensures.stands c.in_ok-outcome.ensures.gives;
      gives = gives-timer _ _ _ _ _ c.in_ok-outcome.ensures.gives;
      taken = taken-timer _ _ _ _ _ c.in_ok-outcome.ensures.gives;
      over = fares-timer c.in_ok-outcome.ensures.over;
      faults = c.in_ok-outcome.ensures.faults;
    })
