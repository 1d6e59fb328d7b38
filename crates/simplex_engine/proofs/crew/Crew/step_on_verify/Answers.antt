use Rattle.std.proofs.Common.{true, false}
use Rattle.simplex_engine.proofs.Polls.{takes-verify, gives-verify, taken-verify}
use Rattle.simplex_engine.proofs.PollsOver.{fares-verify}
use Rattle.simplex_engine.proofs.crew.Crew.step_on_verify.Goals as goal

pub returns : goal.returns
returns g c =
    record {
      stands = takes-verify _ _ _ _ _ _ c.in_ok-given.ensures.stands c.in_ok-given.ensures.gives;
      gives = gives-verify _ _ _ _ _ c.in_ok-given.ensures.gives;
      taken = taken-verify _ _ _ _ _ _ c.in_ok-given.ensures.gives (c.in_ok-given.ensures.taken true);
      over = fares-verify c.in_ok-given.ensures.over (c.in_ok-given.ensures.taken false);
      faults = c.in_ok-given.ensures.faults;
    }
