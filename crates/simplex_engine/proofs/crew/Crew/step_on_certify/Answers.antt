use Rattle.std.proofs.Common.{true, false}
use Rattle.simplex_engine.proofs.Polls.{takes-certify, gives-certify, taken-certify}
use Rattle.simplex_engine.proofs.PollsOver.{fares-certify}
use Rattle.simplex_engine.proofs.crew.Crew.step_on_certify.Goals as goal

pub returns : goal.returns
returns g c =
    record {
      stands = takes-certify _ _ _ _ _ _ c.in_ok-given.ensures.stands c.in_ok-given.ensures.gives;
      gives = gives-certify _ _ _ _ _ c.in_ok-given.ensures.gives;
      taken = taken-certify _ _ _ _ _ _ c.in_ok-given.ensures.gives (c.in_ok-given.ensures.taken true);
      over = fares-certify c.in_ok-given.ensures.over (c.in_ok-given.ensures.taken false);
      faults = c.in_ok-given.ensures.faults;
    }
