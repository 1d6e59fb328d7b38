use Rattle.std.proofs.Common.{true, false}
use Rattle.simplex_engine.proofs.Polls.{takes-propose, gives-propose, taken-propose}
use Rattle.simplex_engine.proofs.PollsOver.{fares-propose}
use Rattle.simplex_engine.proofs.crew.Crew.step_on_proposal.Goals as goal

pub returns : goal.returns
returns g c =
    record {
      stands = takes-propose _ _ _ _ _ _ c.in_ok-given.ensures.stands c.in_ok-given.ensures.gives;
      gives = gives-propose _ _ _ _ _ c.in_ok-given.ensures.gives;
      taken = taken-propose _ _ _ _ _ _ c.in_ok-given.ensures.gives (c.in_ok-given.ensures.taken true);
      over = fares-propose c.in_ok-given.ensures.over (c.in_ok-given.ensures.taken false);
      faults = c.in_ok-given.ensures.faults;
    }
