use Rattle.simplex_voter.proofs.Restoring.{stands-on}
use Rattle.simplex_voter.proofs.planner.Planner.stand_on.Goals as goal

pub returns : goal.returns
returns g c = λ made answers doing s whole.
    rw (c.in_ok-kept.ensures, stands-on made c.args.now c.args.floor.now doing) at (c.in_ok-tell_floor.ensures made answers _ (c.in_ok-set_floor.ensures made answers doing s whole))
