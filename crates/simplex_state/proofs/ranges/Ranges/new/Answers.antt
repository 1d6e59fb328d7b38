use Rattle.simplex_state.proofs.Runs.{nothing_holds}
use Rattle.simplex_state.proofs.ranges.Ranges.new.Goals as goal

pub returns : goal.returns
returns c = λ q. nothing_holds _ q (λ u h. c.empty_map.ensures u)
