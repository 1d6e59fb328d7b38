use Rattle.simplex_repair.proofs.Lacking.{gap_lacks, lacks_gap, gaps_listed}
use Rattle.simplex_repair.proofs.laws.gaps_are_what_is_lacking.Goals as goal

pub returns-clause-each : goal.returns-clause-each
returns-clause-each c = λ length calls view some replayed. (gap_lacks length calls view some, lacks_gap length calls view some replayed)

pub returns-clause-listed : goal.returns-clause-listed
returns-clause-listed c = λ length calls view. gaps_listed length calls view
