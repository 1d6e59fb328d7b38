use Rattle.std.proofs.Common.{length}
use Rattle.simplex_epochs.proofs.closing.+longest.Given as goal

abbrev pub decreases-longest : goal.decreases-longest
decreases-longest l = length l.logs.now
