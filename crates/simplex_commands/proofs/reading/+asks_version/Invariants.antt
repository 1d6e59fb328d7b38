use Rattle.std.proofs.Common.{length}
use Rattle.simplex_commands.proofs.reading.+asks_version.Given as goal

abbrev pub decreases-asks_version : goal.decreases-asks_version
decreases-asks_version l = length l.words.now
