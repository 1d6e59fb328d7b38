use Rattle.std.proofs.Common.{◌+◌, ◌*◌, length}
use Rattle.simplex_commands.proofs.reading.+needs.Given as goal

abbrev pub decreases-needed : goal.decreases-needed
decreases-needed l = 2 * length l.needs.now

abbrev pub decreases-needed_at : goal.decreases-needed_at
decreases-needed_at l = 2 * length l.more.now + 1
