use Rattle.std.proofs.Common.{◌+◌, ◌*◌, length}
use Rattle.simplex_commands.proofs.reading.+words.Given as goal

abbrev pub decreases-rest_of : goal.decreases-rest_of
decreases-rest_of l = 2 * length l.words.now

abbrev pub decreases-option_of : goal.decreases-option_of
decreases-option_of l = 2 * length l.after.now + 1

abbrev pub decreases-value_at : goal.decreases-value_at
decreases-value_at l = 2 * length l.words.now

abbrev pub decreases-file_of : goal.decreases-file_of
decreases-file_of l = 2 * length l.after.now + 1
