use Rattle.std.proofs.Common.{◌+◌, ◌*◌, length}
use Rattle.simplex_lab.proofs.words.+options.Given as goal

abbrev pub decreases-with_options : goal.decreases-with_options
decreases-with_options l = 2 * length l.options.now

abbrev pub decreases-with_value : goal.decreases-with_value
decreases-with_value l = 2 * length l.after.now + 1
