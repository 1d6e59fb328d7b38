use Rattle.std.proofs.Common.{length}
use Rattle.simplex_lab.specs.Opening.{open_requests}
use Rattle.simplex_lab.proofs.Opened.{Opens}
use Rattle.simplex_lab.proofs.opening.requests_behind.Given as goal

abbrev pub invariant-loop-event : goal.invariant-loop-event
invariant-loop-event l = Opens l.requests l.deeds l.made (open_requests l.events l.entries)

abbrev pub decreases-loop-event : goal.decreases-loop-event
decreases-loop-event l = length l.deeds
