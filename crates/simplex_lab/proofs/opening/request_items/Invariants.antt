use Rattle.std.proofs.Common.{◌≡◌, ◌++◌, length, string_bytes}
use Rattle.simplex_lab.specs.Opening.{open_requests, request_items}
use Rattle.simplex_lab.proofs.opening.request_items.Given as goal

abbrev pub invariant-loop-rest : goal.invariant-loop-rest
invariant-loop-rest l = string_bytes l.text ++ request_items l.node l.rest ≡ request_items l.node (open_requests l.events l.entries)

abbrev pub decreases-loop-rest : goal.decreases-loop-rest
decreases-loop-rest l = length l.rest
