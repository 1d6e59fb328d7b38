use Rattle.std.proofs.Common.{◌≡◌, ◌++◌, drop, map}
use Rattle.simplex_application.specs.Application.{as_reply}
use Rattle.simplex_application.proofs.application.replies_of.Given as goal

abbrev pub invariant-loop-verdict : goal.invariant-loop-verdict
invariant-loop-verdict l = l.replies ++ map as_reply (drop l.verdict-index l.verdicts) ≡ map as_reply l.verdicts
