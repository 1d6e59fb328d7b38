use Rattle.std.proofs.Common.{take, false}
use Rattle.std.specs.List.{flat_map}
use Rattle.simplex_conflicts.proofs.Clashing.{alone}
use Rattle.simplex_conflicts.specs.Standing.{TakesIn}
use Rattle.simplex_conflicts.proofs.standing.Standing.take_certificates.Given as goal

abbrev pub invariant-loop-certificate : goal.invariant-loop-certificate
invariant-loop-certificate l = TakesIn l.fn.self l.self (flat_map alone (take l.certificate-index l.certificates)) false
