use Rattle.std.proofs.Common.{◌≡◌, ◌++◌, length, map, string_bytes}
use Rattle.simplex_lab.specs.Words.{behind, joined}
use Rattle.simplex_lab.proofs.words.joined.Given as goal

abbrev pub invariant-loop-rest : goal.invariant-loop-rest
invariant-loop-rest l = l.line.items ++ behind (map string_bytes l.rest) ≡ joined (string_bytes l.first) (map string_bytes l.others)

abbrev pub decreases-loop-rest : goal.decreases-loop-rest
decreases-loop-rest l = length l.rest
