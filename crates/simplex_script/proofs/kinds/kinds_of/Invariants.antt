use Rattle.std.proofs.Common.{◌≡◌, length}
use Rattle.std.specs.Prelude.{map}
use Rattle.simplex_script.specs.Kinds.{kinds_of}
use Rattle.simplex_script.proofs.KindLists.{behind}
use Rattle.simplex_script.proofs.kinds.kinds_of.Given as goal

abbrev pub invariant-loop-rest : goal.invariant-loop-rest
invariant-loop-rest l = behind l.kinds (kinds_of (map (λ word. word.now) l.rest)) ≡ kinds_of (map (λ word. word.now) l.words)

abbrev pub decreases-loop-rest : goal.decreases-loop-rest
decreases-loop-rest l = length l.rest
