use Rattle.std.proofs.Common.{◌≡◌, ◌++◌, length, map}
use Rattle.simplex_script.specs.Lines.{words_in}
use Rattle.simplex_script.proofs.lines.words_in.Given as goal

abbrev pub invariant-loop-rest : goal.invariant-loop-rest
invariant-loop-rest l =
    map (λ word. word.now) l.words.items ++ words_in (map (λ part. part.now) l.rest) ≡ words_in (map (λ part. part.now) l.parts)

abbrev pub decreases-loop-rest : goal.decreases-loop-rest
decreases-loop-rest l = length l.rest
