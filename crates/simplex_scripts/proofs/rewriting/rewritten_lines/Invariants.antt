use Rattle.std.proofs.Common.{◌≡◌, ◌++◌, length, map, string_bytes}
use Rattle.simplex_scripts.specs.Rewriting.{rewritten_from}
use Rattle.simplex_scripts.proofs.rewriting.rewritten_lines.Given as goal

abbrev pub invariant-loop-rest : goal.invariant-loop-rest
invariant-loop-rest l =
    string_bytes l.text ++ rewritten_from l.number (map (λ line. line.now) l.rest) l.lines l.events l.entries ≡
    rewritten_from 0 (map (λ line. line.now) l.script) l.lines l.events l.entries

abbrev pub decreases-loop-rest : goal.decreases-loop-rest
decreases-loop-rest l = length l.rest
