use Rattle.std.proofs.Common.{◌≡◌, ◌++◌, length, string_bytes}
use Rattle.simplex_scripts.specs.Rewriting.{told_below}
use Rattle.simplex_scripts.proofs.rewriting.push_below.Given as goal

abbrev pub invariant-loop-numbers : goal.invariant-loop-numbers
invariant-loop-numbers l =
    string_bytes l.text ++ told_below l.number l.numbers l.deeds l.made ≡
    string_bytes l.initial.text ++ told_below l.number l.lines l.events l.entries

abbrev pub decreases-loop-numbers : goal.decreases-loop-numbers
decreases-loop-numbers l = length l.numbers
