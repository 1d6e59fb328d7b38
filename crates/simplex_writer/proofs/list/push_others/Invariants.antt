-- What was added, with the items that are left, makes the whole.
use Rattle.std.proofs.Common.{◌≡◌, ◌++◌, length, string_bytes}
use Rattle.simplex_writer.specs.Pieces.{others_text}
use Rattle.simplex_writer.proofs.list.push_others.Given as goal

abbrev pub invariant-loop-rest : goal.invariant-loop-rest
invariant-loop-rest g l = string_bytes l.text ++ others_text g.T.Written.text_of l.mark l.rest ≡ string_bytes l.initial.text ++ others_text g.T.Written.text_of l.mark l.others

abbrev pub decreases-loop-rest : goal.decreases-loop-rest
decreases-loop-rest g l = length l.rest
