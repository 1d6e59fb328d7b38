use Rattle.std.proofs.Common.{◌≡◌, ◌++◌, filter}
use Rattle.std.specs.Prelude.{string_bytes}
use Rattle.std.specs.List.{flat_map, range_with_len}
use Rattle.model_epochs.specs.Lines.{is_honest_in, member_lines}
use Rattle.simplex_epochs.specs.Runs.{inputs_of, rans_of}
use Rattle.simplex_epochs.proofs.text.write_members.Given as goal

abbrev pub invariant-loop-member : goal.invariant-loop-member
invariant-loop-member l =
    string_bytes l.text
    ≡ string_bytes l.fn.text ++ flat_map (member_lines l.height (inputs_of l.epochs) (rans_of l.runs)) (filter (is_honest_in (inputs_of l.epochs)) (range_with_len 0 l.member))
