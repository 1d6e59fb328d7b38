use Rattle.std.proofs.Common.{◌≤◌, ◌∙◌, length, arith}
use Rattle.simplex_journal.specs.Memory.{sections_of}
use Rattle.simplex_journal.proofs.Entries.{length-sections_of, pruned_first-all}
use Rattle.simplex_journal.proofs.sections.drop_below.Goals as goal

pub returns : goal.returns
returns c =
    let enough : length (sections_of c.args.sections.now.entries) ≤ c.len-all.result = omega (arith, length-sections_of c.args.sections.now.entries, c.len-all.ensures.len) in
    c.drop_first.ensures ∙ pruned_first-all c.len-all.result c.args.least (sections_of c.args.sections.now.entries) enough
