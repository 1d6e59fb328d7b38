use Rattle.std.proofs.Common.{◌≡◌}
use Rattle.std.specs.List.{list_any}
use Rattle.simplex_journal.specs.Contents.{kept}
use Rattle.simplex_journal.specs.Memory.{sections_of}
use Rattle.simplex_stored.specs.Before.{is_nullify}
use Rattle.simplex_stored.proofs.votes.have_nullify_anywhere.Given as goal

abbrev pub invariant-loop-lists : goal.invariant-loop-lists
invariant-loop-lists l =
    list_any (is_nullify l.bytes) (kept (sections_of l.lists-iterator)) ≡ list_any (is_nullify l.bytes) (kept (sections_of l.sections.entries))
