-- A name for what a clause unfolds to compute a sample.
use Rattle.std.specs.Prelude.{⊤}
use Rattle.simplex_journal.specs.Journal.{appended, crashed, crashed_section, opened_section, replayed, synced_at, synced_section}

-- what a journal holds behind calls and a crash
unfoldable pub sections : ⊤
unfolding appended opened_section synced_at synced_section crashed crashed_section replayed
sections = tt
