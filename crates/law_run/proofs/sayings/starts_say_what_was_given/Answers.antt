use Rattle.simplex_journal.specs.Journal.{replayed}
use Rattle.model_steps.specs.Voter.{started}
use Rattle.law_run.specs.Sayings.{Passes}
use Rattle.law_run.proofs.Telling.{started_says, said_at_start}
use Rattle.law_run.proofs.sayings.starts_say_what_was_given.Goals as goal

pub returns : goal.returns
returns c = λ good made now floor stop sections f r.
    said_at_start (Passes good) stop floor (started made now floor (replayed sections)) sections (started_says (Passes good) made now floor (replayed sections) f r)
