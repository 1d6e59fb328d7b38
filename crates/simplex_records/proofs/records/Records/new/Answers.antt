use Rattle.std.proofs.Common.{refl}
use Rattle.model_run.specs.Entries.{was_reported}
use Rattle.simplex_records.proofs.KeptPackets.{no-packets}
use Rattle.simplex_records.proofs.records.Records.new.Goals as goal

pub returns-clause-stands : goal.returns-clause-stands
unfolding was_reported
returns-clause-stands c =
    record {
      count = rw c.new.ensures.items refl;
      packets = λ at. rw c.new.ensures.items (no-packets at);
      desks = c.in_ok-blank_desks.ensures.stands;
      reported = λ f. c.new-2.ensures f;
      votes = c.in_ok-blank_votes.ensures;
    }
