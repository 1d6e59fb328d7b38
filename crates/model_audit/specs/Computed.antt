-- A name for what a clause unfolds to compute a sample.
use Rattle.std.specs.Prelude.{⊤}
use Rattle.model_audit.specs.Audit.{audited, fault_in, judged_from}
use Rattle.model_audit.specs.Conditions.{is_allowed}
use Rattle.model_audit.specs.Conflicts.{all_standing, has_conflict, standing_good}
use Rattle.model_audit.specs.Fitting.{fits}
use Rattle.model_audit.specs.Order.{are_in_order}
use Rattle.model_audit.specs.Reading.{read}
use Rattle.model_audit.specs.Rebuilt.{rebuilt_entry}
use Rattle.model_audit.specs.Record.{record_entry, record_of}
use Rattle.model_audit.specs.Running.{runs_at}
use Rattle.model_audit.specs.VotesDue.{sends_due}
use Rattle.model_run.specs.Forged.{first_forged}
use Rattle.model_run.specs.Life.{clock_of}
use Rattle.model_run.specs.Setups.{first_bad}

-- the record of a run, and the verdict on a record
unfoldable pub verdicts : ⊤
unfolding record_of record_entry rebuilt_entry runs_at read fits is_allowed are_in_order sends_due standing_good all_standing has_conflict fault_in judged_from audited clock_of first_bad first_forged
verdicts = tt
