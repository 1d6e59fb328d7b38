-- What a journal holds behind a step, by the calls that a record tells and by how the step ended.
use Rattle.std.specs.Prelude.{◌-◌, List}
use Rattle.std.specs.Option.{option_map_or}
use Rattle.simplex_journal.specs.Journal.{Section, crashed}
use Rattle.simplex_messages.specs.declared.call.Call.{Call}
use Rattle.simplex_messages.specs.declared.step.Outcome.{Outcome}
use Rattle.simplex_messages.specs.declared.step.Outcome.TheVariants as outcomes
use Rattle.simplex_messages.specs.declared.step.Stop.{Stop}
use Rattle.simplex_messages.specs.declared.step.Stop.TheVariants as stops
use Rattle.model_steps.specs.Performed.{stop_place, kept_by, failing_at, after_calls}

-- the stop of a start, whose first call reads the journal
abbrev pub behind_reading : Stop → Stop
behind_reading (stops.Fail call keep) = stops.Fail (call - 1) keep
behind_reading stop = stop

-- what the call that failed leaves, by those that the rules make
abbrev pub after_failure : Stop → List Call → List Section → List Section
after_failure stop ruled sections = option_map_or (λ place. failing_at stop ruled place sections) (stop_place stop ruled) sections

-- what the calls that were made leave, then the one that failed, and then the stop
unfoldable pub sections_behind : Outcome → Stop → List Call → List Call → List Section → List Section
sections_behind outcomes.Cut stop ruled made sections = crashed (kept_by stop) (after_calls made sections)
sections_behind outcomes.Journal stop ruled made sections = crashed (kept_by stop) (after_failure stop ruled (after_calls made sections))
sections_behind _ stop ruled made sections = after_calls made sections
