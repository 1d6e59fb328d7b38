-- What a whole run means.
use Rattle.std.specs.Prelude.{◌≡◌, List, [], Ok}
use Rattle.simplex_transcript.specs.declared.event.Event.{Event}
use Rattle.model_run.specs.Setting.{Setting}
use Rattle.model_run.specs.Run.{RunFrom, run}
use Rattle.law_run.specs.Complete.{IsOneEach}
use Rattle.law_run.specs.Limits.{KeepsTheLimit}
use Rattle.law_run.specs.OneChain.{ReportOneChain}
use Rattle.law_run.specs.Safe.{RunsSafely}
use Rattle.law_run.specs.Sayings.{Each}
use Rattle.simplex_run.specs.declared.run.Transcript.{Transcript}
use Rattle.simplex_network.specs.Stands.{MadeBy}

-- The run of the events has the transcript's entries, one for each event, and its network, and it is safe: each
-- certificate that stands in it is backed, no two of them conflict, each vote was stored before it went out, and the
-- votes are those that the rules give. What is reported as final is of one chain, and no packet of an honest member is
-- too long
pub record WholeRunFrom (setting : Setting) (events : List Event) (transcript : Transcript) : Type 0 where
  pub entries : RunFrom setting events ≡ Ok transcript.entries
  pub each : IsOneEach transcript.entries events
  pub network : MadeBy transcript.network setting (run setting [] events)
  pub safe : RunsSafely setting events
  pub one_chain : ReportOneChain transcript.entries
  pub limit : Each (KeepsTheLimit setting.setup) transcript.entries
