-- A whole run, as it was made.
use Rattle.std.proofs.Common.{◌≡◌, List, [], Ok}
use Rattle.simplex_transcript.specs.declared.event.Event.{Event}
use Rattle.simplex_transcript.specs.declared.setup.Setup.{Setup}
use Rattle.model_run.specs.Setting.{at_epoch_genesis}
use Rattle.model_run.specs.Run.{Run, run}
use Rattle.law_run.specs.Complete.{IsOneEach}
use Rattle.law_run.specs.Limits.{KeepsTheLimit}
use Rattle.law_run.specs.OneChain.{ReportOneChain}
use Rattle.law_run.specs.Safe.{RunsSafely}
use Rattle.law_run.specs.Sayings.{Each}
use Rattle.simplex_run.specs.declared.run.Transcript.{Transcript}
use Rattle.simplex_network.specs.Stands.{MadeBy}
use Rattle.simplex_run.specs.WholeRuns.{WholeRunFrom}

-- a whole run, as it was made
pub made_whole : (setup : Setup) (events : List Event) (made : Transcript)
    → Run setup events ≡ Ok made.entries → IsOneEach made.entries events → MadeBy made.network (at_epoch_genesis setup) (run (at_epoch_genesis setup) [] events)
    → RunsSafely (at_epoch_genesis setup) events → ReportOneChain made.entries → Each (KeepsTheLimit setup) made.entries
    → WholeRunFrom (at_epoch_genesis setup) events made
made_whole setup events made entries each network safe one_chain limit =
    record { entries = entries; each = each; network = network; safe = safe; one_chain = one_chain; limit = limit }
