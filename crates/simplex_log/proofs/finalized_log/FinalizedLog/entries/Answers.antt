use Rattle.std.proofs.Common.{ap, ◌∙◌}
use Rattle.model_log.specs.Links.{links_of}
use Rattle.model_log.specs.Log.{log_of}
use Rattle.simplex_log.specs.Kept.{log_to}
use Rattle.simplex_log.specs.Stands.{StandsFor}
use Rattle.simplex_log.proofs.finalized_log.FinalizedLog.entries.Goals as goal

pub returns : goal.returns
unfolding StandsFor log_of log_to
returns g c = λ verifies taken stands.
    let finals = (stands.1).finals_are in
    c.as_slice.ensures.value ∙ finals.entries_are ∙ ap (log_to (links_of verifies taken)) finals.tip_is
