-- A name for what a clause unfolds to compute a sample.
use Rattle.std.specs.Prelude.{⊤}
use Rattle.model_log.specs.Computed.{logs}
use Rattle.law_log.specs.Logs.{logs_in}
use Rattle.law_log.specs.Reports.{reported}
use Rattle.model_epochs.specs.Chain.{chain_of, closing_payload}
use Rattle.model_epochs.specs.Epochs.{epochs_from, epochs_of}

-- what computes the runs of epochs, and chains
unfoldable pub epochs : ⊤
unfolding logs chain_of closing_payload epochs_from epochs_of logs_in reported
epochs = tt
