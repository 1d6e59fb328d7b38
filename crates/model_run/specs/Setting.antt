-- What a run is made from: a setup, and the digest that is the payload of view 0.
use Rattle.std.specs.Prelude.{ℕ, List}
use Rattle.simplex_types.specs.Genesis.{genesis_of}
use Rattle.simplex_transcript.specs.declared.setup.Setup.{Setup}

pub record Setting : Type 0 where
  pub setup : Setup
  pub genesis : List ℕ

abbrev pub setting_of : Setup → List ℕ → Setting
setting_of setup genesis = record { setup = setup; genesis = genesis }

-- the epoch's own digest is the payload of view 0
abbrev pub at_epoch_genesis : Setup → Setting
at_epoch_genesis setup = setting_of setup (genesis_of setup.epoch)
