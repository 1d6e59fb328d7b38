-- A run of members of whom few are faulty.
use Rattle.std.specs.Prelude.{◌^◌, ◌<◌, ◌≤◌, List, length}
use Rattle.simplex_values.specs.Quorum.{max_faulty}
use Rattle.simplex_transcript.specs.declared.setup.Setup.{Setup}
use Rattle.model_run.specs.Setting.{Setting}
use Rattle.model_run.specs.Life.{Noted}
use Rattle.model_run.specs.Members.{members_of}
use Rattle.law_run.specs.Faulty.{faulty_of}
use Rattle.law_run.specs.Histories.{IsRun}
use Rattle.law_run.specs.Fitting.{AreTyped}

-- There are members, of whom few are faulty; the entries are those of a run, and their values keep to their types
pub record IsMostlyHonest (setting : Setting) (noted : List Noted) : Type 0 where
  pub some : 0 < members_of setting.setup
  pub not_many : members_of setting.setup < 2 ^ 16
  pub term : 0 < setting.setup.term
  pub epoch : setting.setup.epoch < 2 ^ 64
  pub few : length (faulty_of setting.setup) ≤ max_faulty (members_of setting.setup)
  pub ran : IsRun setting noted
  pub typed : AreTyped noted

-- a setup with members, of whom few are faulty, and with views to a term
pub record HasFewFaulty (setup : Setup) : Type 0 where
  pub some : 0 < members_of setup
  pub term : 0 < setup.term
  pub few : length (faulty_of setup) ≤ max_faulty (members_of setup)
