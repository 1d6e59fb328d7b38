-- The members of a setup as a group.
use Rattle.simplex_types.specs.Keyed.{keyed_verifies}
use Rattle.simplex_transcript.specs.declared.setup.Setup.{Setup}
use Rattle.model_run.specs.Members.{members_of}
use Rattle.law_cluster.specs.Lives.{Group}

-- what the members of a setup know
abbrev pub group_of : Setup → Group
group_of setup =
    record {
      members = members_of setup;
      term = setup.term;
      epoch = setup.epoch;
      verifies = keyed_verifies setup.key_base (members_of setup);
    }
