-- The setup that suits most tries.
use Rattle.std.specs.Prelude.{List, [], None, false}
use Rattle.simplex_values.specs.declared.policy.SkipPolicy.TheVariants as skips
use Rattle.simplex_values.specs.declared.policy.ForwardPolicy.TheVariants as forwards
use Rattle.simplex_transcript.specs.declared.setup.MemberKind.{MemberKind}
use Rattle.simplex_transcript.specs.declared.setup.Setup.{Setup}

abbrev pub usual : List MemberKind → Setup
usual members =
    record {
      epoch = 0;
      key_base = 1;
      members = members;
      term = 1;
      lookahead = 0;
      leader_timeout = 1000;
      certification_timeout = 2000;
      retry = 500;
      stall = None;
      retention = 10;
      skip = skips.Disabled;
      forward = forwards.Disabled;
      mailbox = 16;
      track = false;
      handoff = false;
      fetch_timeout = 1000;
      fetch_retry = 100;
      scenario = [];
    }
