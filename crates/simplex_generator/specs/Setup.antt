-- The setup that a number makes.
use Rattle.std.specs.Prelude.{ℕ, true, false, List, [], ◌∷◌, None}
use Rattle.simplex_values.specs.declared.policy.SkipPolicy.TheVariants as skip
use Rattle.simplex_values.specs.declared.policy.ForwardPolicy.TheVariants as forward
use Rattle.simplex_transcript.specs.declared.node.Node.{Node}
use Rattle.simplex_transcript.specs.declared.setup.Setup.{Setup}
use Rattle.simplex_transcript.specs.declared.setup.MemberKind.TheVariants as kinds
use Rattle.model_run.specs.Kinds.{node_of}

-- five honest members, one that nullifies and finalizes, and a twin without a script
unfoldable pub setup_of : ℕ → Setup
setup_of number = record {
  epoch = 0;
  key_base = number;
  members = kinds.Honest ∷ kinds.Honest ∷ kinds.Honest ∷ kinds.Honest ∷ kinds.Honest ∷ kinds.Nuller ∷ kinds.Twin ∷ [];
  term = 3;
  lookahead = 2;
  leader_timeout = 1000;
  certification_timeout = 2000;
  retry = 500;
  stall = None;
  retention = 10;
  skip = skip.Disabled;
  forward = forward.Disabled;
  mailbox = 64;
  track = false;
  handoff = true;
  fetch_timeout = 1000;
  fetch_retry = 100;
  scenario = [];
}

-- the twin's second half
abbrev pub twin_half : Node
twin_half = record { member = 6; half = 1 }

-- its nodes, and those of them that run an engine, in order
abbrev pub all_nodes : List Node
all_nodes = node_of 0 ∷ node_of 1 ∷ node_of 2 ∷ node_of 3 ∷ node_of 4 ∷ node_of 5 ∷ node_of 6 ∷ twin_half ∷ []

abbrev pub engine_nodes : List Node
engine_nodes = node_of 0 ∷ node_of 1 ∷ node_of 2 ∷ node_of 3 ∷ node_of 4 ∷ node_of 6 ∷ twin_half ∷ []
