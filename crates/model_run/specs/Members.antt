-- What a node's engine is made with, by the setting.
use Rattle.std.specs.Prelude.{ℕ, List, slice_get, unwrap_or, Option, Some, None}
use Rattle.simplex_values.specs.declared.policy.SkipPolicy.{SkipPolicy}
use Rattle.simplex_values.specs.declared.policy.SkipPolicy.TheVariants as skip
use Rattle.simplex_values.specs.Policy.{budget_of}
use Rattle.simplex_wire.specs.declared.certificate.Finalization.{Finalization}
use Rattle.simplex_types.specs.declared.floor.Floor.{Floor}
use Rattle.simplex_types.specs.declared.floor.Floor.TheVariants as floors
use Rattle.simplex_types.specs.Keyed.{keyed_attests, keyed_verifies}
use Rattle.model_rules.specs.Known.{Made}
use Rattle.simplex_round.specs.Assembly.{as_scheme}
use Rattle.simplex_journal.specs.Journal.{Section}
use Rattle.simplex_transcript.specs.declared.setup.Setup.{Setup}
use Rattle.simplex_transcript.specs.declared.setup.MemberKind.{MemberKind}
use Rattle.simplex_transcript.specs.declared.setup.MemberKind.TheVariants as kinds
use Rattle.model_steps.specs.Batcher as batcher
use Rattle.model_steps.specs.Engine.{EngineMade}
use Rattle.model_resolver.specs.Resolver as resolver
use Rattle.model_run.specs.Setting.{Setting}
pub use Rattle.model_run.specs.Kinds.{members_of, is_node, is_same_node}
use Rattle.model_run.specs.Twins.{elected}
use Rattle.model_run.specs.Wrapped.{wrapped_attests, wrapped_recovers}

-- the member's kind; behind the last member it is honest
abbrev pub kind_of : Setup → ℕ → MemberKind
kind_of setup member = unwrap_or (slice_get setup.members member) kinds.Honest

-- where a start stands: at a finalization, or at genesis
abbrev pub floor_of : List ℕ → Option Finalization → Floor
floor_of genesis None = floors.Genesis genesis
floor_of genesis (Some f) = floors.Finalized f

abbrev pub view_at : Floor → ℕ
view_at (floors.Genesis payload) = 0
view_at (floors.Finalized f) = f.proposal.round.view

-- how many views may be skipped in a row
abbrev pub skip_budget : Setup → SkipPolicy → ℕ
skip_budget setup skip.Disabled = 0
skip_budget setup (skip.Enabled timeout budget) = budget_of budget (members_of setup)

-- the rules of a member that starts at this clock
unfoldable pub rules_of : Setting → ℕ → ℕ → Made
rules_of setting member start =
    record {
      signs = wrapped_attests (kind_of setting.setup member) (keyed_attests setting.setup.key_base (Some member))
          (keyed_verifies setting.setup.key_base (members_of setting.setup));
      me = Some member;
      elects = elected setting.setup;
      epoch = setting.setup.epoch;
      genesis = setting.genesis;
      term_length = setting.setup.term;
      lookahead = setting.setup.lookahead;
      stall_timeout = setting.setup.stall;
      leader_timeout = setting.setup.leader_timeout;
      certification_timeout = setting.setup.certification_timeout;
      timeout_retry = setting.setup.retry;
      skip_budget = skip_budget setting.setup setting.setup.skip;
      retention = setting.setup.retention;
      handoff = setting.setup.handoff;
      start = start;
    }

unfoldable pub batcher_of : Setup → ℕ → Floor → batcher.Made
batcher_of setup member floor =
    record {
      scheme = as_scheme (keyed_verifies setup.key_base (members_of setup))
          (wrapped_recovers (kind_of setup member)) (members_of setup);
      me = Some member;
      members = members_of setup;
      epoch = setup.epoch;
      floor = view_at floor;
      retention = setup.retention;
      lookahead = record { length = setup.term; views = setup.lookahead };
      track = setup.track;
      skip = setup.skip;
      forward = setup.forward;
    }

unfoldable pub resolver_of : Setup → ℕ → resolver.Made
resolver_of setup member =
    record {
      verifies = keyed_verifies setup.key_base (members_of setup);
      members = members_of setup;
      epoch = setup.epoch;
      term = setup.term;
      handler_size = setup.mailbox;
      fetching = record {
        me = member;
        n = members_of setup;
        fetch_timeout = setup.fetch_timeout;
        fetch_retry_delay = setup.fetch_retry;
      };
    }

-- the engine of a node that starts at this floor, over what its journal holds
unfoldable pub engine_of : Setting → ℕ → Floor → List Section → EngineMade
engine_of setting member floor sections =
    record {
      voter = λ start. record { rules = rules_of setting member start; floor = floor; sections = sections };
      batcher = batcher_of setting.setup member floor;
      resolver = resolver_of setting.setup member;
      capacity = setting.setup.mailbox;
    }
