-- Which configurations an engine takes, and what it is made with.
use Rattle.std.specs.Prelude.{◌≡◌, ℕ, ◌^◌, ◌-◌, ◌&&◌, nat_lt, nat_le, Bool, true, not, List, Option, Some, None, unwrap_or, if◌then◌else◌}
use Rattle.simplex_values.specs.declared.proposal.Subject.{Subject}
use Rattle.simplex_values.specs.declared.round.Round.{Round}
use Rattle.simplex_values.specs.declared.terms.Terms.{Terms}
use Rattle.simplex_values.specs.declared.policy.SkipPolicy.{SkipPolicy}
use Rattle.simplex_values.specs.declared.policy.SkipPolicy.TheVariants as skip
use Rattle.simplex_values.specs.Policy.{budget_of}
use Rattle.simplex_wire.specs.declared.attestation.Attestation.{Attestation}
use Rattle.simplex_types.specs.declared.floor.Floor.{Floor}
use Rattle.simplex_types.specs.declared.floor.Floor.TheVariants as floors
use Rattle.simplex_round.specs.Assembly.{as_scheme}
use Rattle.simplex_journal.specs.Journal.{Section}
use Rattle.model_steps.specs.Engine.{EngineMade}
use Rattle.simplex_engine.specs.declared.config.EngineConfig.{EngineConfig}
use Rattle.simplex_engine.specs.declared.config.EngineField.{EngineField}
use Rattle.simplex_engine.specs.declared.config.EngineField.TheVariants as fields
use Rattle.simplex_engine.specs.declared.error.NewError.{NewError}
use Rattle.simplex_engine.specs.declared.error.NewError.TheVariants as errors

-- how many views inactivity may skip without finality, among so many members
abbrev pub budget : ℕ → SkipPolicy → ℕ
budget members skip.Disabled = 0
budget members (skip.Enabled timeout views) = budget_of views members

-- the view of a floor
abbrev pub view_at : Floor → ℕ
view_at (floors.Genesis payload) = 0
view_at (floors.Finalized f) = f.proposal.round.view

-- 1 to 2^62 milliseconds
abbrev pub is_time : ℕ → Bool
is_time ms = nat_lt 0 ms && nat_le ms (2 ^ 62)

-- the timeout of inactivity, where there is one
abbrev pub is_skip : SkipPolicy → Bool
is_skip skip.Disabled = true
is_skip (skip.Enabled timeout views) = is_time timeout

module _ {S L : Type 0} where
  -- what a configuration makes of an engine, over what its journal holds
  unfoldable pub engine_made : (S → Subject → Option Attestation) → (S → Subject → Attestation → Bool) → (S → Bool) → (S → ℕ) → (S → Option ℕ)
      → (L → Round → ℕ) → (L → Terms) → EngineConfig S L → List Section → EngineMade
  engine_made attests verifies recovers members member elects cuts config sections =
      record {
        voter = λ start. record {
          rules = record {
            signs = attests config.scheme;
            me = member config.scheme;
            elects = elects config.elector;
            epoch = config.epoch;
            genesis = config.genesis;
            term_length = (cuts config.elector).length;
            lookahead = (cuts config.elector).lookahead;
            stall_timeout = (cuts config.elector).stall_timeout;
            leader_timeout = config.leader_timeout;
            certification_timeout = config.certification_timeout;
            timeout_retry = config.retry;
            skip_budget = budget (members config.scheme) config.skip;
            retention = config.retention;
            handoff = config.handoff;
            start = start;
          };
          floor = config.floor;
          sections = sections;
        };
        batcher = record {
          scheme = as_scheme (verifies config.scheme) (recovers config.scheme) (members config.scheme);
          me = member config.scheme;
          members = members config.scheme;
          epoch = config.epoch;
          floor = view_at config.floor;
          retention = config.retention;
          lookahead = record { length = (cuts config.elector).length; views = (cuts config.elector).lookahead };
          track = config.track;
          skip = config.skip;
          forward = config.forward;
        };
        resolver = record {
          verifies = verifies config.scheme;
          members = members config.scheme;
          epoch = config.epoch;
          term = (cuts config.elector).length;
          handler_size = config.mailbox;
          fetching = record {
            me = unwrap_or (member config.scheme) 0;
            n = members config.scheme;
            fetch_timeout = config.fetch_timeout;
            fetch_retry_delay = config.fetch_retry;
          };
        };
        capacity = config.mailbox;
      }

  -- the first item that breaks its limit. A leader timeout above the certification timeout is the leader timeout's fault
  unfoldable pub first_bad : EngineConfig S L → Option EngineField
  first_bad config =
      if nat_lt (2 ^ 64 - 2) config.epoch then Some fields.Epoch
      else if not (is_time config.leader_timeout && nat_le config.leader_timeout config.certification_timeout) then Some fields.LeaderTimeout
      else if not (is_time config.certification_timeout) then Some fields.CertificationTimeout
      else if not (is_time config.retry) then Some fields.Retry
      else if not (nat_lt 0 config.retention && nat_le config.retention (2 ^ 32)) then Some fields.Retention
      else if not (is_skip config.skip) then Some fields.Skip
      else if not (nat_lt 0 config.mailbox && nat_le config.mailbox 4096) then Some fields.Mailbox
      else if not (is_time config.fetch_timeout) then Some fields.FetchTimeout
      else if not (nat_le config.fetch_retry (2 ^ 62)) then Some fields.FetchRetry
      else None

-- why no engine is made: the first item that breaks its limit, or want of memory where there is none
abbrev pub Refused : NewError → Option EngineField → Type 0
Refused (errors.BadConfig field) bad = bad ≡ Some field
Refused errors.Memory bad = bad ≡ None
