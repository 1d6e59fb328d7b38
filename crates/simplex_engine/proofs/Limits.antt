-- What a configuration that keeps the limits keeps.
use Rattle.std.proofs.Common.{◌≡◌, ◌≤◌, ◌<◌, ◌-◌, ◌^◌, arith, ℕ, None}
use Rattle.std.specs.Prelude.{IfSome}
use Rattle.simplex_values.specs.declared.terms.Terms.{Terms}
use Rattle.simplex_state.specs.Stands.{IsConfigured}
use Rattle.simplex_voter.specs.Actor.{state_config}
use Rattle.simplex_engine.specs.declared.config.EngineConfig.{EngineConfig}
use Rattle.simplex_engine.specs.Config.{first_bad}
use Rattle.simplex_engine.specs.Made.{voter_config}

pub record KeepsLimits {S L : Type 0} (config : EngineConfig S L) : Type 0 where
  pub epoch : config.epoch ≤ 2 ^ 64 - 2
  pub some_leader_timeout : 0 < config.leader_timeout
  pub leader_timeout : config.leader_timeout ≤ config.certification_timeout
  pub certification_timeout : config.certification_timeout ≤ 2 ^ 62
  pub some_retry : 0 < config.retry
  pub retry : config.retry ≤ 2 ^ 62
  pub some_retention : 0 < config.retention
  pub retention : config.retention ≤ 2 ^ 32
  pub some_mailbox : 0 < config.mailbox
  pub fetch_timeout : config.fetch_timeout ≤ 2 ^ 62
  pub fetch_retry : config.fetch_retry ≤ 2 ^ 62

pub keeps-limits : {S L : Type 0} (config : EngineConfig S L) → first_bad config ≡ None → KeepsLimits config
unfolding first_bad
keeps-limits config good = record {
  epoch = grind (arith, good);
  some_leader_timeout = grind (arith, good);
  leader_timeout = grind (arith, good);
  certification_timeout = grind (arith, good);
  some_retry = grind (arith, good);
  retry = grind (arith, good);
  some_retention = grind (arith, good);
  retention = grind (arith, good);
  some_mailbox = grind (arith, good);
  fetch_timeout = grind (arith, good);
  fetch_retry = grind (arith, good);
}

-- what the state asks for
pub keeps-configured : {S L : Type 0} (members : S → ℕ) (built_for : L → ℕ) (cuts : L → Terms) (config : EngineConfig S L) → first_bad config ≡ None
    → built_for config.elector ≡ members config.scheme → (cuts config.elector).lookahead ≤ 2 ^ 32
    → IfSome (cuts config.elector).stall_timeout (λ stall. (config.certification_timeout < stall) × (stall ≤ 2 ^ 62))
    → IsConfigured members built_for cuts (state_config (voter_config members config))
keeps-configured members built_for cuts config good built lookahead stall =
    let keeps = keeps-limits config good in
    record {
      built = built;
      epoch = keeps.epoch;
      lookahead = lookahead;
      some_retention = keeps.some_retention;
      retention = keeps.retention;
      some_leader_timeout = keeps.some_leader_timeout;
      leader_timeout = keeps.leader_timeout;
      certification_timeout = keeps.certification_timeout;
      some_retry = keeps.some_retry;
      timeout_retry = keeps.retry;
      stall_timeout = stall;
    }
