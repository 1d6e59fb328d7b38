-- The engine of a node: its scheme is wrapped as its member's kind wants it, and its elector follows the setup's
-- script.
use Rattle.std.specs.Prelude.{◌≡◌, true, List}
use Rattle.simplex_types.specs.declared.keyed.Keyed.{Keyed}
use Rattle.simplex_types.specs.Keyed.{keyed_attests, keyed_verifies}
use Rattle.simplex_journal.specs.Journal.{Section}
use Rattle.model_faults.specs.Wrapped.{wrapped_attests, wrapped_recovers}
use Rattle.simplex_mocks.specs.declared.wrapped.Scheme.{Scheme}
use Rattle.model_steps.specs.Engine.{EngineMade}
use Rattle.model_run.specs.Setting.{Setting}
use Rattle.simplex_engine.specs.declared.config.EngineConfig.{EngineConfig}
use Rattle.simplex_engine.specs.Config as configs
use Rattle.simplex_members.specs.Leading.{NodeElector, elects}

abbrev pub NodeScheme : Type 0
NodeScheme = Scheme Keyed

abbrev pub NodeConfig : Type 0
NodeConfig = EngineConfig NodeScheme NodeElector

-- the configuration is the setting's in all but the scheme, the elector and the floor
pub record IsSetUp (config : NodeConfig) (setting : Setting) : Type 0 where
  pub genesis : config.genesis ≡ setting.genesis
  pub epoch : config.epoch ≡ setting.setup.epoch
  pub leader_timeout : config.leader_timeout ≡ setting.setup.leader_timeout
  pub certification_timeout : config.certification_timeout ≡ setting.setup.certification_timeout
  pub retry : config.retry ≡ setting.setup.retry
  pub retention : config.retention ≡ setting.setup.retention
  pub skip : config.skip ≡ setting.setup.skip
  pub mailbox : config.mailbox ≡ setting.setup.mailbox
  pub fetch_timeout : config.fetch_timeout ≡ setting.setup.fetch_timeout
  pub fetch_retry : config.fetch_retry ≡ setting.setup.fetch_retry
  pub forward : config.forward ≡ setting.setup.forward
  pub track : config.track ≡ setting.setup.track
  pub handoff : config.handoff ≡ setting.setup.handoff

-- what the engine is made with, by its configuration and what its journal holds
abbrev pub made_with : NodeConfig → List Section → EngineMade
made_with config sections =
    configs.engine_made
    (λ s. wrapped_attests s.behavior (keyed_attests s.inner.key_base s.inner.me)
    (keyed_verifies s.inner.key_base s.inner.participants))
    (λ s. keyed_verifies s.inner.key_base s.inner.participants) (λ s. wrapped_recovers s.behavior true)
    (λ s. s.inner.participants)
    (λ s. s.inner.me) elects (λ e. e.fallback.terms) config sections
