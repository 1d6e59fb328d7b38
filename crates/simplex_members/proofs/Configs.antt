-- The configurations that a setup makes none of whose items breaks its limit.
use Rattle.std.proofs.Common.{◌≡◌, ℕ, List, Bool, true, false, arith, refl, length, ◌<◌, ◌≤◌, ◌-◌, ◌^◌}
use Rattle.std.specs.Prelude.{◌&&◌, nat_lt, nat_le, Some, None, IsNone, IfSome}
use Rattle.std.proofs.lemmas.Grind.{common_steps}
use Rattle.simplex_values.specs.declared.policy.SkipPolicy.{SkipPolicy}
use Rattle.simplex_values.specs.declared.policy.SkipPolicy.TheVariants as skip
use Rattle.simplex_transcript.specs.declared.setup.Setup.{Setup}
use Rattle.model_run.specs.Setting.{Setting}
use Rattle.model_run.specs.Setups as setups
use Rattle.model_run.specs.Setups.{first_bad, is_within}
use Rattle.model_run.specs.Twins.{elected}
use Rattle.model_run.specs.Wrapped.{behavior_of}
use Rattle.model_run.specs.Members.{kind_of, engine_of, rules_of, batcher_of, resolver_of, skip_budget, view_at}
use Rattle.simplex_types.specs.declared.floor.Floor.{Floor}
use Rattle.simplex_types.specs.declared.floor.Floor.TheVariants as floors
use Rattle.simplex_journal.specs.Journal.{Section}
use Rattle.simplex_engine.specs.Config as configs
use Rattle.simplex_engine.specs.Config.{is_time, is_skip, engine_made}
use Rattle.simplex_members.specs.Leading.{elects, terms_in}
use Rattle.simplex_members.specs.NodeEngine.{NodeConfig, made_with, IsSetUp}
use Rattle.simplex_members.proofs.Good.{good-values, good-stall, good-lookahead}

-- ---- the tests of an engine's configuration

pub within-is : (b value : ℕ) → is_within 1 b value ≡ true → (nat_lt 0 value && nat_le value b) ≡ true
within-is b value e = grind (arith, common_steps)

pub time-is : (ms : ℕ) → setups.is_time ms ≡ true → is_time ms ≡ true
time-is ms e = within-is (2 ^ 62) ms e

pub epoch-is : (epoch : ℕ) → nat_le epoch (2 ^ 64 - 2) ≡ true → nat_lt (2 ^ 64 - 2) epoch ≡ false
epoch-is epoch e = grind (arith, common_steps)

both : (a b c : Bool) → (a ≡ true → c ≡ true) → (a && b) ≡ true → (c && b) ≡ true
both true true c to e = rw (to refl) refl
both true false c to e = absurd (cc)
both false b c to e = absurd (cc)

pub leader-is : (leader certification : ℕ) → (setups.is_time leader && nat_le leader certification) ≡ true → (is_time leader && nat_le leader certification) ≡ true
leader-is leader certification e = both (setups.is_time leader) (nat_le leader certification) (is_time leader) (time-is leader) e

pub skip-is : (policy : SkipPolicy) → setups.is_skip policy ≡ true → is_skip policy ≡ true
skip-is skip.Disabled e = refl
skip-is (skip.Enabled timeout views) e = time-is timeout e

-- ---- an engine that is set up so

pub setup-allowed : (config : NodeConfig) (setting : Setting) → IsNone (first_bad setting.setup) → IsSetUp config setting → configs.first_bad config ≡ None
unfolding configs.first_bad
setup-allowed config setting good is =
    let g = good-values setting.setup good in
    rw (is.epoch, is.leader_timeout, is.certification_timeout, is.retry, is.retention, is.skip, is.mailbox, is.fetch_timeout, is.fetch_retry)
    (rw (epoch-is setting.setup.epoch g.epoch) (rw (leader-is setting.setup.leader_timeout setting.setup.certification_timeout g.leader)
    (rw (time-is setting.setup.certification_timeout g.certification) (rw (time-is setting.setup.retry g.retry) (rw (within-is (2 ^ 32) setting.setup.retention g.retention)
    (rw (skip-is setting.setup.skip g.skip) (rw (within-is 4096 setting.setup.mailbox g.mailbox) (rw (time-is setting.setup.fetch_timeout g.fetch_timeout) (rw g.fetch_retry refl)))))))))

pub setup-stall : (config : NodeConfig) (setting : Setting) → IsNone (first_bad setting.setup) → IsSetUp config setting → config.elector.fallback.terms ≡ terms_in setting.setup
    → IfSome config.elector.fallback.terms.stall_timeout (λ stall. (config.certification_timeout < stall) × (stall ≤ 2 ^ 62))
setup-stall config setting good is terms = rw (terms, is.certification_timeout) (good-stall setting.setup good)

pub setup-lookahead : (config : NodeConfig) (setting : Setting) → IsNone (first_bad setting.setup) → config.elector.fallback.terms ≡ terms_in setting.setup
    → config.elector.fallback.terms.lookahead ≤ 2 ^ 32
setup-lookahead config setting good terms = rw terms (good-lookahead setting.setup good)

budget_same : (setup : Setup) (policy : SkipPolicy) → configs.budget (length setup.members) policy ≡ skip_budget setup policy
budget_same setup skip.Disabled = refl
budget_same setup (skip.Enabled timeout views) = refl

view_same : (floor : Floor) → configs.view_at floor ≡ view_at floor
view_same (floors.Genesis payload) = refl
view_same (floors.Finalized f) = refl

pub setup-made : (config : NodeConfig) (setting : Setting) (member : ℕ) (floor : Floor) (sections : List Section) → IsSetUp config setting
    → config.floor ≡ floor → config.elector.fallback.terms ≡ terms_in setting.setup → elects config.elector ≡ elected setting.setup
    → config.scheme.behavior ≡ behavior_of (kind_of setting.setup member) → config.scheme.inner.key_base ≡ setting.setup.key_base
    → config.scheme.inner.participants ≡ length setting.setup.members → config.scheme.inner.me ≡ Some member
    → made_with config sections ≡ engine_of setting member floor sections
unfolding engine_made engine_of rules_of batcher_of resolver_of
setup-made config setting member floor sections is at terms leaders behavior base count me =
    rw (
      leaders,
      is.epoch,
      is.leader_timeout,
      is.certification_timeout,
      is.retry,
      is.retention,
      is.skip,
      is.mailbox,
      is.fetch_timeout,
      is.fetch_retry,
      is.forward,
      is.track,
      is.handoff,
      is.genesis,
      terms,
      at,
      behavior,
      base,
      count,
      me,
    ) (rw (budget_same setting.setup setting.setup.skip, view_same floor) refl)
