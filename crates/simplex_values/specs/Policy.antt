-- Skipping and forwarding.
use Rattle.std.specs.Prelude.{ℕ, Bool, true, false}
use Rattle.simplex_values.specs.declared.policy.SkipBudget.{SkipBudget}
use Rattle.simplex_values.specs.declared.policy.SkipBudget.TheVariants.{Fixed, Participants}
use Rattle.simplex_values.specs.declared.policy.ForwardPolicy.{ForwardPolicy}
use Rattle.simplex_values.specs.declared.policy.ForwardPolicy.TheVariants.{Disabled, SilentVoters, SilentLeader}

-- how many views may be skipped, of n members
abbrev pub budget_of : SkipBudget → ℕ → ℕ
budget_of (Fixed views) n = views
budget_of Participants n = n

abbrev pub is_enabled : ForwardPolicy → Bool
is_enabled Disabled = false
is_enabled SilentVoters = true
is_enabled SilentLeader = true
