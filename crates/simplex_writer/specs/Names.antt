-- The words for what has a name.
use Rattle.std.specs.Prelude.{ℕ, Bool, true, false, List, codes}
use Rattle.simplex_values.specs.declared.policy.ForwardPolicy.{ForwardPolicy}
use Rattle.simplex_values.specs.declared.policy.ForwardPolicy.TheVariants as forwards

abbrev pub forward_name : ForwardPolicy → List ℕ
forward_name forwards.Disabled = codes "disabled"
forward_name forwards.SilentVoters = codes "voters"
forward_name forwards.SilentLeader = codes "leader"

abbrev pub flag_name : Bool → List ℕ
flag_name true = codes "true"
flag_name false = codes "false"
