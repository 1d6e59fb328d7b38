-- A replayed verdict.
use Rattle.std.proofs.Common.{◌≡◌, ℕ, Bool, true, false, List, [], ◌∷◌, ◌++◌, if◌then◌else◌}
use Rattle.simplex_values.specs.declared.timeout.TimeoutReason.TheVariants.{FailedCertification}
use Rattle.model_rules.specs.Known.{Made, Fact, Judged}
use Rattle.model_rules.specs.Deadline.{triggered}
use Rattle.model_rules.specs.Calls.{takes_verdict, judged}

pub judged_taken : (P : List Fact → Type 0) (made : Made) (known : List Fact) (view : ℕ) (good : Bool) (now : ℕ) → takes_verdict known view ≡ true
    → P (((if good then [] else triggered made known view FailedCertification now) ++ Judged view good now ∷ []) ++ known)
    → P (judged made known view good now ++ known)
unfolding judged
judged_taken P made known view good now e p = rw e p

pub judged_none : (P : List Fact → Type 0) (made : Made) (known : List Fact) (view : ℕ) (good : Bool) (now : ℕ) → takes_verdict known view ≡ false
    → P known → P (judged made known view good now ++ known)
unfolding judged
judged_none P made known view good now e p = rw e p
