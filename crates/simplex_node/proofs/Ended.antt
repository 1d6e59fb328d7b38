-- What follows from how a call of the engine ended.
use Rattle.std.proofs.Common.{◌≡◌, refl, true, false}
use Rattle.std.specs.Prelude.{OnOk, IsErrOf}
use Rattle.simplex_messages.specs.declared.step.Outcome.{Outcome}
use Rattle.simplex_messages.specs.declared.step.Outcome.TheVariants as outcomes
use Rattle.model_steps.specs.Engine.{is_whole}
use Rattle.simplex_node.specs.declared.error.NodeError.TheVariants as errors
use Rattle.simplex_node.specs.Node.{ended}

pub ended_well : {P : Type 0} (outcome : Outcome) → (is_whole outcome ≡ true → P) → OnOk (ended outcome) P
ended_well outcomes.Done p = p refl
ended_well outcomes.Idle p = p refl
ended_well outcomes.Refused p = p refl
ended_well outcomes.Journal p = tt
ended_well outcomes.Cut p = tt

pub ended_broken : {P : Type 0} (outcome : Outcome) → (is_whole outcome ≡ false → P) → IsErrOf (ended outcome) errors.Journal → P
ended_broken outcomes.Done p h = absurd (let e = h in cc)
ended_broken outcomes.Idle p h = absurd (let e = h in cc)
ended_broken outcomes.Refused p h = absurd (let e = h in cc)
ended_broken outcomes.Journal p h = p refl
ended_broken outcomes.Cut p h = p refl
