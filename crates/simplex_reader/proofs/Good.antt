-- What a setup says none of whose items breaks its limit.
use Rattle.std.proofs.Common.{◌≡◌, ℕ, ◌<◌, ◌≤◌, ◌-◌, ◌^◌, Bool, true, false, Option, Some, refl, arith, length, if◌then◌else◌}
use Rattle.std.specs.Prelude.{◌&&◌, not, nat_le, IsNone}
use Rattle.std.proofs.lemmas.Grind.{common_steps}
use Rattle.simplex_transcript.specs.declared.field.Field.{Field}
use Rattle.simplex_transcript.specs.declared.setup.Setup.{Setup}
use Rattle.model_run.specs.Setups as setups
use Rattle.model_run.specs.Setups.{first_bad, is_within, most_members, is_stall}

record GoodValues (setup : Setup) : Type 0 where
  members : is_within 1 (most_members setup) (length setup.members) ≡ true
  epoch : nat_le setup.epoch (2 ^ 64 - 2) ≡ true
  term : is_within 1 (2 ^ 32) setup.term ≡ true
  lookahead : nat_le setup.lookahead (2 ^ 32) ≡ true
  leader : (setups.is_time setup.leader_timeout && nat_le setup.leader_timeout setup.certification_timeout) ≡ true
  certification : setups.is_time setup.certification_timeout ≡ true
  retry : setups.is_time setup.retry ≡ true
  stall : is_stall setup.certification_timeout setup.stall ≡ true
  retention : is_within 1 (2 ^ 32) setup.retention ≡ true

-- a test that was passed, and the tests behind it
passed : (b : Bool) (field : Field) (next : Option Field) → IsNone (if not b then Some field else next) → (b ≡ true) × IsNone next
passed true field next e = (refl, e)
passed false field next e = absurd (cc)

past : (b : Bool) (field : Field) (next : Option Field) → IsNone (if b then Some field else next) → IsNone next
past true field next e = absurd (cc)
past false field next e = e

good-values : (setup : Setup) → IsNone (first_bad setup) → GoodValues setup
unfolding first_bad
good-values setup good =
    let m = passed _ _ _ good in
    let e = passed _ _ _ (past _ _ _ m.1) in
    let t = passed _ _ _ e.1 in
    let k = passed _ _ _ t.1 in
    let l = passed _ _ _ k.1 in
    let c = passed _ _ _ l.1 in
    let r = passed _ _ _ c.1 in
    let s = passed _ _ _ r.1 in
    let v = passed _ _ _ s.1 in
    record { members = m.0; epoch = e.0; term = t.0; lookahead = k.0; leader = l.0; certification = c.0; retry = r.0; stall = s.0; retention = v.0 }

at_least : (value : ℕ) → is_within 1 (2 ^ 32) value ≡ true → 0 < value
at_least value e = grind (arith, common_steps)

at_most : (value : ℕ) → is_within 1 (2 ^ 32) value ≡ true → value ≤ 2 ^ 32
at_most value e = grind (arith, common_steps)

below : (a b : ℕ) → nat_le a b ≡ true → a ≤ b
below a b e = grind (arith, common_steps)

pub good-term : (setup : Setup) → IsNone (first_bad setup) → 0 < setup.term
good-term setup good = at_least setup.term (good-values setup good).term

pub good-terms : (setup : Setup) → IsNone (first_bad setup) → setup.term ≤ 2 ^ 32
good-terms setup good = at_most setup.term (good-values setup good).term

pub good-epoch : (setup : Setup) → IsNone (first_bad setup) → setup.epoch ≤ 2 ^ 64 - 2
good-epoch setup good = below setup.epoch (2 ^ 64 - 2) (good-values setup good).epoch

pub good-retention : (setup : Setup) → IsNone (first_bad setup) → setup.retention ≤ 2 ^ 32
good-retention setup good = at_most setup.retention (good-values setup good).retention

pub ruleset good = (good-term, good-terms, good-epoch, good-retention)
