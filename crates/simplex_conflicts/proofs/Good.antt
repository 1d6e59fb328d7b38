-- What a setup says none of whose items breaks its limit.
use Rattle.std.proofs.Common.{◌≡◌, ℕ, Bool, true, false, arith, refl, length, ◌<◌, ◌≤◌, ◌-◌, ◌^◌, if◌then◌else◌}
use Rattle.std.specs.Prelude.{not, nat_le, Option, Some, IsNone}
use Rattle.std.proofs.lemmas.Grind.{common_steps}
use Rattle.simplex_transcript.specs.declared.field.Field.{Field}
use Rattle.simplex_transcript.specs.declared.setup.Setup.{Setup}
use Rattle.model_run.specs.Setups.{first_bad, is_within, most_members}

-- a test that was passed, and the tests behind it
passed : (b : Bool) (field : Field) (next : Option Field) → IsNone (if not b then Some field else next) → (b ≡ true) × IsNone next
passed true field next e = (refl, e)
passed false field next e = absurd (cc)

past : (b : Bool) (field : Field) (next : Option Field) → IsNone (if b then Some field else next) → IsNone next
past true field next e = absurd (cc)
past false field next e = e

within : (a b value : ℕ) → is_within a b value ≡ true → (a ≤ value) × (value ≤ b)
within a b value e = (grind (arith, common_steps), grind (arith, common_steps))

few : (b : Bool) (n : ℕ) → is_within 1 (if b then 256 else 64) n ≡ true → n < 2 ^ 32
few true n e = let le = (within 1 256 n e).1 in omega arith
few false n e = let le = (within 1 64 n e).1 in omega arith

good-parts : (setup : Setup) → IsNone (first_bad setup) → (is_within 1 (most_members setup) (length setup.members) ≡ true)
    × (nat_le setup.epoch (2 ^ 64 - 2) ≡ true) × (is_within 1 (2 ^ 32) setup.term ≡ true)
unfolding first_bad
good-parts setup good =
    let members = passed _ _ _ good in
    let epoch = passed _ _ _ (past _ _ _ members.1) in
    let term = passed _ _ _ epoch.1 in
    (members.0, epoch.0, term.0)

pub good-some : (setup : Setup) → IsNone (first_bad setup) → 0 < length setup.members
good-some setup good = let le = (within 1 (most_members setup) (length setup.members) (good-parts setup good).0).0 in omega arith

pub good-few : (setup : Setup) → IsNone (first_bad setup) → length setup.members < 2 ^ 32
good-few setup good = few _ (length setup.members) (good-parts setup good).0

pub good-term : (setup : Setup) → IsNone (first_bad setup) → 0 < setup.term
good-term setup good = let le = (within 1 (2 ^ 32) setup.term (good-parts setup good).2).0 in omega arith

pub good-terms : (setup : Setup) → IsNone (first_bad setup) → setup.term ≤ 2 ^ 32
good-terms setup good = (within 1 (2 ^ 32) setup.term (good-parts setup good).2).1

pub ruleset good = (good-some, good-few, good-term, good-terms)
