-- What a setup says none of whose items breaks its limit.
use Rattle.std.proofs.Common.{◌≡◌, ℕ, Bool, true, false, arith, refl, length, ◌<◌, ◌≤◌, ◌-◌, ◌^◌, if◌then◌else◌}
use Rattle.std.specs.Prelude.{◌&&◌, not, nat_le, Option, Some, None, IsNone, IfSome}
use Rattle.std.specs.List.{list_all}
use Rattle.std.proofs.lemmas.Grind.{common_steps}
use Rattle.simplex_transcript.specs.declared.field.Field.{Field}
use Rattle.simplex_transcript.specs.declared.setup.Setup.{Setup}
use Rattle.model_run.specs.Setups as setups
use Rattle.model_run.specs.Setups.{first_bad, is_within, most_members, is_stall, is_round}

pub record GoodValues (setup : Setup) : Type 0 where
  pub members : is_within 1 (most_members setup) (length setup.members) ≡ true
  pub epoch : nat_le setup.epoch (2 ^ 64 - 2) ≡ true
  pub term : is_within 1 (2 ^ 32) setup.term ≡ true
  pub lookahead : nat_le setup.lookahead (2 ^ 32) ≡ true
  pub leader : (setups.is_time setup.leader_timeout && nat_le setup.leader_timeout setup.certification_timeout) ≡ true
  pub certification : setups.is_time setup.certification_timeout ≡ true
  pub retry : setups.is_time setup.retry ≡ true
  pub stall : is_stall setup.certification_timeout setup.stall ≡ true
  pub retention : is_within 1 (2 ^ 32) setup.retention ≡ true
  pub skip : setups.is_skip setup.skip ≡ true
  pub mailbox : is_within 1 4096 setup.mailbox ≡ true
  pub fetch_timeout : setups.is_time setup.fetch_timeout ≡ true
  pub fetch_retry : nat_le setup.fetch_retry (2 ^ 62) ≡ true
  pub scenario : list_all (is_round (length setup.members)) setup.scenario ≡ true

-- a test that was passed, and the tests behind it
passed : (b : Bool) (field : Field) (next : Option Field) → IsNone (if not b then Some field else next) → (b ≡ true) × IsNone next
passed true field next e = (refl, e)
passed false field next e = absurd (cc)

past : (b : Bool) (field : Field) (next : Option Field) → IsNone (if b then Some field else next) → IsNone next
past true field next e = absurd (cc)
past false field next e = e

pub good-values : (setup : Setup) → IsNone (first_bad setup) → GoodValues setup
unfolding first_bad
good-values setup good =
    let m = passed _ _ _ good in
    let e = passed _ _ _ (past _ _ _ m.1) in
    let t = passed _ _ _ e.1 in
    let k = passed _ _ _ t.1 in
    let l = passed _ _ _ k.1 in
    let c = passed _ _ _ l.1 in
    let r = passed _ _ _ c.1 in
    let s = passed _ _ _ r.1 in
    let v = passed _ _ _ s.1 in
    let p = passed _ _ _ v.1 in
    let b = passed _ _ _ p.1 in
    let f = passed _ _ _ b.1 in
    let g = passed _ _ _ f.1 in
    let q = passed _ _ _ g.1 in
    record {
      members = m.0;
      epoch = e.0;
      term = t.0;
      lookahead = k.0;
      leader = l.0;
      certification = c.0;
      retry = r.0;
      stall = s.0;
      retention = v.0;
      skip = p.0;
      mailbox = b.0;
      fetch_timeout = f.0;
      fetch_retry = g.0;
      scenario = q.0;
    }

-- ---- tests

least : (a b value : ℕ) → is_within a b value ≡ true → a ≤ value
least a b value e = grind (arith, common_steps)

most : (a b value : ℕ) → is_within a b value ≡ true → value ≤ b
most a b value e = grind (arith, common_steps)

at_most : (value b : ℕ) → nat_le value b ≡ true → value ≤ b
at_most value b e = grind (arith, common_steps)

few : (b : Bool) (n : ℕ) → is_within 1 (if b then 256 else 64) n ≡ true → n ≤ 256
few true n e = most 1 256 n e
few false n e = let le = most 1 64 n e in omega arith

stall_by : (timeout : ℕ) (stall : Option ℕ) → is_stall timeout stall ≡ true → IfSome stall (λ ms. (timeout < ms) × (ms ≤ 2 ^ 62))
stall_by timeout None e = tt
stall_by timeout (Some ms) e = (grind (arith, common_steps), grind (arith, common_steps))

-- ---- numbers

pub good-some : (setup : Setup) → IsNone (first_bad setup) → 0 < length setup.members
good-some setup good = let le = least 1 (most_members setup) (length setup.members) (good-values setup good).members in omega arith

pub good-few : (setup : Setup) → IsNone (first_bad setup) → length setup.members ≤ 256
good-few setup good = few _ (length setup.members) (good-values setup good).members

pub good-term : (setup : Setup) → IsNone (first_bad setup) → 0 < setup.term
good-term setup good = let le = least 1 (2 ^ 32) setup.term (good-values setup good).term in omega arith

pub good-terms : (setup : Setup) → IsNone (first_bad setup) → setup.term ≤ 2 ^ 32
good-terms setup good = most 1 (2 ^ 32) setup.term (good-values setup good).term

pub good-lookahead : (setup : Setup) → IsNone (first_bad setup) → setup.lookahead ≤ 2 ^ 32
good-lookahead setup good = at_most setup.lookahead (2 ^ 32) (good-values setup good).lookahead

pub good-stall : (setup : Setup) → IsNone (first_bad setup) → IfSome setup.stall (λ ms. (setup.certification_timeout < ms) × (ms ≤ 2 ^ 62))
good-stall setup good = stall_by setup.certification_timeout setup.stall (good-values setup good).stall

pub good-epoch : (setup : Setup) → IsNone (first_bad setup) → setup.epoch ≤ 2 ^ 64 - 2
good-epoch setup good = at_most setup.epoch (2 ^ 64 - 2) (good-values setup good).epoch

pub good-retention : (setup : Setup) → IsNone (first_bad setup) → setup.retention ≤ 2 ^ 32
good-retention setup good = most 1 (2 ^ 32) setup.retention (good-values setup good).retention

pub good-mailbox : (setup : Setup) → IsNone (first_bad setup) → setup.mailbox ≤ 4096
good-mailbox setup good = most 1 4096 setup.mailbox (good-values setup good).mailbox

pub good-rounds : (setup : Setup) → IsNone (first_bad setup) → list_all (is_round (length setup.members)) setup.scenario ≡ true
good-rounds setup good = (good-values setup good).scenario

pub ruleset good = (good-rounds, good-some, good-few, good-term, good-terms, good-lookahead, good-stall, good-epoch, good-retention, good-mailbox)
