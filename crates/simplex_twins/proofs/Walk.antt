-- Walks over every round.
use Rattle.std.proofs.Common.{ℕ, suc, zero, ◌≡◌, ◌<◌, ◌≤◌, ◌+◌, ◌-◌, ◌^◌, true, false, [], ◌∷◌, ◌++◌, map, refl, ap, ◌∙◌, arith, append_assoc}
use Rattle.std.specs.List.{flat_map, range_with_len, filter}
use Rattle.std.proofs.lemmas.Nat.{pow_pos}
use Rattle.simplex_twins.specs.Script.{scripted}
use Rattle.simplex_twins.specs.Every.{is_seen, between, with_primary, with_leader, with_leaders, every_round, rounds_after, rounds_from}

pub between-step : (from to : ℕ) → from < to → between from to ≡ from ∷ between (from + 1) to
between-step from to below = ap (range_with_len from) (let more : to - from ≡ suc (to - (from + 1)) = omega arith in more)

pub between-end : (from to : ℕ) → to ≤ from → between from to ≡ []
between-end from to past = ap (range_with_len from) (let none : to - from ≡ zero = omega arith in none)

pub with_primary-end : (n leader primary from : ℕ) → 2 ^ n ≤ from → with_primary n leader primary from ≡ []
unfolding with_primary
with_primary-end n leader primary from past = ap (λ masks. filter is_seen (map (scripted leader primary) masks)) (between-end from (2 ^ n) past)

pub with_primary-step : (n leader primary from : ℕ) → from < 2 ^ n → with_primary n leader primary from ≡ filter is_seen (scripted leader primary from ∷ map (scripted leader primary) (between (from + 1) (2 ^ n)))
unfolding with_primary
with_primary-step n leader primary from below = ap (λ masks. filter is_seen (map (scripted leader primary) masks)) (between-step from (2 ^ n) below)

pub with_primary-seen : (n leader primary from : ℕ) → from < 2 ^ n → is_seen (scripted leader primary from) ≡ true → with_primary n leader primary from ≡ scripted leader primary from ∷ with_primary n leader primary (from + 1)
unfolding with_primary
with_primary-seen n leader primary from below seen = with_primary-step n leader primary from below ∙ rw seen refl

pub with_primary-unseen : (n leader primary from : ℕ) → from < 2 ^ n → is_seen (scripted leader primary from) ≡ false → with_primary n leader primary from ≡ with_primary n leader primary (from + 1)
unfolding with_primary
with_primary-unseen n leader primary from below unseen = with_primary-step n leader primary from below ∙ rw unseen refl

pub with_leader-end : (n leader from : ℕ) → 2 ^ n ≤ from → with_leader n leader from ≡ []
unfolding with_leader
with_leader-end n leader from past = ap (flat_map (λ primary. with_primary n leader primary 0)) (between-end from (2 ^ n) past)

pub with_leader-step : (n leader from : ℕ) → from < 2 ^ n → with_leader n leader from ≡ with_primary n leader from 0 ++ with_leader n leader (from + 1)
unfolding with_leader
with_leader-step n leader from below = ap (flat_map (λ primary. with_primary n leader primary 0)) (between-step from (2 ^ n) below)

pub with_leaders-end : (n from : ℕ) → n ≤ from → with_leaders n from ≡ []
unfolding with_leaders
with_leaders-end n from past = ap (flat_map (λ leader. with_leader n leader 0)) (between-end from n past)

pub with_leaders-step : (n from : ℕ) → from < n → with_leaders n from ≡ with_leader n from 0 ++ with_leaders n (from + 1)
unfolding with_leaders
with_leaders-step n from below = ap (flat_map (λ leader. with_leader n leader 0)) (between-step from n below)

-- behind a round come those from the next numbers on
pub next_secondary : (n leader primary secondary : ℕ) → rounds_after n (scripted leader primary secondary) ≡ rounds_from n (scripted leader primary (secondary + 1))
unfolding rounds_after rounds_from
next_secondary n leader primary secondary = refl

pub next_primary : (n leader primary secondary : ℕ) → 2 ^ n ≤ secondary + 1 → primary + 1 < 2 ^ n → rounds_after n (scripted leader primary secondary) ≡ rounds_from n (scripted leader (primary + 1) 0)
unfolding rounds_after rounds_from
next_primary n leader primary secondary last below =
    rw (with_primary-end n leader primary (secondary + 1) last, with_leader-step n leader (primary + 1) below, append_assoc) refl

pub next_leader : (n leader primary secondary : ℕ) → 2 ^ n ≤ secondary + 1 → 2 ^ n ≤ primary + 1 → leader + 1 < n → rounds_after n (scripted leader primary secondary) ≡ rounds_from n (scripted (leader + 1) 0 0)
unfolding rounds_after rounds_from
next_leader n leader primary secondary last last_primary below =
    rw (with_primary-end n leader primary (secondary + 1) last, with_leader-end n leader (primary + 1) last_primary, with_leaders-step n (leader + 1) below, with_leader-step n (leader + 1) 0 (pow_pos n), append_assoc) refl

pub next_none : (n leader primary secondary : ℕ) → 2 ^ n ≤ secondary + 1 → 2 ^ n ≤ primary + 1 → n ≤ leader + 1 → rounds_after n (scripted leader primary secondary) ≡ []
unfolding rounds_after
next_none n leader primary secondary last last_primary last_leader =
    rw (with_primary-end n leader primary (secondary + 1) last, with_leader-end n leader (primary + 1) last_primary, with_leaders-end n (leader + 1) last_leader) refl

-- where a half talks with its leader a round comes first of those from it on
pub from_seen : (n leader primary secondary : ℕ) → secondary < 2 ^ n → is_seen (scripted leader primary secondary) ≡ true → rounds_from n (scripted leader primary secondary) ≡ scripted leader primary secondary ∷ rounds_after n (scripted leader primary secondary)
unfolding rounds_from rounds_after
from_seen n leader primary secondary below seen = rw (with_primary-seen n leader primary secondary below seen) refl

-- every round is those from the first numbers on
pub from_start : (n : ℕ) → 0 < n → every_round n ≡ rounds_from n (scripted 0 0 0)
unfolding every_round rounds_from
from_start n some = rw (with_leaders-step n 0 some, with_leader-step n 0 0 (pow_pos n), append_assoc) refl
