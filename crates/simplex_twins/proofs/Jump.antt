-- Masks of the second half that have the leader.
use Rattle.std.proofs.Common.{ℕ, suc, zero, ◌≡◌, ◌<◌, ◌≤◌, ◌+◌, ◌-◌, ◌*◌, ◌/◌, ◌%◌, ◌^◌, ◌==◌, ◌||◌, Bool, true, false, refl, ap, ◌∙◌, arith}
use Rattle.std.proofs.lemmas.Grind.{common_steps}
use Rattle.std.proofs.lemmas.Nat.{pow_pos, pow-add}
use Rattle.std.proofs.Math.Nat.{div-eq_of_lt-le, div-lt_iff_lt-mul, div-mul-le_self, mul-div_left, mul-le-mul_right, lt-div-mul-add}
use Rattle.simplex_twins.specs.Masks.{has, raised}
use Rattle.simplex_twins.specs.Script.{scripted}
use Rattle.simplex_twins.specs.Every.{is_seen, with_primary, rounds_from}
use Rattle.simplex_twins.proofs.Walk.{with_primary-unseen}

-- a test of a last bit
even_of : (half : ℕ) → half % 2 == 1 ≡ false → half % 2 ≡ 0
even_of half lacks = grind (arith, common_steps)

-- it is above the mask, by no more than the place's bit
pub raised-above : (mask place : ℕ) → mask < raised mask place
raised-above mask place =
    let split : mask < mask / 2 ^ place * 2 ^ place + 2 ^ place = lt-div-mul-add (pow_pos place) in
    omega (arith, split)

fits : (half bit more : ℕ) → half % 2 ≡ 0 → half < 2 * more → 0 < bit → (half + 1) * bit + bit ≤ 2 * more * bit
fits half bit more even below some =
    let up : half + 2 ≤ 2 * more = omega arith in
    let times : (half + 2) * bit ≤ 2 * more * bit = mul-le-mul_right bit up in
    omega (arith, times)

-- it is no further than the masks of n members
pub raised-below : (mask place n : ℕ) → mask < 2 ^ n → place < n → has mask place ≡ false → raised mask place < 2 ^ n
unfolding has
raised-below mask place n below within lacks =
    let more : ℕ = 2 ^ (n - (place + 1)) in
    let whole : 2 ^ n ≡ 2 * more * 2 ^ place =
    (let sum : n ≡ (1 + (n - (place + 1))) + place = omega arith in
    ap (λ k. 2 ^ k) sum ∙ pow-add 2 (1 + (n - (place + 1))) place ∙ ap (λ k. k * 2 ^ place) (pow-add 2 1 (n - (place + 1)))) in
    let half : mask / 2 ^ place < 2 * more = (div-lt_iff_lt-mul {k = 2 ^ place} {x = mask} {y = 2 * more} (pow_pos place)).1 (let h : mask < 2 * more * 2 ^ place = omega (arith, whole) in h) in
    let even : mask / 2 ^ place % 2 ≡ 0 = even_of (mask / 2 ^ place) lacks in
    let up : (mask / 2 ^ place + 1) * 2 ^ place + 2 ^ place ≤ 2 * more * 2 ^ place = fits (mask / 2 ^ place) (2 ^ place) more even half (pow_pos place) in
    omega (arith, up, whole, pow_pos place)

-- it has the place
pub raised-has : (mask place : ℕ) → has mask place ≡ false → has (raised mask place) place ≡ true
unfolding has
raised-has mask place lacks =
    let even : mask / 2 ^ place % 2 ≡ 0 = even_of (mask / 2 ^ place) lacks in
    let half : raised mask place / 2 ^ place ≡ mask / 2 ^ place + 1 = mul-div_left (mask / 2 ^ place + 1) (pow_pos place) in
    let odd : (mask / 2 ^ place + 1) % 2 ≡ 1 = omega arith in
    rw (half, odd) refl

-- the masks before it have it not
before-raised : (mask place later : ℕ) → has mask place ≡ false → mask ≤ later → later < raised mask place → has later place ≡ false
unfolding has
before-raised mask place later lacks from to =
    let low : mask / 2 ^ place * 2 ^ place ≤ later = (let least : mask / 2 ^ place * 2 ^ place ≤ mask = div-mul-le_self mask (2 ^ place) in omega (arith, least)) in
    let same : later / 2 ^ place ≡ mask / 2 ^ place = div-eq_of_lt-le (2 ^ place) low to in
    rw same lacks

skipped : (n leader primary from count : ℕ) → from + count ≤ 2 ^ n → ((later : ℕ) → from ≤ later → later < from + count → is_seen (scripted leader primary later) ≡ false) → with_primary n leader primary from ≡ with_primary n leader primary (from + count)
skipped n leader primary from zero within unseen = ap (with_primary n leader primary) (let same : from ≡ from + zero = omega arith in same)
skipped n leader primary from (suc count) within unseen =
    with_primary-unseen n leader primary from (omega arith) (unseen from (omega arith) (omega arith))
    ∙ skipped n leader primary (from + 1) count (omega arith) (λ later low high. unseen later (omega arith) (omega arith))
    ∙ ap (with_primary n leader primary) (let same : from + 1 + count ≡ from + suc count = omega arith in same)

unseen_masks : (a b : Bool) → a || b ≡ false → (a ≡ false) × (b ≡ false)
unseen_masks true b none = cc
unseen_masks false b none = (refl, none)

seen_by_second : (a b : Bool) → b ≡ true → a || b ≡ true
seen_by_second true b it = refl
seen_by_second false b it = it

-- where no half talks with the leader, the rounds from the raised mask on are the same, and there one does
pub raised_rounds : (n leader primary secondary : ℕ) → leader < n → secondary < 2 ^ n → is_seen (scripted leader primary secondary) ≡ false → (rounds_from n (scripted leader primary secondary) ≡ rounds_from n (scripted leader primary (raised secondary leader))) × (raised secondary leader < 2 ^ n) × (is_seen (scripted leader primary (raised secondary leader)) ≡ true)
unfolding rounds_from
raised_rounds n leader primary secondary member below unseen =
    let lack = unseen_masks (has primary leader) (has secondary leader) unseen in
    let above : secondary < raised secondary leader = raised-above secondary leader in
    let within : raised secondary leader < 2 ^ n = raised-below secondary leader n below member lack.1 in
    let count : ℕ = raised secondary leader - secondary in
    let sum : secondary + count ≡ raised secondary leader = omega arith in
    let same : with_primary n leader primary secondary ≡ with_primary n leader primary (raised secondary leader) =
    skipped n leader primary secondary count (omega (arith, sum, within)) (λ later low high. rw (lack.0, before-raised secondary leader later lack.1 low (omega (arith, sum, high))) refl)
    ∙ ap (with_primary n leader primary) sum in
    (rw same refl, within, seen_by_second (has primary leader) (has (raised secondary leader) leader) (raised-has secondary leader lack.1))
