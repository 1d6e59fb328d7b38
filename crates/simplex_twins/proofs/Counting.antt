-- How many rounds and scripts there are.
use Rattle.std.proofs.Common.{ℕ, suc, zero, ◌≡◌, ◌<◌, ◌≤◌, ◌+◌, ◌-◌, ◌*◌, ◌/◌, ◌%◌, ◌^◌, Bool, true, false, if◌then◌else◌, cond, List, [], ◌∷◌, ◌++◌, map, length, refl, ap, sym, ◌∙◌, arith, length-append}
use Rattle.std.specs.Prelude.{sum_by}
use Rattle.std.specs.List.{flat_map, filter, range_with_len}
use Rattle.std.proofs.lemmas.List.Concat.{length-flat_map}
use Rattle.std.proofs.lemmas.Nat.{pow-add, mul-pow}
use Rattle.std.proofs.Math.Nat.{div-eq_of_lt-le, pow-zero, pow-succ'}
use Rattle.std.proofs.lemmas.List.{length-map}
use Rattle.std.proofs.lemmas.List.Sums.{sum_by-append, sum_by-cons}
use Rattle.simplex_twins.specs.Masks.{has}
use Rattle.simplex_twins.specs.Script.{ScriptedRound, scripted}
use Rattle.simplex_twins.specs.Every.{is_seen, between, with_primary, with_leader, with_leaders, every_round, every_script}

range-append : (a m n : ℕ) → range_with_len a (m + n) ≡ range_with_len a m ++ range_with_len (a + m) n
range-append a zero n = ap (λ k. range_with_len a k) (let e : zero + n ≡ n = omega arith in e) ∙ ap (λ k. range_with_len k n) (let e : a ≡ a + zero = omega arith in e)
range-append a (suc m) n =
    ap (range_with_len a) (let e : suc m + n ≡ suc (m + n) = omega arith in e)
    ∙ ap (λ xs. a ∷ xs) (range-append (a + 1) m n)
    ∙ ap (λ k. a ∷ (range_with_len (a + 1) m ++ range_with_len k n)) (let e : a + 1 + m ≡ a + suc m = omega arith in e)

sum-same : (f : ℕ → ℕ) (a count each : ℕ) → ((m : ℕ) → a ≤ m → m < a + count → f m ≡ each) → sum_by f (range_with_len a count) ≡ count * each
sum-same f a zero each same = omega arith
sum-same f a (suc count) each same =
    let now : f a ≡ each = same a (omega arith) (omega arith) in
    let later : sum_by f (range_with_len (a + 1) count) ≡ count * each = sum-same f (a + 1) count each (λ m low high. same m (omega arith) (omega arith)) in
    sum_by-cons f a (range_with_len (a + 1) count) ∙ ap (λ k. f a + k) later ∙ ap (λ k. k + count * each) now ∙ (let e : each + count * each ≡ suc count * each = omega arith in e)

-- of a block of numbers half has the place
low_half : (place block m : ℕ) → block * (2 * 2 ^ place) ≤ m → m < block * (2 * 2 ^ place) + 2 ^ place → has m place ≡ false
unfolding has
low_half place block m low high =
    let half : m / 2 ^ place ≡ 2 * block = div-eq_of_lt-le (2 ^ place) (omega arith) (omega arith) in
    let even : 2 * block % 2 ≡ 0 = omega arith in
    rw (half, even) refl

high_half : (place block m : ℕ) → block * (2 * 2 ^ place) + 2 ^ place ≤ m → m < block * (2 * 2 ^ place) + 2 ^ place + 2 ^ place → has m place ≡ true
unfolding has
high_half place block m low high =
    let half : m / 2 ^ place ≡ 2 * block + 1 = div-eq_of_lt-le (2 ^ place) (omega arith) (omega arith) in
    let odd : (2 * block + 1) % 2 ≡ 1 = omega arith in
    rw (half, odd) refl

sum-blocks : (f : ℕ → ℕ) (place with without block blocks : ℕ) → ((m : ℕ) → has m place ≡ true → f m ≡ with) → ((m : ℕ) → has m place ≡ false → f m ≡ without) → sum_by f (range_with_len (block * (2 * 2 ^ place)) (blocks * (2 * 2 ^ place))) ≡ blocks * (2 ^ place * without + 2 ^ place * with)
sum-blocks f place with without block zero has_it lacks_it = ap (λ k. sum_by f (range_with_len (block * (2 * 2 ^ place)) k)) (let e : zero * (2 * 2 ^ place) ≡ 0 = omega arith in e) ∙ (let e : 0 ≡ zero * (2 ^ place * without + 2 ^ place * with) = omega arith in e)
sum-blocks f place with without block (suc blocks) has_it lacks_it =
    let low : sum_by f (range_with_len (block * (2 * 2 ^ place)) (2 ^ place)) ≡ 2 ^ place * without = sum-same f (block * (2 * 2 ^ place)) (2 ^ place) without (λ m above below. lacks_it m (low_half place block m above below)) in
    let high : sum_by f (range_with_len (block * (2 * 2 ^ place) + 2 ^ place) (2 ^ place)) ≡ 2 ^ place * with = sum-same f (block * (2 * 2 ^ place) + 2 ^ place) (2 ^ place) with (λ m above below. has_it m (high_half place block m above below)) in
    let rest : sum_by f (range_with_len ((block + 1) * (2 * 2 ^ place)) (blocks * (2 * 2 ^ place))) ≡ blocks * (2 ^ place * without + 2 ^ place * with) = sum-blocks f place with without (block + 1) blocks has_it lacks_it in
    let numbers : range_with_len (block * (2 * 2 ^ place)) (suc blocks * (2 * 2 ^ place)) ≡ range_with_len (block * (2 * 2 ^ place)) (2 ^ place) ++ (range_with_len (block * (2 * 2 ^ place) + 2 ^ place) (2 ^ place) ++ range_with_len ((block + 1) * (2 * 2 ^ place)) (blocks * (2 * 2 ^ place))) =
    ap (range_with_len (block * (2 * 2 ^ place))) (let e : suc blocks * (2 * 2 ^ place) ≡ 2 ^ place + (2 ^ place + blocks * (2 * 2 ^ place)) = omega arith in e)
    ∙ range-append (block * (2 * 2 ^ place)) (2 ^ place) (2 ^ place + blocks * (2 * 2 ^ place))
    ∙ ap (λ xs. range_with_len (block * (2 * 2 ^ place)) (2 ^ place) ++ xs) (range-append (block * (2 * 2 ^ place) + 2 ^ place) (2 ^ place) (blocks * (2 * 2 ^ place)))
    ∙ ap (λ k. range_with_len (block * (2 * 2 ^ place)) (2 ^ place) ++ (range_with_len (block * (2 * 2 ^ place) + 2 ^ place) (2 ^ place) ++ range_with_len k (blocks * (2 * 2 ^ place)))) (let e : block * (2 * 2 ^ place) + 2 ^ place + 2 ^ place ≡ (block + 1) * (2 * 2 ^ place) = omega arith in e) in
    ap (sum_by f) numbers
    ∙ sum_by-append f (range_with_len (block * (2 * 2 ^ place)) (2 ^ place)) (range_with_len (block * (2 * 2 ^ place) + 2 ^ place) (2 ^ place) ++ range_with_len ((block + 1) * (2 * 2 ^ place)) (blocks * (2 * 2 ^ place)))
    ∙ ap (λ k. sum_by f (range_with_len (block * (2 * 2 ^ place)) (2 ^ place)) + k) (sum_by-append f (range_with_len (block * (2 * 2 ^ place) + 2 ^ place) (2 ^ place)) (range_with_len ((block + 1) * (2 * 2 ^ place)) (blocks * (2 * 2 ^ place))))
    ∙ (let e : sum_by f (range_with_len (block * (2 * 2 ^ place)) (2 ^ place)) + (sum_by f (range_with_len (block * (2 * 2 ^ place) + 2 ^ place) (2 ^ place)) + sum_by f (range_with_len ((block + 1) * (2 * 2 ^ place)) (blocks * (2 * 2 ^ place)))) ≡ suc blocks * (2 ^ place * without + 2 ^ place * with) = omega (arith, low, high, rest) in e)

-- all masks over n members, by whether they have one of them
sum-masks : (f : ℕ → ℕ) (n place with without : ℕ) → place < n → ((m : ℕ) → has m place ≡ true → f m ≡ with) → ((m : ℕ) → has m place ≡ false → f m ≡ without) → sum_by f (between 0 (2 ^ n)) ≡ 2 ^ (n - 1) * (without + with)
sum-masks f n place with without member has_it lacks_it =
    let blocks : ℕ = 2 ^ (n - (place + 1)) in
    let whole : 2 ^ n - 0 ≡ 2 ^ (n - (place + 1)) * (2 * 2 ^ place) =
    (let sum : n ≡ (n - (place + 1)) + (1 + place) = omega arith in
    (let e : 2 ^ n - 0 ≡ 2 ^ n = omega arith in e) ∙ ap (λ k. 2 ^ k) sum ∙ pow-add 2 (n - (place + 1)) (1 + place) ∙ ap (λ k. 2 ^ (n - (place + 1)) * k) (pow-add 2 1 place)) in
    let half : 2 ^ (n - 1) ≡ 2 ^ (n - (place + 1)) * 2 ^ place =
    (let sum : n - 1 ≡ (n - (place + 1)) + place = omega arith in ap (λ k. 2 ^ k) sum ∙ pow-add 2 (n - (place + 1)) place) in
    ap (λ k. sum_by f (range_with_len 0 k)) whole
    ∙ ap (λ k. sum_by f (range_with_len k (2 ^ (n - (place + 1)) * (2 * 2 ^ place)))) (let e : 0 ≡ 0 * (2 * 2 ^ place) = omega arith in e)
    ∙ sum-blocks f place with without 0 (2 ^ (n - (place + 1))) has_it lacks_it
    ∙ (let e : 2 ^ (n - (place + 1)) * (2 ^ place * without + 2 ^ place * with) ≡ 2 ^ (n - 1) * (without + with) = rw half (omega arith) in e)

length-filter-map : {X Y : Type 0} (p : Y → Bool) (g : X → Y) (xs : List X) → length (filter p (map g xs)) ≡ sum_by (λ x. if p (g x) then 1 else 0) xs
length-filter-map p g [] = refl
length-filter-map p g (x ∷ xs) = by_test (p (g x)) (g x) (filter p (map g xs)) (sum_by (λ x. if p (g x) then 1 else 0) xs) (length-filter-map p g xs) ∙ sym (sum_by-cons (λ x. if p (g x) then 1 else 0) x xs)
  where
    by_test : {Y : Type 0} (b : Bool) (y : Y) (ys : List Y) (count : ℕ) → length ys ≡ count → length (cond b (y ∷ ys) ys) ≡ (if b then 1 else 0) + count
    by_test true y ys count same = let e : suc (length ys) ≡ 1 + count = omega arith in e
    by_test false y ys count same = let e : length ys ≡ 0 + count = omega arith in e

-- the seconds masks beside a first one: all where it has the leader, else half
length-with_primary-all : (n leader primary : ℕ) → has primary leader ≡ true → length (with_primary n leader primary 0) ≡ 2 ^ n
unfolding with_primary
length-with_primary-all n leader primary has_it =
    length-filter-map is_seen (scripted leader primary) (between 0 (2 ^ n))
    ∙ sum-same (λ m. if is_seen (scripted leader primary m) then 1 else 0) 0 (2 ^ n - 0) 1 (λ m low high. rw has_it refl)
    ∙ (let e : (2 ^ n - 0) * 1 ≡ 2 ^ n = omega arith in e)

length-with_primary-half : (n leader primary : ℕ) → leader < n → has primary leader ≡ false → length (with_primary n leader primary 0) ≡ 2 ^ (n - 1)
unfolding with_primary
length-with_primary-half n leader primary member lacks_it =
    length-filter-map is_seen (scripted leader primary) (between 0 (2 ^ n))
    ∙ sum-masks (λ m. if is_seen (scripted leader primary m) then 1 else 0) n leader 1 0 member (λ m yes_it. rw (lacks_it, yes_it) refl) (λ m no_it. rw (lacks_it, no_it) refl)
    ∙ (let e : 2 ^ (n - 1) * (0 + 1) ≡ 2 ^ (n - 1) = omega arith in e)

length-with_leader : (n leader : ℕ) → leader < n → length (with_leader n leader 0) ≡ 3 * 4 ^ (n - 1)
unfolding with_leader
length-with_leader n leader member =
    let double : 2 ^ n ≡ 2 * 2 ^ (n - 1) = (let sum : n ≡ 1 + (n - 1) = omega arith in ap (λ k. 2 ^ k) sum ∙ pow-add 2 1 (n - 1)) in
    let square : 4 ^ (n - 1) ≡ 2 ^ (n - 1) * 2 ^ (n - 1) = mul-pow 2 2 (n - 1) in
    length-flat_map (λ primary. with_primary n leader primary 0) (between 0 (2 ^ n))
    ∙ sum-masks (λ primary. length (with_primary n leader primary 0)) n leader (2 ^ n) (2 ^ (n - 1)) member (λ m has_it. length-with_primary-all n leader m has_it) (λ m lacks_it. length-with_primary-half n leader m member lacks_it)
    ∙ (let e : 2 ^ (n - 1) * (2 ^ (n - 1) + 2 ^ n) ≡ 3 * 4 ^ (n - 1) = rw (double, square) (omega arith) in e)

-- every round: each of n members leads in as many
pub length-every_round : (n : ℕ) → length (every_round n) ≡ 3 * n * 4 ^ (n - 1)
unfolding every_round with_leaders
length-every_round n =
    length-flat_map (λ leader. with_leader n leader 0) (between 0 n)
    ∙ sum-same (λ leader. length (with_leader n leader 0)) 0 (n - 0) (3 * 4 ^ (n - 1)) (λ leader low high. length-with_leader n leader (omega arith))
    ∙ ap (λ k. k * (3 * 4 ^ (n - 1))) (let e : n - 0 ≡ n = omega arith in e)
    ∙ (let e : n * (3 * 4 ^ (n - 1)) ≡ 3 * n * 4 ^ (n - 1) = omega arith in e)

length-each : (rounds : List ScriptedRound) (scripts : List (List ScriptedRound)) → length (flat_map (λ round. map (λ later. round ∷ later) scripts) rounds) ≡ length rounds * length scripts
length-each [] scripts = let e : 0 ≡ 0 * length scripts = omega arith in e
length-each (round ∷ rounds) scripts =
    length-append (map (λ later. round ∷ later) scripts) (flat_map (λ round. map (λ later. round ∷ later) scripts) rounds)
    ∙ ap (λ k. k + length (flat_map (λ round. map (λ later. round ∷ later) scripts) rounds)) (length-map scripts (λ later. round ∷ later))
    ∙ ap (λ k. length scripts + k) (length-each rounds scripts)
    ∙ (let e : length scripts + length rounds * length scripts ≡ suc (length rounds) * length scripts = omega arith in e)

-- every script: each round can be any
pub length-every_script : (n rounds : ℕ) → length (every_script n rounds) ≡ (3 * n * 4 ^ (n - 1)) ^ rounds
unfolding every_script
length-every_script n zero = sym (pow-zero (3 * n * 4 ^ (n - 1)))
length-every_script n (suc rounds) =
    length-each (every_round n) (every_script n rounds)
    ∙ ap (λ k. k * length (every_script n rounds)) (length-every_round n)
    ∙ ap (λ k. 3 * n * 4 ^ (n - 1) * k) (length-every_script n rounds)
    ∙ sym (pow-succ' (3 * n * 4 ^ (n - 1)) rounds)
