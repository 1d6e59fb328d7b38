-- Every good round and script is listed, and no other.
use Rattle.std.proofs.Common.{ℕ, suc, zero, ◌≡◌, ◌<◌, ◌≤◌, ◌+◌, ◌-◌, ◌^◌, Bool, true, false, cond, List, [], ◌∷◌, map, length, get_or, None, IsTrue, refl, sym, ◌∙◌, subst, arith}
use Rattle.std.specs.Prelude.{All, Contains}
use Rattle.std.specs.List.{flat_map, filter}
use Rattle.std.proofs.lemmas.Grind.{common_steps}
use Rattle.std.proofs.lemmas.List.Elements.{Contains-append_left, Contains-append_right, All-append}
use Rattle.std.proofs.lemmas.List.FromFn.{length-range_with_len, get_or-range_with_len}
use Rattle.simplex_twins.specs.Script.{ScriptedRound, scripted}
use Rattle.simplex_twins.specs.Faults.{fault_of}
use Rattle.simplex_twins.specs.Every.{is_seen, between, with_primary, with_leader, with_leaders, every_round, every_script, are_good, IsAmong}
use Rattle.simplex_twins.proofs.Faultless.{good_round, round_is_good}

-- an element stands first, or among the others
Contains-first : {X : Type 0} (x : X) (xs : List X) → Contains (x ∷ xs) x
Contains-first x xs = (0, omega arith, refl)

Contains-later : {X : Type 0} (first : X) (xs : List X) (x : X) → Contains xs x → Contains (first ∷ xs) x
Contains-later first xs x there = (suc there.0, (let below : there.0 < length xs = there.1 in omega arith), there.2)

Contains-between : (from to m : ℕ) → from ≤ m → m < to → Contains (between from to) m
Contains-between from to m low high =
    let count : length (between from to) ≡ to - from = length-range_with_len from (to - from) in
    (m - from, omega (arith, count), get_or-range_with_len from (to - from) (m - from) m (omega arith) ∙ (let e : from + (m - from) ≡ m = omega arith in e))

at-map : {X Y : Type 0} (f : X → Y) (xs : List X) (x : X) (k : ℕ) → k < length xs → get_or xs k x ≡ x → Contains (map f xs) (f x)
at-map f [] x k within is = absurd (omega arith)
at-map f (first ∷ xs) x zero within is = subst (λ y. Contains (map f (y ∷ xs)) (f x)) (sym is) (Contains-first (f x) (map f xs))
at-map f (first ∷ xs) x (suc k) within is = Contains-later (f first) (map f xs) (f x) (at-map f xs x k (omega arith) is)

Contains-map : {X Y : Type 0} (f : X → Y) (xs : List X) (x : X) → Contains xs x → Contains (map f xs) (f x)
Contains-map f xs x there = at-map f xs x there.0 there.1 there.2

kept_there : {X : Type 0} (b : Bool) (first : X) (rest : List X) (x : X) → Contains rest x → Contains (cond b (first ∷ rest) rest) x
kept_there true first rest x there = Contains-later first rest x there
kept_there false first rest x there = there

at-filter : {X : Type 0} (p : X → Bool) (xs : List X) (x : X) (k : ℕ) → p x ≡ true → k < length xs → get_or xs k x ≡ x → Contains (filter p xs) x
at-filter p [] x k passes within is = absurd (omega arith)
at-filter p (first ∷ xs) x zero passes within is = subst (λ y. Contains (filter p (y ∷ xs)) x) (sym is) (rw passes (Contains-first x (filter p xs)))
at-filter p (first ∷ xs) x (suc k) passes within is = kept_there (p first) first (filter p xs) x (at-filter p xs x k passes (omega arith) is)

Contains-filter : {X : Type 0} (p : X → Bool) (xs : List X) (x : X) → p x ≡ true → Contains xs x → Contains (filter p xs) x
Contains-filter p xs x passes there = at-filter p xs x there.0 passes there.1 there.2

at-flat_map : {X Y : Type 0} (f : X → List Y) (xs : List X) (x : X) (y : Y) (k : ℕ) → k < length xs → get_or xs k x ≡ x → Contains (f x) y → Contains (flat_map f xs) y
at-flat_map f [] x y k within is there = absurd (omega arith)
at-flat_map f (first ∷ xs) x y zero within is there = subst (λ z. Contains (flat_map f (z ∷ xs)) y) (sym is) (Contains-append_left (f x) (flat_map f xs) y there)
at-flat_map f (first ∷ xs) x y (suc k) within is there = Contains-append_right (f first) (flat_map f xs) y (at-flat_map f xs x y k (omega arith) is there)

Contains-flat_map : {X Y : Type 0} (f : X → List Y) (xs : List X) (x : X) (y : Y) → Contains xs x → Contains (f x) y → Contains (flat_map f xs) y
Contains-flat_map f xs x y there inner = at-flat_map f xs x y there.0 there.1 there.2 inner

-- a good round is listed
pub listed_round : (n : ℕ) (round : ScriptedRound) → fault_of round n ≡ None → Contains (every_round n) round
unfolding every_round with_leaders with_leader with_primary
listed_round n round good =
    let fine = good_round round n good in
    let among : IsAmong n round = fine.0 in
    let second : Contains (with_primary n round.leader round.primary 0) round =
    Contains-filter is_seen (map (scripted round.leader round.primary) (between 0 (2 ^ n))) round fine.1
    (Contains-map (scripted round.leader round.primary) (between 0 (2 ^ n)) round.secondary (Contains-between 0 (2 ^ n) round.secondary (omega arith) among.secondary)) in
    let first : Contains (with_leader n round.leader 0) round =
    Contains-flat_map (λ primary. with_primary n round.leader primary 0) (between 0 (2 ^ n)) round.primary round (Contains-between 0 (2 ^ n) round.primary (omega arith) among.primary) second in
    Contains-flat_map (λ leader. with_leader n leader 0) (between 0 n) round.leader round (Contains-between 0 n round.leader (omega arith) among.leader) first

-- a script of good rounds is listed
pub listed_script : (n : ℕ) (script : List ScriptedRound) → IsTrue (are_good n script) → Contains (every_script n (length script)) script
unfolding every_script
listed_script n [] good = Contains-first [] []
listed_script n (round ∷ script) good =
    let fine : fault_of round n ≡ None = grind (arith, common_steps) in
    let rest : IsTrue (are_good n script) = grind (arith, common_steps) in
    Contains-flat_map (λ round. map (λ later. round ∷ later) (every_script n (length script))) (every_round n) round (round ∷ script) (listed_round n round fine)
    (Contains-map (λ later. round ∷ later) (every_script n (length script)) script (listed_script n script rest))

-- what holds of each element of each list holds of each of all
All-flat_map : {X Y : Type 0} (P : Y → Type 0) (f : X → List Y) (xs : List X) → All (λ x. All P (f x)) xs → All P (flat_map f xs)
All-flat_map P f [] each = λ k d within. absurd (omega arith)
All-flat_map P f (x ∷ xs) each = All-append P (f x) (flat_map f xs) (each 0 x (omega arith)) (All-flat_map P f xs (λ k d within. each (suc k) d (omega arith)))

All-between : (P : ℕ → Type 0) (from to : ℕ) → ((m : ℕ) → m < to → P m) → All P (between from to)
All-between P from to each k d within =
    let count : length (between from to) ≡ to - from = length-range_with_len from (to - from) in
    let place : k < to - from = omega (arith, count) in
    subst P (sym (get_or-range_with_len from (to - from) k d place)) (each (from + k) (omega arith))

All-first : {X : Type 0} (P : X → Type 0) (x : X) (xs : List X) → P x → All P xs → All P (x ∷ xs)
All-first P x xs here there zero d within = here
All-first P x xs here there (suc k) d within = there k d (omega arith)

kept_all : {X : Type 0} (P : X → Type 0) (b : Bool) (x : X) (rest : List X) → (b ≡ true → P x) → All P rest → All P (cond b (x ∷ rest) rest)
kept_all P true x rest here there = All-first P x rest (here refl) there
kept_all P false x rest here there = there

All-filter-map : {X Y : Type 0} (P : Y → Type 0) (p : Y → Bool) (f : X → Y) (xs : List X) → All (λ x. p (f x) ≡ true → P (f x)) xs → All P (filter p (map f xs))
All-filter-map P p f [] each = λ k d within. absurd (omega arith)
All-filter-map P p f (x ∷ xs) each = kept_all P (p (f x)) (f x) (filter p (map f xs)) (each 0 x (omega arith)) (All-filter-map P p f xs (λ k d within. each (suc k) d (omega arith)))

-- and no other round is
pub listed_rounds : (n : ℕ) → All (λ round. fault_of round n ≡ None) (every_round n)
unfolding every_round with_leaders with_leader with_primary
listed_rounds n =
    All-flat_map (λ round. fault_of round n ≡ None) (λ leader. with_leader n leader 0) (between 0 n) (All-between (λ leader. All (λ round. fault_of round n ≡ None) (with_leader n leader 0)) 0 n (λ leader member.
    All-flat_map (λ round. fault_of round n ≡ None) (λ primary. with_primary n leader primary 0) (between 0 (2 ^ n)) (All-between (λ primary. All (λ round. fault_of round n ≡ None) (with_primary n leader primary 0)) 0 (2 ^ n) (λ primary below_primary.
    All-filter-map (λ round. fault_of round n ≡ None) is_seen (scripted leader primary) (between 0 (2 ^ n)) (All-between (λ secondary. is_seen (scripted leader primary secondary) ≡ true → fault_of (scripted leader primary secondary) n ≡ None) 0 (2 ^ n) (λ secondary below_secondary seen.
    round_is_good (scripted leader primary secondary) n (record { leader = member; primary = below_primary; secondary = below_secondary }) seen))))))
