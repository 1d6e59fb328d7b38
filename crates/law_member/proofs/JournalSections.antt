-- What each call of a journal leaves of one section.
use Rattle.std.proofs.Common.{◌≡◌, ◌<◌, ◌==◌, ◌∙◌, ◌-◌, ℕ, nat_lt, true, false, refl, sym, ap, subst, inl, inr, List, [], ◌∷◌, ◌++◌, take, if◌then◌else◌, arith, append_assoc}
use Rattle.std.specs.Ordering.{nat_cmp}
use Rattle.std.specs.List.{AllByRecursion, flat_map, Contains}
use Rattle.std.specs.List.Sorted.{IsStrictlySortedBy}
use Rattle.std.specs.declared.cmp.Ordering.TheVariants.{Less}
use Rattle.std.proofs.lemmas.Grind.{common_steps}
use Rattle.std.proofs.lemmas.Bool.{cases_order, cases_lt}
use Rattle.std.proofs.lemmas.Bool.Decides.{nat_tests}
use Rattle.std.proofs.lemmas.List.{append-nil}
use Rattle.std.proofs.lemmas.List.Elements.{Contains-append_left, Contains-append_right}
use Rattle.simplex_wire.specs.declared.artifact.Artifact.{Artifact}
use Rattle.simplex_journal.specs.Contents.{kept, numbers, IsRising}
use Rattle.simplex_journal.specs.Journal.{Section, opened_section, appended_section, synced_section, crashed_section, appended, synced_at, all_synced, pruned, pruned_first, crashed, replayed}
use Rattle.law_member.specs.Journal.{synced_of, read_of, StandIn}

-- ---- sections above a number

-- each section is above it
unfoldable pub Above : ℕ → List Section → Type 0
Above m [] = Unit {0}
Above m (s ∷ rest) = (m < s.number) × Above m rest

lower : (m n : ℕ) → nat_cmp m n ≡ Less → m < n
lower m n h = elim (cases_lt m n) [ inl below ↦ below | inr above ↦ grind (arith, nat_tests) ]

above_from : (m : ℕ) (js : List Section) → AllByRecursion (λ k. nat_cmp m k ≡ Less) (numbers js) → Above m js
unfolding Above numbers
above_from m [] h = tt
above_from m (s ∷ rest) h = (lower m s.number h.0, above_from m rest h.1)

-- those behind the first are above it
pub above_first : (s : Section) (rest : List Section) → IsRising (s ∷ rest) → Above s.number rest
unfolding numbers IsStrictlySortedBy
above_first s rest h = above_from s.number rest h.0

pub rising_rest : (s : Section) (rest : List Section) → IsRising (s ∷ rest) → IsRising rest
unfolding numbers IsStrictlySortedBy
rising_rest s rest h = h.1

above_lower : (m n : ℕ) (js : List Section) → m < n → Above n js → Above m js
unfolding Above
above_lower m n [] below h = tt
above_lower m n (s ∷ rest) below h = let first : n < s.number = h.0 in (omega arith, above_lower m n rest below h.1)

-- a section below them is not there
pub synced_of-absent : (n : ℕ) (js : List Section) → Above n js → synced_of n js ≡ []
unfolding Above synced_of
synced_of-absent n [] h = refl
synced_of-absent n (s ∷ rest) h = let first : n < s.number = h.0 in grind (arith, common_steps, nat_tests, synced_of-absent n rest h.1)

pub read_of-absent : (n : ℕ) (js : List Section) → Above n js → read_of n js ≡ []
unfolding Above read_of
read_of-absent n [] h = refl
read_of-absent n (s ∷ rest) h = let first : n < s.number = h.0 in grind (arith, common_steps, nat_tests, read_of-absent n rest h.1)

-- ---- appends

-- an append syncs nothing
pub synced_of-appended : (n m : ℕ) (a : Artifact) (js : List Section) → IsRising js → synced_of n (appended m a js) ≡ synced_of n js
unfolding synced_of appended opened_section appended_section
synced_of-appended n m a [] h = grind (arith, common_steps)
synced_of-appended n m a (s ∷ rest) h =
    let later = synced_of-appended n m a rest (rising_rest s rest h) in
    elim (cases_order m s.number) [
      | inl same ↦ grind (arith, common_steps, nat_tests)
      | inr (inl below) ↦
          let none : synced_of m rest ≡ [] = synced_of-absent m rest (above_lower m s.number rest below (above_first s rest h)) in
          grind (arith, common_steps, nat_tests, none)
      | inr (inr above) ↦ grind (arith, common_steps, nat_tests, later)
    ]

-- it puts its record behind those of its section
pub read_of-appended : (n m : ℕ) (a : Artifact) (js : List Section) → IsRising js → read_of n (appended m a js) ≡ read_of n js ++ (if n == m then a ∷ [] else [])
unfolding read_of appended opened_section appended_section
read_of-appended n m a [] h = grind (arith, common_steps)
read_of-appended n m a (s ∷ rest) h =
    let later = read_of-appended n m a rest (rising_rest s rest h) in
    elim (cases_order m s.number) [
      | inl same ↦ grind (arith, common_steps, nat_tests, append-nil (s.synced ++ s.pending), append-nil (read_of n rest))
      | inr (inl below) ↦
          let none : read_of m rest ≡ [] = read_of-absent m rest (above_lower m s.number rest below (above_first s rest h)) in
          grind (arith, common_steps, nat_tests, none, append-nil (s.synced ++ s.pending), append-nil (read_of n rest))
      | inr (inr above) ↦ grind (arith, common_steps, nat_tests, later, append-nil (s.synced ++ s.pending))
    ]

-- ---- syncs

pub synced_of-synced_at : (n m : ℕ) (js : List Section) → synced_of n (synced_at m js) ≡ (if n == m then read_of n js else synced_of n js)
unfolding synced_of read_of synced_at synced_section
synced_of-synced_at n m [] = grind (arith, common_steps)
synced_of-synced_at n m (s ∷ rest) = grind (arith, common_steps, nat_tests, synced_of-synced_at n m rest)

pub read_of-synced_at : (n m : ℕ) (js : List Section) → read_of n (synced_at m js) ≡ read_of n js
unfolding read_of synced_at synced_section
read_of-synced_at n m [] = refl
read_of-synced_at n m (s ∷ rest) = grind (arith, common_steps, nat_tests, append-nil (s.synced ++ s.pending), read_of-synced_at n m rest)

pub synced_of-all_synced : (n : ℕ) (js : List Section) → synced_of n (all_synced js) ≡ read_of n js
unfolding synced_of read_of all_synced synced_section
synced_of-all_synced n [] = refl
synced_of-all_synced n (s ∷ rest) = grind (arith, common_steps, synced_of-all_synced n rest)

pub read_of-all_synced : (n : ℕ) (js : List Section) → read_of n (all_synced js) ≡ read_of n js
unfolding read_of all_synced synced_section
read_of-all_synced n [] = refl
read_of-all_synced n (s ∷ rest) = grind (arith, common_steps, append-nil (s.synced ++ s.pending), read_of-all_synced n rest)

-- what is read begins with what is synced
pub read_of-synced : (n : ℕ) (js : List Section) → (rest : List Artifact) × (read_of n js ≡ synced_of n js ++ rest)
unfolding synced_of read_of
read_of-synced n [] = ([], refl)
read_of-synced n (s ∷ rest) =
    let later = read_of-synced n rest in
    elim (n == s.number) as (λ b. (more : List Artifact) × ((if b then s.synced ++ s.pending else read_of n rest) ≡ (if b then s.synced else synced_of n rest) ++ more)) [
      | true ↦ (s.pending, refl)
      | false ↦ later
    ]

-- ---- prunes

pub synced_of-pruned : (n least : ℕ) (js : List Section) → nat_lt n least ≡ false → synced_of n (pruned least js) ≡ synced_of n js
unfolding synced_of pruned
synced_of-pruned n least [] h = refl
synced_of-pruned n least (s ∷ rest) h = grind (arith, common_steps, nat_tests, h, synced_of-pruned n least rest h)

pub read_of-pruned : (n least : ℕ) (js : List Section) → nat_lt n least ≡ false → read_of n (pruned least js) ≡ read_of n js
unfolding read_of pruned
read_of-pruned n least [] h = refl
read_of-pruned n least (s ∷ rest) h = grind (arith, common_steps, nat_tests, h, read_of-pruned n least rest h)

pub synced_of-pruned_first : (n count least : ℕ) (js : List Section) → nat_lt n least ≡ false → synced_of n (pruned_first count least js) ≡ synced_of n js
unfolding synced_of pruned_first
synced_of-pruned_first n count least [] h = refl
synced_of-pruned_first n count least (s ∷ rest) h =
    grind (arith, common_steps, nat_tests, h, synced_of-pruned_first n (count - 1) least rest h, synced_of-pruned_first n count least rest h)

pub read_of-pruned_first : (n count least : ℕ) (js : List Section) → nat_lt n least ≡ false → read_of n (pruned_first count least js) ≡ read_of n js
unfolding read_of pruned_first
read_of-pruned_first n count least [] h = refl
read_of-pruned_first n count least (s ∷ rest) h =
    grind (arith, common_steps, nat_tests, h, read_of-pruned_first n (count - 1) least rest h, read_of-pruned_first n count least rest h)

-- ---- stops

pub synced_of-crashed : (n keep : ℕ) (js : List Section) → (rest : List Artifact) × (synced_of n (crashed keep js) ≡ synced_of n js ++ rest)
unfolding synced_of crashed crashed_section
synced_of-crashed n keep [] = ([], refl)
synced_of-crashed n keep (s ∷ rest) =
    let later = synced_of-crashed n keep rest in
    elim (n == s.number) as (λ b. (more : List Artifact) × ((if b then s.synced ++ take keep s.pending else synced_of n (crashed keep rest)) ≡ (if b then s.synced else synced_of n rest) ++ more)) [
      | true ↦ (take keep s.pending, refl)
      | false ↦ later
    ]

pub replayed-crashed : (keep : ℕ) (js : List Section) → replayed (crashed keep js) ≡ flat_map (λ s. s.synced ++ take keep s.pending) js
unfolding replayed crashed crashed_section
replayed-crashed keep [] = refl
replayed-crashed keep (s ∷ rest) = grind (arith, common_steps, append-nil (s.synced ++ take keep s.pending), replayed-crashed keep rest)

-- records in front, or behind, change no order
stand_behind : (front xs ys : List Artifact) → StandIn xs ys → StandIn xs (front ++ ys)
unfolding StandIn
stand_behind [] xs ys h = h
stand_behind (a ∷ front) [] ys h = tt
stand_behind (a ∷ front) (x ∷ xs) ys h = inr (stand_behind front (x ∷ xs) ys h)

stand_with : (front xs ys : List Artifact) → StandIn xs ys → StandIn (front ++ xs) (front ++ ys)
unfolding StandIn
stand_with [] xs ys h = h
stand_with (a ∷ front) xs ys h = inl (refl, stand_with front xs ys h)

pub kept_stand : (keep : ℕ) (js : List Section) → StandIn (kept js) (replayed (crashed keep js))
unfolding StandIn kept replayed crashed crashed_section
kept_stand keep [] = tt
kept_stand keep (s ∷ rest) =
    let later = stand_behind (take keep s.pending) (kept rest) (replayed (crashed keep rest)) (kept_stand keep rest) in
    let read = replayed (crashed keep rest) in
    let whole = stand_with s.synced (kept rest) (take keep s.pending ++ read) later in
    let is : ((s.synced ++ take keep s.pending) ++ []) ++ read ≡ s.synced ++ (take keep s.pending ++ read) =
    ap (λ xs. xs ++ read) (append-nil (s.synced ++ take keep s.pending)) ∙ append_assoc s.synced (take keep s.pending) read in
    subst (λ (xs : List Artifact). StandIn (s.synced ++ kept rest) xs) (sym is) whole

-- ---- all sections

-- the first section is none of those above it
read-past : (s : Section) (rest js : List Section) → Above s.number js → flat_map (λ n. read_of n (s ∷ rest)) (numbers js) ≡ flat_map (λ n. read_of n rest) (numbers js)
unfolding Above numbers read_of
read-past s rest [] h = refl
read-past s rest (t ∷ js) h = let first : s.number < t.number = h.0 in grind (arith, common_steps, nat_tests, read-past s rest js h.1)

pub replayed-sections : (js : List Section) → IsRising js → replayed js ≡ flat_map (λ n. read_of n js) (numbers js)
unfolding replayed numbers read_of
replayed-sections [] h = refl
replayed-sections (s ∷ rest) h =
    grind (arith, common_steps, nat_tests, read-past s rest rest (above_first s rest h), replayed-sections rest (rising_rest s rest h))

pub Contains-read_of : (n : ℕ) (js : List Section) (x : Artifact) → Contains (read_of n js) x → Contains (replayed js) x
unfolding read_of replayed
Contains-read_of n [] x h = h
Contains-read_of n (s ∷ rest) x h =
    elim (n == s.number) as (λ b. Contains (if b then s.synced ++ s.pending else read_of n rest) x → Contains (s.synced ++ s.pending ++ replayed rest) x) [
      | true ↦ λ here. Contains-append_left (s.synced ++ s.pending) (replayed rest) x here
      | false ↦ λ there. Contains-append_right (s.synced ++ s.pending) (replayed rest) x (Contains-read_of n rest x there)
    ] h
