-- What calls make of a journal's contents.
use Rattle.std.proofs.Common.{◌≡◌, ◌<◌, ℕ, refl, sym, ◌∙◌, inl, inr, List, [], ◌∷◌, ◌++◌, take, arith}
use Rattle.std.proofs.lemmas.Grind.{common_steps}
use Rattle.std.proofs.lemmas.Bool.{cases_order}
use Rattle.std.proofs.lemmas.Bool.Decides.{nat_tests}
use Rattle.std.proofs.lemmas.List.{append-nil}
use Rattle.simplex_wire.specs.declared.artifact.Artifact.{Artifact}
use Rattle.simplex_journal.specs.Contents.{appended_all, recorded, kept, waiting}
use Rattle.simplex_journal.specs.Journal.{Section, opened_section, appended_section, synced_section, crashed_section, appended, synced_at, all_synced, crashed, replayed}

-- ---- where nothing is pending

-- Both parts of an empty list are empty.
pub nil_parts : {X : Type 0} (xs ys : List X) → xs ++ ys ≡ [] → (xs ≡ []) × (ys ≡ [])
nil_parts [] ys h = (refl, h)
nil_parts (x ∷ xs) ys h = cc

-- All records are synced.
pub kept-rested : (js : List Section) → waiting js ≡ [] → kept js ≡ replayed js
unfolding waiting kept replayed
kept-rested [] h = refl
kept-rested (s ∷ rest) h =
    let parts = nil_parts s.pending (waiting rest) h in
    rw (parts.0, append-nil, kept-rested rest parts.1)

-- A stop changes nothing.
pub crashed-rested : (keep : ℕ) (js : List Section) → waiting js ≡ [] → crashed keep js ≡ js
unfolding waiting crashed crashed_section
crashed-rested keep [] h = refl
crashed-rested keep (s ∷ rest) h =
    let parts = nil_parts s.pending (waiting rest) h in
    let gone : s.pending ≡ [] = parts.0 in
    let none : s.synced ++ take keep s.pending ≡ s.synced = rw gone (grind (arith, common_steps, append-nil s.synced)) in
    let later : crashed keep rest ≡ rest = crashed-rested keep rest parts.1 in
    rw (none, later, ← gone)

-- ---- appends

-- An append to the first section.
pub appended-here : (n : ℕ) (a : Artifact) (s : Section) (rest : List Section) → n ≡ s.number → appended n a (s ∷ rest) ≡ appended_section a s ∷ rest
unfolding appended
appended-here n a s rest same = grind (arith, common_steps, nat_tests)

-- An append before the first section opens one.
pub appended-below : (n : ℕ) (a : Artifact) (s : Section) (rest : List Section) → n < s.number → appended n a (s ∷ rest) ≡ opened_section n a ∷ s ∷ rest
unfolding appended
appended-below n a s rest below = grind (arith, common_steps, nat_tests)

-- An append behind the first section leaves it.
pub appended-past : (n : ℕ) (a : Artifact) (s : Section) (rest : List Section) → s.number < n → appended n a (s ∷ rest) ≡ s ∷ appended n a rest
unfolding appended
appended-past n a s rest above = grind (arith, common_steps, nat_tests)

-- An append leaves the synced records.
pub kept-appended : (n : ℕ) (a : Artifact) (js : List Section) → kept (appended n a js) ≡ kept js
unfolding kept appended opened_section appended_section
kept-appended n a [] = refl
kept-appended n a (s ∷ rest) = grind (arith, common_steps, kept-appended n a rest)

-- So do several.
pub kept-appended_all : (n : ℕ) (xs : List Artifact) (js : List Section) → kept (appended_all n xs js) ≡ kept js
unfolding appended_all
kept-appended_all n [] js = refl
kept-appended_all n (a ∷ xs) js = kept-appended_all n xs (appended n a js) ∙ kept-appended n a js

-- ---- syncs

-- A sync leaves all records.
pub replayed-synced_at : (n : ℕ) (js : List Section) → replayed (synced_at n js) ≡ replayed js
unfolding replayed synced_at synced_section
replayed-synced_at n [] = refl
replayed-synced_at n (s ∷ rest) = grind (arith, common_steps, append-nil (s.synced ++ s.pending), replayed-synced_at n rest)

-- So does a sync of all sections.
pub replayed-all_synced : (js : List Section) → replayed (all_synced js) ≡ replayed js
unfolding replayed all_synced synced_section
replayed-all_synced [] = refl
replayed-all_synced (s ∷ rest) = grind (arith, common_steps, append-nil (s.synced ++ s.pending), replayed-all_synced rest)

-- Nothing is pending behind a sync of all sections.
pub waiting-all_synced : (js : List Section) → waiting (all_synced js) ≡ []
unfolding waiting all_synced synced_section
waiting-all_synced [] = refl
waiting-all_synced (s ∷ rest) = waiting-all_synced rest

-- Nor behind a sync of one where nothing was pending.
pub waiting-synced_at : (n : ℕ) (js : List Section) → waiting js ≡ [] → waiting (synced_at n js) ≡ []
unfolding waiting synced_at synced_section
waiting-synced_at n [] h = refl
waiting-synced_at n (s ∷ rest) h =
    let parts = nil_parts s.pending (waiting rest) h in
    grind (arith, common_steps, parts.0, parts.1, waiting-synced_at n rest parts.1)

-- ---- appends to one section, and its sync

-- Appends to the first section are behind its pending records.
pub appended_all-here : (n : ℕ) (xs : List Artifact) (s : Section) (rest : List Section) → s.number ≡ n
    → appended_all n xs (s ∷ rest) ≡ record s { pending = s.pending ++ xs } ∷ rest
unfolding appended_all appended appended_section
appended_all-here n [] s rest same = rw append-nil
appended_all-here n (a ∷ xs) s rest same =
    let more = appended_all-here n xs (record s { pending = s.pending ++ a ∷ [] }) rest same in
    grind (arith, common_steps, nat_tests, more)

-- Appends to a section behind the first leave the first.
pub appended_all-past : (n : ℕ) (xs : List Artifact) (s : Section) (rest : List Section) → s.number < n
    → appended_all n xs (s ∷ rest) ≡ s ∷ appended_all n xs rest
unfolding appended_all appended
appended_all-past n [] s rest above = refl
appended_all-past n (a ∷ xs) s rest above = grind (arith, common_steps, nat_tests, appended_all-past n xs s (appended n a rest) above)

-- A list of appends to one section, and its sync.
pub synced_at-appended_all : (n : ℕ) (a : Artifact) (xs : List Artifact) (js : List Section)
    → synced_at n (appended_all n (a ∷ xs) js) ≡ recorded n (a ∷ xs) js
unfolding synced_at synced_section appended_all appended appended_section opened_section recorded
synced_at-appended_all n a xs [] = grind (arith, common_steps, nat_tests, appended_all-here n xs (opened_section n a) [] refl)
synced_at-appended_all n a xs (s ∷ rest) = elim (cases_order n s.number) [
  | inl same ↦ grind (arith, common_steps, nat_tests, appended_all-here n xs (appended_section a s) rest (sym same))
  | inr (inl below) ↦ grind (arith, common_steps, nat_tests, appended_all-here n xs (opened_section n a) (s ∷ rest) refl)
  | inr (inr above) ↦ grind (arith, common_steps, nat_tests, appended_all-past n (a ∷ xs) s rest above, synced_at-appended_all n a xs rest)
]

-- Nothing is pending behind it, where nothing was.
pub waiting-recorded : (n : ℕ) (xs : List Artifact) (js : List Section) → waiting js ≡ [] → waiting (recorded n xs js) ≡ []
unfolding waiting recorded
waiting-recorded n xs [] h = refl
waiting-recorded n xs (s ∷ rest) h =
    let parts = nil_parts s.pending (waiting rest) h in
    let gone : s.pending ≡ [] = parts.0 in
    let none : waiting rest ≡ [] = parts.1 in
    let later : waiting (recorded n xs rest) ≡ [] = waiting-recorded n xs rest none in
    elim (cases_order n s.number) [
      | inl same ↦ grind (arith, common_steps, nat_tests)
      | inr (inl below) ↦ grind (arith, common_steps, nat_tests)
      | inr (inr above) ↦ grind (arith, common_steps, nat_tests)
    ]

-- The synced records are those of before, and among them the new ones, where nothing was pending.
pub kept-recorded : (n : ℕ) (xs : List Artifact) (js : List Section) → waiting js ≡ []
    → (before after : List Artifact) × (kept js ≡ before ++ after) × (kept (recorded n xs js) ≡ before ++ xs ++ after)
unfolding waiting kept recorded
kept-recorded n xs [] h = ([], [], refl, refl)
kept-recorded n xs (s ∷ rest) h =
    let parts = nil_parts s.pending (waiting rest) h in
    let gone : s.pending ≡ [] = parts.0 in
    let later = kept-recorded n xs rest parts.1 in
    elim (cases_order n s.number) [
      | inl same ↦ (s.synced, kept rest, refl, grind (arith, common_steps, nat_tests, append-nil s.synced))
      | inr (inl below) ↦ ([], s.synced ++ kept rest, refl, grind (arith, common_steps, nat_tests))
      | inr (inr above) ↦ (s.synced ++ later.0, later.1, grind (arith, common_steps, later.2), grind (arith, common_steps, nat_tests, later.3))
    ]

-- ---- stops

-- Nothing is pending behind a stop.
pub waiting-crashed : (keep : ℕ) (js : List Section) → waiting (crashed keep js) ≡ []
unfolding waiting crashed crashed_section
waiting-crashed keep [] = refl
waiting-crashed keep (s ∷ rest) = waiting-crashed keep rest

-- A stop that keeps no pending record leaves the synced ones, in section order.
pub replayed-crashed_none : (js : List Section) → replayed (crashed 0 js) ≡ kept js
unfolding replayed crashed crashed_section kept
replayed-crashed_none [] = refl
replayed-crashed_none (s ∷ rest) = grind (arith, common_steps, append-nil s.synced, replayed-crashed_none rest)
