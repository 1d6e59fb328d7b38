-- Which records stand in a journal's contents after a call.
use Rattle.std.proofs.Common.{◌≡◌, ◌∙◌, ◌≤◌, ℕ, ◌-◌, refl, sym, subst, inl, inr, ◌⊎◌, List, [], ◌∷◌, ◌++◌, take, drop, arith, append_assoc}
use Rattle.std.specs.List.{Contains}
use Rattle.std.proofs.lemmas.Grind.{common_steps}
use Rattle.std.proofs.lemmas.Bool.{cases_order, cases_lt}
use Rattle.std.proofs.lemmas.Bool.Decides.{nat_tests}
use Rattle.std.proofs.lemmas.List.{append-nil, take-append-drop}
use Rattle.std.proofs.lemmas.List.Elements.{Contains-append_left, Contains-append_right, Contains-append_cases, All-contains, All-cons, All-nil, All-push}
use Rattle.simplex_journal.proofs.Contents.{nil_parts, appended-here, appended-below, appended-past}
use Rattle.simplex_wire.specs.declared.artifact.Artifact.{Artifact}
use Rattle.simplex_journal.specs.Contents.{kept, waiting, IsPlaced}
use Rattle.simplex_journal.specs.Journal.{Section, opened_section, appended_section, crashed_section, appended, pruned, pruned_first, crashed, replayed}

-- An append puts its record among the others.
pub replayed-appended : (n : ℕ) (a : Artifact) (js : List Section)
    → (before after : List Artifact) × (replayed js ≡ before ++ after) × (replayed (appended n a js) ≡ before ++ a ∷ after)
unfolding replayed appended opened_section appended_section
replayed-appended n a [] = ([], [], refl, refl)
replayed-appended n a (s ∷ rest) =
    let later = replayed-appended n a rest in
    elim (cases_order n s.number) [
      | inl same ↦ (s.synced ++ s.pending, replayed rest, refl, grind (arith, common_steps, nat_tests))
      | inr (inl below) ↦ ([], s.synced ++ s.pending ++ replayed rest, refl, grind (arith, common_steps, nat_tests))
      | inr (inr above) ↦ (s.synced ++ s.pending ++ later.0, later.1, grind (arith, common_steps, later.2), grind (arith, common_steps, nat_tests, later.3))
    ]

-- A stop adds no record.
pub Contains-crashed : (keep : ℕ) (js : List Section) (x : Artifact) → Contains (replayed (crashed keep js)) x → Contains (replayed js) x
unfolding replayed crashed crashed_section
Contains-crashed keep [] x h = h
Contains-crashed keep (s ∷ rest) x h =
    let split : s.pending ≡ take keep s.pending ++ drop keep s.pending = sym (take-append-drop keep s.pending) in
    let first : Contains (s.synced ++ take keep s.pending) x ⊎ Contains (replayed rest) x =
    elim (Contains-append_cases (s.synced ++ take keep s.pending ++ []) (replayed (crashed keep rest)) x h) [
      | inl here ↦ inl (rw append-nil at here)
      | inr there ↦ inr (Contains-crashed keep rest x there)
    ] in
    elim first [
      | inl here ↦ elim (Contains-append_cases s.synced (take keep s.pending) x here) [
        | inl synced ↦ Contains-append_left _ (replayed rest) x (Contains-append_left s.synced s.pending x synced)
        | inr pending ↦ Contains-append_left _ (replayed rest) x (Contains-append_right s.synced s.pending x (rw split (Contains-append_left _ (drop keep s.pending) x pending)))
      ]
      | inr there ↦ Contains-append_right (s.synced ++ s.pending) (replayed rest) x there
    ]

-- A stop keeps the synced records.
pub Contains-crashed_kept : (keep : ℕ) (js : List Section) (x : Artifact) → Contains (kept js) x → Contains (replayed (crashed keep js)) x
unfolding replayed crashed crashed_section kept
Contains-crashed_kept keep [] x h = h
Contains-crashed_kept keep (s ∷ rest) x h = elim (Contains-append_cases s.synced (kept rest) x h) [
  | inl here ↦ Contains-append_left _ (replayed (crashed keep rest)) x (Contains-append_left _ [] x (Contains-append_left s.synced (take keep s.pending) x here))
  | inr there ↦ Contains-append_right (s.synced ++ take keep s.pending ++ []) (replayed (crashed keep rest)) x (Contains-crashed_kept keep rest x there)
]

-- A prune adds no record.
pub Contains-pruned : (least : ℕ) (js : List Section) (x : Artifact) → Contains (replayed (pruned least js)) x → Contains (replayed js) x
unfolding replayed pruned
Contains-pruned least [] x h = h
Contains-pruned least (s ∷ rest) x h = elim (cases_lt s.number least) [
  | inl below ↦
      let drops : replayed (pruned least (s ∷ rest)) ≡ replayed (pruned least rest) = grind (arith, common_steps, nat_tests) in
      Contains-append_right (s.synced ++ s.pending) (replayed rest) x (Contains-pruned least rest x (rw drops at h))
  | inr above ↦
      let keeps : replayed (pruned least (s ∷ rest)) ≡ s.synced ++ s.pending ++ replayed (pruned least rest) = grind (arith, common_steps, nat_tests) in
      elim (Contains-append_cases (s.synced ++ s.pending) (replayed (pruned least rest)) x (rw keeps at h)) [
        | inl here ↦ Contains-append_left (s.synced ++ s.pending) (replayed rest) x here
        | inr there ↦ Contains-append_right (s.synced ++ s.pending) (replayed rest) x (Contains-pruned least rest x there)
      ]
]

-- A prune in part, and then a whole one, is the whole one.
pub pruned-pruned_first : (count least : ℕ) (js : List Section) → pruned least (pruned_first count least js) ≡ pruned least js
unfolding pruned pruned_first
pruned-pruned_first count least [] = refl
pruned-pruned_first count least (s ∷ rest) = grind (arith, common_steps, nat_tests, pruned-pruned_first (count - 1) least rest, pruned-pruned_first count least rest)

-- What stands behind a whole prune stands behind one in part.
pub Contains-pruned_first : (count least : ℕ) (js : List Section) (x : Artifact) → Contains (replayed (pruned least js)) x → Contains (replayed (pruned_first count least js)) x
Contains-pruned_first count least js x h =
    let same : pruned least js ≡ pruned least (pruned_first count least js) = sym (pruned-pruned_first count least js) in
    Contains-pruned least (pruned_first count least js) x (rw same at h)

-- A prune keeps the records whose place is not below the least number.
pub Contains-pruned_placed : (place : Artifact → ℕ) (least : ℕ) (js : List Section) (x : Artifact) → IsPlaced place js → least ≤ place x
    → Contains (replayed js) x → Contains (replayed (pruned least js)) x
unfolding replayed pruned IsPlaced
Contains-pruned_placed place least [] x placed above h = h
Contains-pruned_placed place least (s ∷ rest) x placed above h =
    elim (cases_lt s.number least) [
      | inl below ↦
          let drops : replayed (pruned least (s ∷ rest)) ≡ replayed (pruned least rest) = grind (arith, common_steps, nat_tests) in
          elim (Contains-append_cases (s.synced ++ s.pending) (replayed rest) x h) [
            | inl here ↦
                let at : place x ≡ s.number = All-contains (λ artifact. place artifact ≡ s.number) (s.synced ++ s.pending) x placed.0 here in
                absurd (omega arith)
            | inr there ↦ rw drops (Contains-pruned_placed place least rest x placed.1 above there)
          ]
      | inr past ↦
          let keeps : replayed (pruned least (s ∷ rest)) ≡ s.synced ++ s.pending ++ replayed (pruned least rest) = grind (arith, common_steps, nat_tests) in
          elim (Contains-append_cases (s.synced ++ s.pending) (replayed rest) x h) [
            | inl here ↦ rw keeps (Contains-append_left (s.synced ++ s.pending) (replayed (pruned least rest)) x here)
            | inr there ↦ rw keeps (Contains-append_right (s.synced ++ s.pending) (replayed (pruned least rest)) x (Contains-pruned_placed place least rest x placed.1 above there))
          ]
    ]

-- An append to a journal with no section.
appended-empty : (n : ℕ) (a : Artifact) → appended n a [] ≡ opened_section n a ∷ []
unfolding appended
appended-empty n a = refl

-- An append at the record's place keeps each record in its place.
pub IsPlaced-appended : (place : Artifact → ℕ) (n : ℕ) (a : Artifact) (js : List Section) → place a ≡ n → IsPlaced place js → IsPlaced place (appended n a js)
unfolding IsPlaced opened_section appended_section
IsPlaced-appended place n a [] here h =
    let P : List Section → Type 0 = λ js. IsPlaced place js in
    subst P (sym (appended-empty n a)) (All-cons (λ artifact. place artifact ≡ n) a [] here (All-nil (λ artifact. place artifact ≡ n)), tt)
IsPlaced-appended place n a (s ∷ rest) here h =
    let P : List Section → Type 0 = λ js. IsPlaced place js in
    elim (cases_order n s.number) [
      | inl same ↦
          let at : place a ≡ s.number = here ∙ same in
          subst P (sym (appended-here n a s rest same))
          (rw (← append_assoc) (All-push (λ artifact. place artifact ≡ s.number) (s.synced ++ s.pending) a h.0 at), h.1)
      | inr (inl below) ↦
          subst P (sym (appended-below n a s rest below))
          (All-cons (λ artifact. place artifact ≡ n) a [] here (All-nil (λ artifact. place artifact ≡ n)), h)
      | inr (inr above) ↦ subst P (sym (appended-past n a s rest above)) (h.0, IsPlaced-appended place n a rest here h.1)
    ]

-- Nothing is pending behind a prune where nothing was.
pub waiting-pruned : (least : ℕ) (js : List Section) → waiting js ≡ [] → waiting (pruned least js) ≡ []
unfolding waiting pruned
waiting-pruned least [] h = refl
waiting-pruned least (s ∷ rest) h =
    let parts = nil_parts s.pending (waiting rest) h in
    let gone : s.pending ≡ [] = parts.0 in
    let later : waiting (pruned least rest) ≡ [] = waiting-pruned least rest parts.1 in
    grind (arith, common_steps, nat_tests)
