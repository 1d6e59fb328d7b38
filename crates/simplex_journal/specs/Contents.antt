-- What is read off the contents of a journal, and several calls as one.
use Rattle.std.specs.Prelude.{All, ◌≡◌, ◌==◌, ℕ, nat_lt, if◌then◌else◌, List, [], ◌∷◌, ◌++◌}
use Rattle.std.specs.Ordering.{nat_cmp}
use Rattle.std.specs.List.Sorted.{IsStrictlySortedBy}
use Rattle.simplex_wire.specs.declared.artifact.Artifact.{Artifact}
use Rattle.simplex_journal.specs.Journal.{Section, appended}

-- These records are appended to the section of this number, in order.
unfoldable pub appended_all : ℕ → List Artifact → List Section → List Section
appended_all number [] sections = sections
appended_all number (artifact ∷ rest) sections = appended_all number rest (appended number artifact sections)

-- These records are appended to the section of this number, which is synced then.
unfoldable pub recorded : ℕ → List Artifact → List Section → List Section
recorded number records [] = record { number = number; synced = records; pending = [] } ∷ []
recorded number records (s ∷ rest) =
    if nat_lt number s.number then record { number = number; synced = records; pending = [] } ∷ s ∷ rest
    else
    (if number == s.number
    then record { number = s.number; synced = s.synced ++ s.pending ++ records; pending = [] } ∷ rest
    else s ∷ recorded number records rest)

-- The synced records, in section order.
unfoldable pub kept : List Section → List Artifact
kept [] = []
kept (s ∷ rest) = s.synced ++ kept rest

-- The pending records, in section order.
unfoldable pub waiting : List Section → List Artifact
waiting [] = []
waiting (s ∷ rest) = s.pending ++ waiting rest

-- The numbers of the sections, in order.
unfoldable pub numbers : List Section → List ℕ
numbers [] = []
numbers (s ∷ rest) = s.number ∷ numbers rest

-- The numbers of the sections rise.
abbrev pub IsRising : List Section → Type 0
IsRising sections = IsStrictlySortedBy nat_cmp (numbers sections)

-- Each record stands in the section of its place.
unfoldable pub IsPlaced : (Artifact → ℕ) → List Section → Type 0
IsPlaced place [] = Unit {0}
IsPlaced place (s ∷ rest) = All (λ artifact. place artifact ≡ s.number) (s.synced ++ s.pending) × IsPlaced place rest
