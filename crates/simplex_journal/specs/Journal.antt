-- What a journal keeps: a list of sections, in rising order of their numbers.
use Rattle.std.specs.Prelude.{ℕ, ◌-◌, ◌==◌, ◌&&◌, nat_lt, if◌then◌else◌, List, [], ◌∷◌, ◌++◌, take}
use Rattle.simplex_wire.specs.declared.artifact.Artifact.{Artifact}

-- One section: its synced records, and behind them the pending ones. It is there from its first append
-- until it is pruned, also where both lists are empty.
pub record Section : Type 0 where
  pub number : ℕ
  pub synced : List Artifact
  pub pending : List Artifact

-- The section with one more pending record.
unfoldable pub appended_section : Artifact → Section → Section
appended_section artifact s = record s { pending = s.pending ++ artifact ∷ [] }

-- The section with its pending records synced.
unfoldable pub synced_section : Section → Section
synced_section s = record { number = s.number; synced = s.synced ++ s.pending; pending = [] }

-- What a stop leaves of the section: the synced records and the first pending ones, all of them synced.
unfoldable pub crashed_section : ℕ → Section → Section
crashed_section keep s = record { number = s.number; synced = s.synced ++ take keep s.pending; pending = [] }

-- A section that begins with this record.
unfoldable pub opened_section : ℕ → Artifact → Section
opened_section number artifact = record { number = number; synced = []; pending = artifact ∷ [] }

-- A record is appended to the section of this number, which is opened at its place where it is not there.
unfoldable pub appended : ℕ → Artifact → List Section → List Section
appended number artifact [] = opened_section number artifact ∷ []
appended number artifact (s ∷ rest) =
    if nat_lt number s.number then opened_section number artifact ∷ s ∷ rest
    else (if number == s.number then appended_section artifact s ∷ rest else s ∷ appended number artifact rest)

-- The pending records of the section of this number are synced.
unfoldable pub synced_at : ℕ → List Section → List Section
synced_at number [] = []
synced_at number (s ∷ rest) = if number == s.number then synced_section s ∷ rest else s ∷ synced_at number rest

-- The pending records of all sections are synced.
unfoldable pub all_synced : List Section → List Section
all_synced [] = []
all_synced (s ∷ rest) = synced_section s ∷ all_synced rest

-- The sections below the least number are dropped.
unfoldable pub pruned : ℕ → List Section → List Section
pruned least [] = []
pruned least (s ∷ rest) = if nat_lt s.number least then pruned least rest else s ∷ pruned least rest

-- The first sections below the least number are dropped, so many or all of them where they are fewer.
unfoldable pub pruned_first : ℕ → ℕ → List Section → List Section
pruned_first count least [] = []
pruned_first count least (s ∷ rest) =
    if nat_lt 0 count && nat_lt s.number least then pruned_first (count - 1) least rest
    else s ∷ pruned_first count least rest

-- What a stop leaves of all sections.
unfoldable pub crashed : ℕ → List Section → List Section
crashed keep [] = []
crashed keep (s ∷ rest) = crashed_section keep s ∷ crashed keep rest

-- All records: the sections in rising order, and of each the synced before the pending.
unfoldable pub replayed : List Section → List Artifact
replayed [] = []
replayed (s ∷ rest) = s.synced ++ s.pending ++ replayed rest
