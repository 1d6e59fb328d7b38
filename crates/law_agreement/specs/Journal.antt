-- A journal in sections, one a view: what is synced, and what is pending.
use Rattle.std.specs.Prelude.{ℕ, ◌==◌, nat_lt, nat_le, if◌then◌else◌, List, [], ◌∷◌, ◌++◌, take, map, filter}
use Rattle.law_agreement.specs.Artifacts.{Artifact, artifact_view}

-- the records of one view: those that a crash leaves, and those appended since
pub record Section : Type 0 where
  pub view : ℕ
  pub synced : List Artifact
  pub pending : List Artifact

-- a section that begins with this record
abbrev pub opened : ℕ → Artifact → Section
opened view a = record { view = view; synced = []; pending = a ∷ [] }

-- one more pending record in the view's section; sections stand in rising order
abbrev pub append_to : ℕ → Artifact → List Section → List Section
append_to view a [] = opened view a ∷ []
append_to view a (s ∷ rest) =
    if s.view == view then record s { pending = s.pending ++ a ∷ [] } ∷ rest
    else (if nat_lt view s.view then opened view a ∷ s ∷ rest else s ∷ append_to view a rest)

-- one more pending record, in the section of its view
abbrev pub append : Artifact → List Section → List Section
append a journal = append_to (artifact_view a) a journal

-- one after the other
abbrev pub append_all : List Artifact → List Section → List Section
append_all [] journal = journal
append_all (a ∷ rest) journal = append_all rest (append a journal)

-- the section with nothing pending
abbrev pub synced_section : Section → Section
synced_section s = record { view = s.view; synced = s.synced ++ s.pending; pending = [] }

-- the view's section is synced
abbrev pub sync : ℕ → List Section → List Section
sync view journal = map (λ s. if s.view == view then synced_section s else s) journal

-- what a crash leaves: all that is synced, and of each section as many pending records as it happens
abbrev pub left : (ℕ → ℕ) → List Section → List Section
left keep journal =
    map (λ s. record { view = s.view; synced = s.synced ++ take (keep s.view) s.pending; pending = [] }) journal

-- the sections from this view on
abbrev pub prune : ℕ → List Section → List Section
prune min journal = filter (λ s. nat_le min s.view) journal

-- the synced records, in the order of the sections
abbrev pub kept : List Section → List Artifact
kept [] = []
kept (s ∷ rest) = s.synced ++ kept rest

-- all records, in the order of the sections
abbrev pub held : List Section → List Artifact
held [] = []
held (s ∷ rest) = (s.synced ++ s.pending) ++ held rest

-- the pending records, in the order of the sections
abbrev pub waiting : List Section → List Artifact
waiting [] = []
waiting (s ∷ rest) = s.pending ++ waiting rest
