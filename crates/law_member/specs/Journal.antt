-- What calls make of a journal, and what is read of it.
use Rattle.std.specs.Prelude.{◌≡◌, ℕ, ◌==◌, ◌⊎◌, nat_lt, Bool, true, false, if◌then◌else◌, List, [], ◌∷◌, ◌++◌}
use Rattle.simplex_wire.specs.declared.artifact.Artifact.{Artifact}
use Rattle.simplex_journal.specs.Journal.{Section, appended, synced_at, all_synced, pruned, pruned_first, crashed}

-- a call that changed a journal, a prune that failed behind so many sections, or a stop that kept so many pending records
-- of each section. A history is a list of these, the newest first
pub data Call : Type 0 where
  Append : (section : ℕ) → (artifact : Artifact) → Call
  Sync : (section : ℕ) → Call
  SyncAll : Call
  Prune : (least : ℕ) → Call
  PruneFirst : (count : ℕ) → (least : ℕ) → Call
  Stop : (keep : ℕ) → Call

-- what it leaves
unfoldable pub after_call : Call → List Section → List Section
after_call (Append section artifact) sections = appended section artifact sections
after_call (Sync section) sections = synced_at section sections
after_call SyncAll sections = all_synced sections
after_call (Prune least) sections = pruned least sections
after_call (PruneFirst count least) sections = pruned_first count least sections
after_call (Stop keep) sections = crashed keep sections

-- what a history leaves of a journal that had these sections at first
unfoldable pub after : List Section → List Call → List Section
after first [] = first
after first (call ∷ past) = after_call call (after first past)

-- the synced records of the section of this number; none where it is not there
unfoldable pub synced_of : ℕ → List Section → List Artifact
synced_of number [] = []
synced_of number (s ∷ rest) = if number == s.number then s.synced else synced_of number rest

-- all its records, as they are read
unfoldable pub read_of : ℕ → List Section → List Artifact
read_of number [] = []
read_of number (s ∷ rest) = if number == s.number then s.synced ++ s.pending else read_of number rest

-- whether the call may drop the section
abbrev pub prunes : ℕ → Call → Bool
prunes section (Prune least) = nat_lt section least
prunes section (PruneFirst count least) = nat_lt section least
prunes section _ = false

-- whether the call syncs the section
abbrev pub syncs : ℕ → Call → Bool
syncs section (Sync number) = section == number
syncs section SyncAll = true
syncs section _ = false

abbrev pub is_stop : Call → Bool
is_stop (Stop keep) = true
is_stop _ = false

-- the first records are these
abbrev pub BeginsWith : List Artifact → List Artifact → Type 0
BeginsWith records first = (rest : List Artifact) × (records ≡ first ++ rest)

-- the records stand among those, in the same order
unfoldable pub StandIn : List Artifact → List Artifact → Type 0
StandIn [] all = Unit {0}
StandIn (one ∷ others) [] = ⊥
StandIn (one ∷ others) (next ∷ all) = ((one ≡ next) × StandIn others all) ⊎ StandIn (one ∷ others) all
