-- Which votes a step appended and synced, by their spellings.
use Rattle.std.specs.Prelude.{ℕ, ◌≡◌, ◌||◌, ◌&&◌, Bool, true, false, List, [], ◌∷◌, Option, Some, None}
use Rattle.std.specs.BTreeMap.{BTreeMap}
use Rattle.std.specs.BTreeSet as set
use Rattle.std.specs.Cmp.Lexicographic.{slice_cmp}
use Rattle.std.specs.Ordering.{nat_cmp}
use Rattle.std.specs.List.{filter_map, list_any}
use Rattle.std.specs.Option.{option_map_or}
use Rattle.std.specs.Str.{bytes_eq}
use Rattle.simplex_values.specs.Maps.{found}
use Rattle.simplex_wire.specs.declared.artifact.Artifact.{Artifact}
use Rattle.simplex_wire.specs.declared.artifact.Artifact.TheVariants as artifacts
use Rattle.simplex_wire.specs.declared.vote.Vote.{Vote}
use Rattle.simplex_wire.specs.declared.vote.Vote.TheVariants as votes
use Rattle.simplex_wire.specs.Message as format
use Rattle.simplex_messages.specs.declared.call.Call.{Call}
use Rattle.simplex_messages.specs.declared.call.Call.TheVariants as calls
use Rattle.model_audit.specs.declared.record.AuditCall.{AuditCall}
use Rattle.model_audit.specs.Order.{is_sync_of, may_call}
use Rattle.model_audit.specs.Rebuilt.{call_for}
use Rattle.simplex_stored.specs.declared.spellings.Spellings.{Spellings}
use Rattle.simplex_stored.specs.declared.before.Before.{Before}

-- ---- records

-- the vote that a record is
abbrev pub vote_of : Artifact → Option Vote
vote_of (artifacts.Notarize v) = Some (votes.Notarize v)
vote_of (artifacts.Nullify v) = Some (votes.Nullify v)
vote_of (artifacts.Finalize v) = Some (votes.Finalize v)
vote_of _ = None

-- these bytes spell the vote that the record is
abbrev pub is_spelled : List ℕ → Artifact → Bool
is_spelled bytes artifact = option_map_or (λ v. bytes_eq bytes (format.vote.spelling v)) (vote_of artifact) false

-- it is the nullify that these bytes spell
abbrev pub is_nullify : List ℕ → Artifact → Bool
is_nullify bytes (artifacts.Nullify v) = bytes_eq bytes (format.vote.spelling (votes.Nullify v))
is_nullify bytes _ = false

-- ---- calls

-- a call of a record as one of a run, if it is told
abbrev pub made : AuditCall → List Call
made call = filter_map call_for (call ∷ [])

-- the call may be made behind these
abbrev pub may_make : List Artifact → List Call → AuditCall → Bool
may_make held before call = option_map_or (may_call held before) (call_for call) true

-- the record of this vote was appended to a section that the later call syncs
abbrev pub is_synced_by : List ℕ → Call → Call → Bool
is_synced_by bytes later (calls.Append section artifact) = is_sync_of section later && is_spelled bytes artifact
is_synced_by bytes later call = false

-- it was appended to the section
abbrev pub was_appended : ℕ → List ℕ → List Call → Bool
was_appended section bytes before = list_any (is_synced_by bytes (calls.Sync section)) before

-- it was appended, and its section synced behind that
unfoldable pub is_stored : List ℕ → List Call → Bool
is_stored bytes [] = false
is_stored bytes (call ∷ rest) = list_any (λ later. is_synced_by bytes later call) rest || is_stored bytes rest

-- ---- what is kept

unfoldable pub is_in : Spellings → List ℕ → Bool
is_in spellings bytes = set.contains_by (λ kept. slice_cmp nat_cmp bytes kept.items) spellings.bytes

-- the bytes wait in this section
unfoldable pub waits : BTreeMap ℕ (List (List ℕ)) → ℕ → List ℕ → Bool
waits waiting section bytes = option_map_or (λ spellings. list_any (bytes_eq bytes) spellings) (found waiting section) false

-- it keeps what these calls stored, and what they appended besides
pub record BeforeStands (before : Before) (calls : List Call) : Type 0 where
  pub stored : (bytes : List ℕ) → is_in before.stored bytes ≡ is_stored bytes calls
  pub waiting : (section : ℕ) (bytes : List ℕ) → (waits before.waiting section bytes || is_stored bytes calls)
      ≡ (was_appended section bytes calls || is_stored bytes calls)
