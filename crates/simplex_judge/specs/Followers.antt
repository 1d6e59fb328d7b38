-- What is followed of all nodes.
use Rattle.std.specs.Prelude.{◌≡◌, ◌∷◌, ◌*◌, [], ℕ, Bool, true, List, length, Option, Some, None, is_some, if◌then◌else◌}
use Rattle.std.specs.List.{slice_get}
use Rattle.std.specs.Option.{option_and_then}
use Rattle.simplex_transcript.specs.declared.event.Event.{Event}
use Rattle.simplex_transcript.specs.declared.node.Node.{Node}
use Rattle.simplex_transcript.specs.declared.setup.Setup.{Setup}
use Rattle.model_run.specs.Kinds.{is_node, members_of, runs_engine}
use Rattle.model_run.specs.Life.{Noted}
use Rattle.model_run.specs.Setting.{Setting}
use Rattle.law_run.specs.Complete.{node_named}
use Rattle.model_audit.specs.declared.record.AuditEntry.{AuditEntry}
use Rattle.model_audit.specs.Audit.{if_honest}
use Rattle.model_audit.specs.Rebuilt.{rebuilt, rebuilt_entry}
use Rattle.model_audit.specs.VotesDue.{sends_due}
use Rattle.simplex_records.specs.Seats.{node_at, seat_of}
use Rattle.simplex_case.specs.Taking.{own_node}
use Rattle.simplex_judge.specs.declared.follower.Follower.{Follower}
use Rattle.simplex_judge.specs.Followed.{IsFollowed, IsNext}

abbrev pub same : Option Follower → Option Follower
same follower = follower

-- what is followed of a node, if it exists
unfoldable pub at_seat : List (Option Follower) → Setup → Node → Option Follower
at_seat seats setup node = if is_node setup node then option_and_then same (slice_get seats (seat_of node)) else None

-- each node with an engine is followed at its seat, and no other
pub record FollowersStand (seats : List (Option Follower)) (setting : Setting) (before : List Noted) : Type 0 where
  pub count : length seats ≡ 2 * members_of setting.setup
  pub engines : (at : ℕ) (seat : Option Follower) → slice_get seats at ≡ Some seat → is_some seat ≡ runs_engine setting.setup (node_at at).member
  pub each : (at : ℕ) (follower : Follower) → slice_get seats at ≡ Some (Some follower) → IsFollowed follower setting before (node_at at)

-- whichever entries were followed, the next one is
abbrev pub Follow : List (Option Follower) → List (Option Follower) → Setup → List AuditEntry → Event → AuditEntry → Type 0
Follow old new setup prior event e =
    (setting : Setting) (before : List Noted) → setting.setup ≡ setup → FollowersStand old setting before → IsNext setting prior before event e
    → FollowersStand new setting (rebuilt event e ∷ before)

-- and this is whether an honest member's votes are those that are due
pub record FollowOn (old new : List (Option Follower)) (setup : Setup) (prior : List AuditEntry) (event : Event) (e : AuditEntry) (due : Bool) : Type 0 where
  pub follows : Follow old new setup prior event e
  pub sends : (setting : Setting) (before : List Noted) → setting.setup ≡ setup → FollowersStand old setting before → IsNext setting prior before event e
      → due ≡ if_honest setting (node_named event) (λ node. sends_due setting before (rebuilt_entry e) node event)

-- or whether those of this node are, which runs an engine
pub record FollowAt (old new : List (Option Follower)) (setup : Setup) (node : Node) (prior : List AuditEntry) (event : Event) (e : AuditEntry) (due : Bool) : Type 0 where
  pub follows : own_node event ≡ Some node → Follow old new setup prior event e
  pub sends : own_node event ≡ Some node → (setting : Setting) (before : List Noted) → setting.setup ≡ setup → FollowersStand old setting before
      → IsNext setting prior before event e → runs_engine setup node.member ≡ true → due ≡ sends_due setting before (rebuilt_entry e) node event

-- ---- before any entry

-- a node of the member is followed where it runs an engine
pub record IsSeatOf (seat : Option Follower) (setup : Setup) (member : ℕ) : Type 0 where
  pub engine : is_some seat ≡ runs_engine setup member
  pub followed : (setting : Setting) (node : Node) (follower : Follower) → seat ≡ Some follower → setting.setup ≡ setup → node.member ≡ member
      → IsFollowed follower setting [] node

-- the first seats are such
unfoldable pub AreSeats : List (Option Follower) → Setup → Type 0
AreSeats seats setup = (at : ℕ) (seat : Option Follower) → slice_get seats at ≡ Some seat → IsSeatOf seat setup (node_at at).member
