-- Whether votes were stored before they were sent.
use Rattle.std.specs.Prelude.{ℕ, ◌==◌, ◌&&◌, ◌||◌, Bool, true, false, List, [], ◌∷◌, ◌++◌, Result, Ok, Err}
use Rattle.std.specs.List.{list_any}
use Rattle.std.specs.Str.{bytes_eq}
use Rattle.simplex_values.specs.declared.plan.Channel.TheVariants as channels
use Rattle.simplex_wire.specs.declared.artifact.Artifact.{Artifact}
use Rattle.simplex_wire.specs.declared.artifact.Artifact.TheVariants as artifacts
use Rattle.simplex_wire.specs.declared.error.DecodeError.{DecodeError}
use Rattle.simplex_wire.specs.declared.vote.Vote.{Vote}
use Rattle.simplex_wire.specs.declared.vote.Vote.TheVariants as votes
use Rattle.simplex_wire.specs.Format.{whole}
use Rattle.simplex_wire.specs.Message as format
use Rattle.simplex_messages.specs.declared.call.Call.{Call}
use Rattle.simplex_messages.specs.declared.call.Call.TheVariants as calls
use Rattle.law_member.specs.VoterVotes.{is_nullify}

-- the record is this very vote's
abbrev pub is_record_of : Vote → Artifact → Bool
is_record_of v (artifacts.Notarize w) = bytes_eq (format.vote.spelling v) (format.vote.spelling (votes.Notarize w))
is_record_of v (artifacts.Nullify w) = bytes_eq (format.vote.spelling v) (format.vote.spelling (votes.Nullify w))
is_record_of v (artifacts.Finalize w) = bytes_eq (format.vote.spelling v) (format.vote.spelling (votes.Finalize w))
is_record_of v _ = false

abbrev pub is_sync_of : ℕ → Call → Bool
is_sync_of section (calls.Sync other) = section == other
is_sync_of section _ = false

-- its record was appended, and its section synced behind that
unfoldable pub is_stored : Vote → List Call → Bool
is_stored v [] = false
is_stored v (calls.Append section artifact ∷ rest) = (is_record_of v artifact && list_any (is_sync_of section) rest) || is_stored v rest
is_stored v (call ∷ rest) = is_stored v rest

-- a nullify whose record stood synced before the step
abbrev pub is_again : List Artifact → Vote → Bool
is_again held v = is_nullify v && list_any (is_record_of v) held

-- so it is with the vote that bytes are, where they are one
abbrev pub may_send : List Artifact → List Call → Result Vote DecodeError → Bool
may_send held before (Ok v) = is_stored v before || is_again held v
may_send held before (Err error) = true

abbrev pub may_call : List Artifact → List Call → Call → Bool
may_call held before (calls.Send channels.Vote to bytes) = may_send held before (whole format.vote bytes)
may_call held before call = true

-- each of the calls, behind those before it, where these records were synced before the step
unfoldable pub are_in_order : List Artifact → List Call → List Call → Bool
are_in_order held before [] = true
are_in_order held before (call ∷ rest) = may_call held before call && are_in_order held (before ++ call ∷ []) rest
