-- What a step gives.
use Rattle.std.specs.Prelude.{ℕ, List, [], ◌∷◌, ◌++◌, Option, Some, None}
use Rattle.std.specs.List.{filter_map}
use Rattle.simplex_types.specs.declared.cause.BlockCause.{BlockCause}
use Rattle.simplex_messages.specs.declared.call.Call.{Call}
use Rattle.simplex_messages.specs.declared.call.Call.TheVariants as calls
use Rattle.simplex_messages.specs.declared.step.StepOut.{StepOut}

-- nothing
abbrev pub no_out : StepOut
no_out = record { added = []; asked = []; dropped = []; handed = []; calls = [] }

-- the same, with one more call outside behind the others
abbrev pub with_call : Call → StepOut → StepOut
with_call call out = record out { calls = out.calls ++ call ∷ [] }

-- ---- blocks

-- the call by which a member is blocked for a cause
abbrev pub block_call : ℕ × BlockCause → Call
block_call block = calls.Block block.0 block.1

-- the member that a call blocks
abbrev pub blocked_member : Call → Option ℕ
blocked_member (calls.Block member cause) = Some member
blocked_member _ = None

-- the members that these calls block, in their order
abbrev pub blocked_by_calls : List Call → List ℕ
blocked_by_calls made = filter_map blocked_member made
