-- What of a step's records stands unsynced.
use Rattle.std.specs.Prelude.{ℕ, ◌==◌, not, Bool, true, false, List, [], ◌∷◌, fold, filter}
use Rattle.simplex_messages.specs.declared.call.Call.{Call}
use Rattle.simplex_messages.specs.declared.call.Call.TheVariants as calls

-- the sections that stand unsynced after one more call: an append adds its section, a sync takes its section out
abbrev pub unsynced_after : List ℕ → Call → List ℕ
unsynced_after loose (calls.Append section artifact) = section ∷ loose
unsynced_after loose (calls.Sync section) = filter (λ s. not (s == section)) loose
unsynced_after loose _ = loose

-- the sections that were appended to and not synced since
abbrev pub unsynced : List Call → List ℕ
unsynced made = fold unsynced_after [] made

abbrev pub is_send : Call → Bool
is_send (calls.Send channel to bytes) = true
is_send _ = false

-- all that is sent, on any channel and to anyone, in order
abbrev pub sends : List Call → List Call
sends made = filter is_send made
