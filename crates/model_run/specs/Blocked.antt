-- Whom a node blocked, read from the entries so far, the newest first.
use Rattle.std.specs.Prelude.{ℕ, List, [], ◌∷◌, ◌++◌, Bool, if◌then◌else◌}
use Rattle.simplex_transcript.specs.declared.node.Node.{Node}
use Rattle.simplex_messages.specs.Step.{blocked_by_calls}
use Rattle.model_resolver.specs.Asks.{holds_member}
use Rattle.model_run.specs.Life.{Noted, is_of}
use Rattle.model_run.specs.Requests.{is_start}

-- the members that a call of the node blocked, from its last start on
unfoldable pub blocked_since : List Noted → Node → List ℕ
blocked_since [] node = []
blocked_since (noted ∷ before) node =
    if is_of node noted.event
    then (if is_start noted.event then blocked_by_calls noted.entry.calls
    else blocked_by_calls noted.entry.calls ++ blocked_since before node)
    else blocked_since before node

-- whether the member is one of them
abbrev pub has_blocked : List Noted → Node → ℕ → Bool
has_blocked before node member = holds_member (blocked_since before node) member
