-- The requests of a run, by their names and of a node in order.
use Rattle.std.specs.Prelude.{◌+◌, ◌==◌, List, [], ◌∷◌, ◌++◌, length, Option, None, if◌then◌else◌}
use Rattle.std.specs.List.{slice_get}
use Rattle.model_rules.specs.declared.request.Asked.{Asked}
use Rattle.simplex_transcript.specs.declared.node.Node.{Node}
use Rattle.simplex_transcript.specs.declared.node.Ref.{Ref}
use Rattle.model_run.specs.Life.{Noted, is_of}
use Rattle.model_run.specs.Requests.{is_start}

-- the request that stands at this place
unfoldable pub asked_at : List Noted → Ref → Option Asked
asked_at [] at = None
asked_at (noted ∷ before) at = if length before + 1 == at.event
    then slice_get noted.entry.asked at.place else asked_at before at

-- all that the node asked since its last start
unfoldable pub asked_of : List Noted → Node → List Asked
asked_of [] node = []
asked_of (noted ∷ before) node =
    if is_of node noted.event
    then (if is_start noted.event then noted.entry.asked else asked_of before node ++ noted.entry.asked)
    else asked_of before node
