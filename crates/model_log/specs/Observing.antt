-- What observing one more activity answers.
use Rattle.std.specs.Prelude.{◌==◌, ◌++◌, Bool, not, List, [], ◌∷◌, Option, Some, None, Result, Ok, Err, if◌then◌else◌}
use Rattle.std.specs.Option.{option_and_then}
use Rattle.simplex_values.specs.declared.proposal.Proposal.{Proposal}
use Rattle.simplex_values.specs.Proposal.{is_same_proposal}
use Rattle.simplex_types.specs.declared.activity.Activity.{Activity}
use Rattle.model_log.specs.declared.entry.LogError.{LogError}
use Rattle.model_log.specs.declared.entry.LogError.TheVariants.{Clash}
use Rattle.model_log.specs.Links.{proposal_in, links_of}
use Rattle.model_log.specs.Walks.{link_at}
use Rattle.model_log.specs.Log.{tip_of}

-- the activities behind which this one was reported
abbrev pub with_next : List Activity → Activity → List Activity
with_next taken activity = taken ++ activity ∷ []

-- the link that is held of its view, and differs
abbrev pub differing : Proposal → Proposal → Option LogError
differing other held = if is_same_proposal held other then None else Some (Clash held other)

abbrev pub clash_with : List Proposal → Proposal → Option LogError
clash_with links other = option_and_then (differing other) (link_at links other.round.view)

-- a certificate that verifies clashes with the link of its view
unfoldable pub clash_of : (Activity → Bool) → List Activity → Activity → Option LogError
clash_of verifies taken activity =
    if verifies activity then option_and_then (clash_with (links_of verifies taken)) (proposal_in activity) else None

-- the log has another tip than before
abbrev pub is_moved : (Activity → Bool) → List Activity → Activity → Bool
is_moved verifies taken activity = not (tip_of verifies (with_next taken activity) == tip_of verifies taken)

abbrev pub unless_clash : Option LogError → Bool → Result Bool LogError
unless_clash None moved = Ok moved
unless_clash (Some clash) moved = Err clash

-- whether the log is another than before, or the clash
abbrev pub observed : (Activity → Bool) → List Activity → Activity → Result Bool LogError
observed verifies taken activity = unless_clash (clash_of verifies taken activity) (is_moved verifies taken activity)
