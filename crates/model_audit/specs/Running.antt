-- Which engine nodes run, and what they asked, by the entries so far, the newest first.
use Rattle.std.specs.Prelude.{◌==◌, ◌&&◌, ◌||◌, Bool, true, false, List, [], ◌∷◌, if◌then◌else◌}
use Rattle.simplex_messages.specs.declared.step.Outcome.{Outcome}
use Rattle.simplex_messages.specs.declared.step.Outcome.TheVariants as outcomes
use Rattle.simplex_transcript.specs.declared.event.Event.{Event}
use Rattle.simplex_transcript.specs.declared.event.Event.TheVariants as events
use Rattle.simplex_transcript.specs.declared.node.Node.{Node}
use Rattle.simplex_transcript.specs.declared.node.Ref.{Ref}
use Rattle.model_run.specs.Life.{Noted, is_of}
use Rattle.model_run.specs.Requests.{is_start}
pub use Rattle.law_run.specs.Asked.{asked_at}

abbrev pub is_done : Outcome → Bool
is_done outcomes.Done = true
is_done _ = false

abbrev pub is_broken : Outcome → Bool
is_broken outcomes.Cut = true
is_broken outcomes.Journal = true
is_broken _ = false

abbrev pub is_crash : Event → Bool
is_crash (events.Crash node) = true
is_crash _ = false

-- the last of its entries that are a start or a crash, or were broken, is a start that is done
unfoldable pub runs_at : List Noted → Node → Bool
runs_at [] node = false
runs_at (noted ∷ before) node =
    if is_of node noted.event && (is_start noted.event || is_crash noted.event || is_broken noted.entry.outcome)
    then is_start noted.event && is_done noted.entry.outcome
    else runs_at before node

abbrev pub is_same_ref : Ref → Ref → Bool
is_same_ref a b = a.event == b.event && a.place == b.place
