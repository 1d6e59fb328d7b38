use Rattle.std.proofs.Common.{◌≡◌, ◌≤◌, ◌-◌, ◌+◌, ◌&&◌}
use Rattle.std.specs.Prelude.{find, List}
use Rattle.std.specs.List.{range_with_len}
use Rattle.model_rules.specs.Known.{Made}
use Rattle.model_rules.specs.Calls.{Call, known_of}
use Rattle.model_rules.specs.Requests.{wants_verify, is_founded}
use Rattle.simplex_state.specs.Progress.{progress_of}
use Rattle.simplex_state.specs.Stands.{StandsFor}
use Rattle.simplex_state.proofs.state.State.first_ready.Given as goal

abbrev pub invariant-loop-view : goal.invariant-loop-view
invariant-loop-view g l =
    (l.fn.first ≤ l.from)
    × ((made : Made) (calls : List Call) → StandsFor l.self made calls → (progress_of made (known_of made calls)).pruned ≤ l.fn.first
    → find (λ view. wants_verify (known_of made calls) view && is_founded made (known_of made calls) view) (range_with_len l.from (l.limit + 1 - l.from))
    ≡ find (λ view. wants_verify (known_of made calls) view && is_founded made (known_of made calls) view) (range_with_len l.fn.first (l.limit + 1 - l.fn.first)))

abbrev pub decreases-loop-view : goal.decreases-loop-view
decreases-loop-view g l = l.limit - l.from
