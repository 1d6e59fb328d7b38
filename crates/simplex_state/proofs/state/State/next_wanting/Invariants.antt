use Rattle.std.proofs.Common.{◌≡◌, ◌≤◌, ◌-◌, ◌+◌}
use Rattle.std.specs.Prelude.{find, List}
use Rattle.std.specs.List.{range_with_len}
use Rattle.model_rules.specs.Known.{Made, Fact}
use Rattle.model_rules.specs.Requests.{wants_verify}
use Rattle.simplex_state.specs.Progress.{progress_of}
use Rattle.simplex_state.specs.Stands.{Keeps}
use Rattle.simplex_state.proofs.state.State.next_wanting.Given as goal

abbrev pub invariant-loop-view : goal.invariant-loop-view
invariant-loop-view g l =
    (l.fn.first ≤ l.from)
    × ((made : Made) (known : List Fact) → Keeps l.self made known → (progress_of made known).pruned ≤ l.fn.first
    → find (wants_verify known) (range_with_len l.from (l.limit + 1 - l.from)) ≡ find (wants_verify known) (range_with_len l.fn.first (l.limit + 1 - l.fn.first)))

abbrev pub decreases-loop-view : goal.decreases-loop-view
decreases-loop-view g l = l.limit - l.from
