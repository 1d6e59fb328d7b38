use Rattle.std.proofs.Common.{◌≡◌, ◌≤◌, ◌-◌, ℕ, false}
use Rattle.std.specs.Prelude.{List}
use Rattle.model_rules.specs.Known.{Made}
use Rattle.model_rules.specs.Calls.{Call, known_of}
use Rattle.model_rules.specs.Requests.{may_propose}
use Rattle.simplex_state.specs.Stands.{StandsFor}
use Rattle.simplex_state.proofs.state.State.first_admitted.Given as goal

abbrev pub invariant-loop-parent : goal.invariant-loop-parent
invariant-loop-parent g l =
    (l.self.progress.current ≤ l.view)
    × ((made : Made) (calls : List Call) → StandsFor l.self made calls
    → (q : ℕ) → l.self.progress.current ≤ q → q ≤ l.view → may_propose made (known_of made calls) q ≡ false)

abbrev pub decreases-loop-parent : goal.decreases-loop-parent
decreases-loop-parent g l = l.limit - l.view
