use Rattle.std.proofs.Common.{◌≤◌, ◌++◌, length, drop, map}
use Rattle.std.specs.Prelude.{List}
use Rattle.model_rules.specs.Known.{Made, Fact, CertifyAsked, view_of}
use Rattle.simplex_state.specs.Stands.{Keeps}
use Rattle.simplex_state.proofs.state.State.ask_certify.Given as goal

abbrev pub invariant-loop-left : goal.invariant-loop-left
invariant-loop-left g l = record {
  within : l.left ≤ length l.proposals;
  keeps : (made : Made) (known : List Fact) → Keeps l.initial.self made known
      → Keeps l.self made (map (λ p. CertifyAsked (view_of p)) (drop l.left l.proposals) ++ known);
}

abbrev pub decreases-loop-left : goal.decreases-loop-left
decreases-loop-left g l = l.left
