use Rattle.std.proofs.Common.{arith, rules, ◌<◌, ◌^◌}
use Rattle.std.proofs.lemmas.Grind.{common_steps}
use Rattle.model_rules.specs.Calls.{known_of}
use Rattle.simplex_state.specs.Progress.{progress_of}
use Rattle.simplex_state.specs.Stands.{StandsFor}
use Rattle.simplex_state.proofs.Opening.{pruned_before}
use Rattle.simplex_state.proofs.state.State.view_before.Goals as goal

pub returns-clause-kept : goal.returns-clause-kept
unfolding StandsFor progress_of
returns-clause-kept g c = λ made calls s. (
    let low : c.last_finalized-last.result < 2 ^ 64 = search rules in
    grind (
      arith,
      common_steps,
      c.saturating_sub.ensures,
      s.progress,
      pruned_before made (known_of made calls) s.settings.some_retention s.active (grind (arith, low, c.last_finalized-last.ensures made calls s)),
    ))
