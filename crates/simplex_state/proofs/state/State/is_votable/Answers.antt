use Rattle.std.proofs.Common.{arith, sym}
use Rattle.std.proofs.lemmas.Grind.{common_steps}
use Rattle.model_rules.specs.Calls.{known_of}
use Rattle.simplex_state.specs.Stands.{StandsFor}
use Rattle.simplex_state.specs.Progress.{progress_of}
use Rattle.simplex_state.proofs.Checking.{unvotable}
use Rattle.simplex_state.proofs.state.State.is_votable.Goals as goal

pub returns-then-lt-clause-answer : goal.returns-then-lt-clause-answer
unfolding StandsFor progress_of
returns-then-lt-clause-answer g c = λ made calls s.
    sym (unvotable made (known_of made calls) c.args.view s.settings.some_length (grind (arith, common_steps, c.lt.ensures, c.if-lt.true, s.progress)))
