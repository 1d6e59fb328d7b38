use Rattle.std.proofs.Common.{arith}
use Rattle.std.proofs.lemmas.Grind.{common_steps}
use Rattle.model_rules.specs.Requests.{resolve_of}
use Rattle.simplex_state.specs.Stands.{StandsFor}
use Rattle.simplex_state.proofs.state.State.missing_verify.Goals as goal

pub returns-clause-answer : goal.returns-clause-answer
unfolding StandsFor resolve_of
returns-clause-answer g c = λ made calls s low.
    grind (
      arith,
      common_steps,
      c.missing_below.ensures made calls s low,
      c.in-Some.is,
      c.leader_index.ensures made calls s,
      s.missing c.args.view c.in-Some.gap c.in-Some.kind low,
      c.is_asked.ensures,
      c.if-is_asked.false,
    )
