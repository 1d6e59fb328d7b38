use Rattle.std.proofs.Common.{arith}
use Rattle.model_rules.specs.Calls.{known_of}
use Rattle.simplex_state.specs.Stands.{StandsFor}
use Rattle.simplex_state.proofs.Proposing.{slot_is}
use Rattle.simplex_state.proofs.Wanting.{unasked_slot}
use Rattle.simplex_state.proofs.state.State.ready_verify.Goals as goal

pub returns-clause-fresh : goal.returns-clause-fresh
unfolding StandsFor
returns-clause-fresh g c = λ made calls s low wants.
    unasked_slot (known_of made calls) c.args.view c.in-Some.proposal
    (grind (arith, slot_is (known_of made calls) c.args.view, s.rounds c.args.view low, c.round_at.ensures, c.slot.ensures, c.in-Some.is))
    wants
