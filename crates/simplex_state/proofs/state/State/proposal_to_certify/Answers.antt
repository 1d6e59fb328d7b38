use Rattle.std.proofs.Common.{arith, refl}
use Rattle.std.proofs.lemmas.Grind.{common_steps}
use Rattle.model_rules.specs.Calls.{known_of}
use Rattle.simplex_state.proofs.Waiting.{certify_by}
use Rattle.simplex_state.proofs.state.State.proposal_to_certify.Goals as goal

pub returns-in_err-proposal : goal.returns-in_err-proposal
returns-in_err-proposal g c = λ made calls s.
    grind (arith, common_steps, certify_by (known_of made calls) c.args.view _ refl, c.in_err-proposal.ensures.answer made calls s, c.from_residual.ensures)

pub returns-then-not-is_certified : goal.returns-then-not-is_certified
returns-then-not-is_certified g c = λ made calls s.
    grind (arith, common_steps, certify_by (known_of made calls) c.args.view _ refl, c.open_proposal.ensures.answer made calls s, c.is_certified.ensures made calls s)

pub returns : goal.returns
returns g c = λ made calls s.
    grind (arith, common_steps, certify_by (known_of made calls) c.args.view _ refl, c.open_proposal.ensures.answer made calls s, c.is_certified.ensures made calls s)
