use Rattle.std.proofs.Common.{arith, refl}
use Rattle.std.proofs.lemmas.Grind.{common_steps}
use Rattle.simplex_state.proofs.Recording.{keeps_record}
use Rattle.simplex_state.specs.Rounds.{learn_round}
use Rattle.simplex_state.specs.Progress.{learn_progress}
use Rattle.model_rules.specs.Calls.{facts_of, known_of}
use Rattle.simplex_state.specs.Stands.{StandsFor}
use Rattle.simplex_state.proofs.Proposing.{takes_facts}
use Rattle.model_rules.specs.Known.{ProposalFreed}
use Rattle.simplex_state.proofs.state.State.release_proposal_request.Goals as goal

pub returns : goal.returns
unfolding StandsFor facts_of learn_round learn_progress
returns g c = record {
  stands = λ made calls s.
      takes_facts _ made calls _ _ refl
      (keeps_record _ made (known_of made calls) (ProposalFreed c.args.view) _ s refl refl (omega arith) refl
      (λ q. grind (arith, common_steps, c.free_proposal.ensures q)));
}
