use Rattle.std.proofs.Common.{arith, refl}
use Rattle.std.proofs.lemmas.Grind.{common_steps}
use Rattle.std.proofs.lemmas.Result.{on_ok_weaker}
use Rattle.simplex_state.proofs.Recording.{keeps_record}
use Rattle.simplex_state.specs.Rounds.{learn_round}
use Rattle.simplex_state.specs.Progress.{learn_progress}
use Rattle.simplex_wire.specs.declared.vote.Vote.TheVariants as votes
use Rattle.model_rules.specs.Known.{Voted}
use Rattle.simplex_state.proofs.state.State.vote_notarize.Goals as goal

pub returns : goal.returns
unfolding learn_round learn_progress
returns g c = on_ok_weaker c.put_round.result (λ did. λ made known k e.
    keeps_record _ made known (Voted (votes.Notarize c.args.vote.now)) _ k refl refl (omega arith) refl
    (λ q. grind (arith, common_steps, did q, e))) c.put_round.ensures
