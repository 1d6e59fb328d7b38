use Rattle.std.proofs.Common.{◌∙◌, ap, sym}
use Rattle.model_steps.specs.Batcher.{Made, targets_of}
use Rattle.simplex_batcher.specs.Stands.{batcher_made}
use Rattle.simplex_batcher.proofs.actor.Actor.targets.Goals as goal

pub returns-in_ok-targets-in-SilentVoters : goal.returns-in_ok-targets-in-SilentVoters
unfolding batcher_made
returns-in_ok-targets-in-SilentVoters g c = λ made standing history s is.
    c.in_ok-targets-in-SilentVoters.ensures c.args.leader made standing history s is
    ∙ ap (λ policy. targets_of made policy c.args.leader c.args.proposal.now history) (sym (ap (λ (m : Made). m.forward) s.made_is ∙ c.in-SilentVoters.is))

pub returns-in_ok-targets-in-SilentLeader : goal.returns-in_ok-targets-in-SilentLeader
unfolding batcher_made
returns-in_ok-targets-in-SilentLeader g c = λ made standing history s is.
    c.in_ok-targets-in-SilentLeader.ensures made standing history s is
    ∙ ap (λ policy. targets_of made policy c.args.leader c.args.proposal.now history) (sym (ap (λ (m : Made). m.forward) s.made_is ∙ c.in-SilentLeader.is))
