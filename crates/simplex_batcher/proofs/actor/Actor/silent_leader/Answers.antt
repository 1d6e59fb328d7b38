use Rattle.std.proofs.Common.{◌∙◌, sym}
use Rattle.simplex_round.specs.Stands.{StandsFor}
use Rattle.simplex_batcher.specs.Rounds.{round_of}
use Rattle.simplex_batcher.proofs.Cases.{leader-own, leader-heard, leader-silent}
use Rattle.simplex_batcher.proofs.actor.Actor.silent_leader.Goals as goal

pub returns-then-is_me : goal.returns-then-is_me
returns-then-is_me g c = λ made standing history s is.
    c.new.ensures.items ∙ sym (leader-own made c.args.leader c.args.proposal.now history (sym (c.is_me.ensures made standing s) ∙ c.if-is_me.true))

pub returns-then-not-is_missing_voter : goal.returns-then-not-is_missing_voter
unfolding StandsFor round_of
returns-then-not-is_missing_voter g c = λ made standing history s is.
    c.new-then-not-is_missing_voter.ensures.items ∙ sym (leader-heard made c.args.leader c.args.proposal.now history (sym (c.is_me.ensures made standing s) ∙ c.if-is_me.false)
    (sym (c.is_missing_voter.ensures history.made history.calls is) ∙ c.if-not-is_missing_voter.true))

pub returns : goal.returns
unfolding StandsFor round_of
returns g c = λ made standing history s is.
    c.in_ok-targets.ensures ∙ sym (leader-silent made c.args.leader c.args.proposal.now history (sym (c.is_me.ensures made standing s) ∙ c.if-is_me.false)
    (sym (c.is_missing_voter.ensures history.made history.calls is) ∙ c.if-not-is_missing_voter.false))
