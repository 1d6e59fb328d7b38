use Rattle.std.proofs.Common.{sym, ◌∙◌}
use Rattle.model_steps.specs.Batcher.{with_heard}
use Rattle.simplex_batcher.specs.Working.{heard_at}
use Rattle.simplex_batcher.proofs.Cases.{vote-outside, vote-inside}
use Rattle.simplex_batcher.proofs.Hearing.{nullified-here}
use Rattle.simplex_batcher.proofs.actor.Actor.take_vote.Goals as goal

pub returns-then-not-admits_vote : goal.returns-then-not-admits_vote
returns-then-not-admits_vote g c = λ made doing s.
    rw (vote-outside made doing c.args.sender c.args.vote.now (sym (rw c.view-view.ensures at c.admits_vote.ensures made doing.standing s.stands) ∙ c.if-not-admits_vote.true)) s

pub returns : goal.returns
unfolding heard_at with_heard
returns g c = λ made doing s.
    let heard = c.in_ok-accepted.ensures.stands made doing s in
    let known = c.in_ok-accepted.ensures.nullified made doing.standing s.stands in
    rw (vote-inside made doing c.args.sender c.args.vote.now (sym (rw c.view-view.ensures at c.admits_vote.ensures made doing.standing s.stands) ∙ c.if-not-admits_vote.false))
    (rw (c.in_ok-accepted.ensures.accepted made doing.standing s.stands) at (c.in_ok-hint_at_vote.ensures _ made (heard_at made c.args.sender c.args.vote.now doing)
    (λ same. known ∙ nullified-here made doing c.args.sender c.args.vote.now (sym c.view-view.ensures ∙ same)) heard))
