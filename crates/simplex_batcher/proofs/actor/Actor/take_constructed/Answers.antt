use Rattle.std.proofs.Common.{sym, ◌∙◌}
use Rattle.simplex_batcher.proofs.Cases.{constructed-outside, constructed-inside}
use Rattle.simplex_batcher.proofs.actor.Actor.take_constructed.Goals as goal

pub returns-then-not-retains : goal.returns-then-not-retains
returns-then-not-retains g c = λ made doing s.
    rw (constructed-outside made doing c.args.vote (sym (rw c.view.ensures at c.retains.ensures made doing.standing s.stands) ∙ c.if-not-retains.true)) s

pub returns : goal.returns
returns g c = λ made doing s.
    rw (constructed-inside made doing c.args.vote (sym (rw c.view.ensures at c.retains.ensures made doing.standing s.stands) ∙ c.if-not-retains.false))
    (c.in_ok-hear_own.ensures made doing s)
