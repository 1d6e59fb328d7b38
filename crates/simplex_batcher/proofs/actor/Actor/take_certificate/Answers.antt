use Rattle.std.proofs.Common.{sym, ◌∙◌}
use Rattle.simplex_batcher.proofs.Cases.{certificate-outside, certificate-held, certificate-false, certificate-true}
use Rattle.simplex_batcher.proofs.actor.Actor.take_certificate.Goals as goal

pub returns-then-not-retains : goal.returns-then-not-retains
returns-then-not-retains g c = λ made doing s.
    rw (certificate-outside made doing c.args.sender c.args.certificate (sym (rw c.view.ensures at c.retains.ensures made doing.standing s.stands) ∙ c.if-not-retains.true)) s

pub returns-then-holds_kind : goal.returns-then-holds_kind
returns-then-holds_kind g c = λ made doing s.
    rw (certificate-held made doing c.args.sender c.args.certificate (sym (rw c.view.ensures at c.retains.ensures made doing.standing s.stands) ∙ c.if-not-retains.false)
    (sym (c.holds_kind.ensures made doing.standing s.stands) ∙ c.if-holds_kind.true)) s

pub returns-then-not-is_certified : goal.returns-then-not-is_certified
returns-then-not-is_certified g c = λ made doing s.
    rw (certificate-false made doing c.args.sender c.args.certificate (sym (rw c.view.ensures at c.retains.ensures made doing.standing s.stands) ∙ c.if-not-retains.false)
    (sym (c.holds_kind.ensures made doing.standing s.stands) ∙ c.if-holds_kind.false)
    (sym (c.is_certified.ensures made doing.standing s.stands) ∙ c.if-not-is_certified.true))
    (record { stands = s.stands; does = rw s.does at c.in_ok-block.ensures; marks = s.marks })

pub returns : goal.returns
returns g c = λ made doing s.
    rw (certificate-true made doing c.args.sender c.args.certificate (sym (rw c.view.ensures at c.retains.ensures made doing.standing s.stands) ∙ c.if-not-retains.false)
    (sym (c.holds_kind.ensures made doing.standing s.stands) ∙ c.if-holds_kind.false)
    (sym (c.is_certified.ensures made doing.standing s.stands) ∙ c.if-not-is_certified.false))
    (c.in_ok-keep_certificate.ensures made doing s)
