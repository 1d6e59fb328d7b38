use Rattle.std.proofs.Common.{◌∙◌, sym}
use Rattle.model_steps.specs.Batcher.{seen_now}
use Rattle.simplex_batcher.proofs.Cases.{certificate-foreign, certificate-own}
use Rattle.simplex_batcher.proofs.actor.Actor.hear_certificate.Goals as goal

pub returns-then-not-is_of_epoch : goal.returns-then-not-is_of_epoch
returns-then-not-is_of_epoch g c = λ made doing s.
    rw (certificate-foreign made doing c.args.sender c.args.certificate c.args.now (sym (rw c.epoch.ensures at c.is_of_epoch.ensures made doing.standing s.stands) ∙ c.if-not-is_of_epoch.true))
    (record { stands = s.stands; does = rw s.does at c.in_ok-block.ensures; marks = s.marks })

pub returns : goal.returns
returns g c = λ made doing s.
    rw (certificate-own made doing c.args.sender c.args.certificate c.args.now (sym (rw c.epoch.ensures at c.is_of_epoch.ensures made doing.standing s.stands) ∙ c.if-not-is_of_epoch.false))
    (c.in_ok-take_certificate.ensures made (record doing { standing = seen_now c.args.sender c.args.now doing.standing })
    (record { stands = c.in_ok-see.ensures made doing.standing s.stands; does = s.does; marks = s.marks }))
