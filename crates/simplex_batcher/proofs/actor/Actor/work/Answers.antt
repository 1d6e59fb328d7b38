use Rattle.std.proofs.Common.{◌≡◌, sym, ap, nat_le, true, false, ◌∙◌, arith}
use Rattle.std.proofs.lemmas.Grind.{common_steps}
use Rattle.std.proofs.lemmas.Bool.Decides.{nat_tests}
use Rattle.model_steps.specs.Batcher.{Made}
use Rattle.simplex_batcher.specs.Rounds.{round_at}
use Rattle.simplex_batcher.specs.Stands.{batcher_made}
use Rattle.simplex_batcher.specs.Working.{forwarded_at, worked_near}
use Rattle.simplex_batcher.proofs.Cases.{work-final, work-near, work-far}
use Rattle.simplex_batcher.proofs.Holding.{holds-start, held-stands}
use Rattle.simplex_batcher.proofs.actor.Actor.work.Goals as goal

pub returns-then-le : goal.returns-then-le
returns-then-le g c = λ dirty made doing s.
    let final : nat_le c.args.view doing.standing.finalized ≡ true = grind (arith, common_steps, nat_tests, c.le.ensures, c.if-le.true, s.stands.finalized_is) in
    rw (work-final made c.args.view doing final) s

pub returns-then-not-admits : goal.returns-then-not-admits
returns-then-not-admits g c = λ dirty made doing s.
    let after : nat_le c.args.view doing.standing.finalized ≡ false = grind (arith, common_steps, nat_tests, c.le.ensures, c.if-le.false, s.stands.finalized_is) in
    let far = sym (c.admits.ensures made doing.standing s.stands) ∙ c.if-not-admits.true in
    rw (work-far made c.args.view doing after far) (
    held-stands c.args.self.now made doing (forwarded_at made c.args.view doing) c.args.view c.forward_at.new.self c.forward_at.new.work dirty s.stands s.marks c.in_ok-forward_at.ensures.current c.in_ok-forward_at.ensures.others
    (c.in_ok-forward_at.ensures.works made (c.number-me.ensures made doing.standing s.stands) doing doing
    (holds-start (round_at c.args.self.now.rounds c.args.view) c.args.work.now c.args.view doing (s.stands.round_is c.args.view) s.does)))

pub returns : goal.returns
unfolding batcher_made
returns g c = λ dirty made doing s.
    let after : nat_le c.args.view doing.standing.finalized ≡ false = grind (arith, common_steps, nat_tests, c.le.ensures, c.if-le.false, s.stands.finalized_is) in
    let near = sym (c.admits.ensures made doing.standing s.stands) ∙ c.if-not-admits.false in
    rw (work-near made c.args.view doing after near) (
    held-stands c.args.self.now made doing (worked_near made c.args.view doing) c.args.view c.work_at.new.self c.work_at.new.work dirty s.stands s.marks c.in_ok-work_at.ensures.current c.in_ok-work_at.ensures.others
    (c.in_ok-work_at.ensures.works made (c.number-me.ensures made doing.standing s.stands) (ap (λ (m : Made). m.scheme) s.stands.made_is) doing doing
    (holds-start (round_at c.args.self.now.rounds c.args.view) c.args.work.now c.args.view doing (s.stands.round_is c.args.view) s.does)))
