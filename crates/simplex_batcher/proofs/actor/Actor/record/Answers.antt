use Rattle.std.proofs.Common.{refl, ◌∙◌}
use Rattle.simplex_round.specs.Calls.{RecordCertificate}
use Rattle.model_steps.specs.Batcher.{round_for, called}
use Rattle.simplex_batcher.specs.Rounds.{round_at}
use Rattle.simplex_batcher.specs.Working.{recorded_at, put}
use Rattle.simplex_batcher.proofs.Moving.{moved}
use Rattle.simplex_batcher.proofs.Placing.{taken-set, at-set, set}
use Rattle.simplex_batcher.proofs.actor.Actor.record.Goals as goal

pub returns : goal.returns
unfolding recorded_at
returns g c = λ made doing s.
    let at = c.in_ok-make_round.ensures made doing.standing s.stands in
    let round = round_for made doing.standing c.view-view.result in
    let here = at-set (round_at c.make_round.new.self.rounds) doing.standing.rounds c.view-view.result round at.round_is in
    let taken = taken-set (round_at c.make_round.new.self.rounds) (round_at c.record_certificate.new.self) doing.standing.rounds c.view-view.result (RecordCertificate c.args.certificate.now) round at.round_is c.in_ok-is_marked.ensures.stands in
    rw (← c.view-view.ensures) (record {
      stands = moved c.make_round.new.self made (put c.view-view.result round doing.standing) c.record_certificate.new.self (set c.view-view.result (called (RecordCertificate c.args.certificate.now) round) doing.standing.rounds) at c.in_ok-is_marked.ensures.current taken;
      does = s.does;
      marks = c.in_ok-mark.ensures ∙ rw (s.marks, c.in_ok-is_marked.ensures.answer round here) refl;
    })
