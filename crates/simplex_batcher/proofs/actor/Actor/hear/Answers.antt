use Rattle.std.proofs.Common.{◌≡◌, ap, refl, ◌∙◌}
use Rattle.simplex_round.specs.Acceptance.{heard_from}
use Rattle.model_steps.specs.Batcher.{with_heard, round_for, known_in}
use Rattle.simplex_batcher.specs.declared.others.Heard.{Heard}
use Rattle.simplex_batcher.specs.Hearing.{IsAlone}
use Rattle.simplex_batcher.specs.Rounds.{given}
use Rattle.simplex_batcher.specs.Working.{heard_at, bare_round, lead_of}
use Rattle.simplex_batcher.proofs.Accepting.{heard-alone}
use Rattle.simplex_batcher.proofs.Placing.{given-is}
use Rattle.simplex_batcher.proofs.actor.Actor.hear.Goals as goal

pub returns-clause-stands : goal.returns-clause-stands
unfolding heard_at with_heard
returns-clause-stands g c = λ made doing s.
    let lead : c.leader_at-leader.result ≡ lead_of made doing.standing c.view-view.result = c.leader_at-leader.ensures made doing.standing s.stands in
    let round : given c.leader_at-leader.result (bare_round made doing.standing c.view-view.result) ≡ round_for made doing.standing c.view-view.result = given-is made doing.standing c.view-view.result c.leader_at-leader.result lead in
    let accepted : c.in_ok-heard.heard.accepted ≡ (heard_from (known_in (round_for made doing.standing c.view-view.result)) c.args.sender c.args.vote.now).accepted = rw round at (ap (λ (h : Heard). h.accepted) (c.in_ok-heard.ensures.answer made doing.standing s.stands)) in
    let reports : c.hear_at.new.out.reports ≡ (heard_from (known_in (round_for made doing.standing c.view-view.result)) c.args.sender c.args.vote.now).reports = rw (c.new-out.ensures.reports, round) at (c.in_ok-heard.ensures.reports made doing.standing s.stands) in
    let blocks : c.hear_at.new.out.blocks ≡ (heard_from (known_in (round_for made doing.standing c.view-view.result)) c.args.sender c.args.vote.now).blocks = rw (c.new-out.ensures.blocks, round) at (c.in_ok-heard.ensures.blocks made doing.standing s.stands) in
    let alone : IsAlone c.in_ok-heard.heard.accepted c.args.vote.now c.hear_at.new.out.reports c.hear_at.new.out.blocks = rw (accepted, reports, blocks) (heard-alone (known_in (round_for made doing.standing c.view-view.result)) c.args.sender c.args.vote.now) in
    rw (← c.view-view.ensures) (record {
      stands = rw round at (c.in_ok-heard.ensures.stands made doing.standing s.stands);
      does = c.in_ok-publish_heard.ensures alone ∙ rw (s.does, reports, blocks) refl;
      marks = c.in_ok-mark.ensures ∙ rw (s.marks, accepted) refl;
    })

pub returns-clause-accepted : goal.returns-clause-accepted
returns-clause-accepted g c = λ made standing s.
    let lead : c.leader_at-leader.result ≡ lead_of made standing c.view-view.result = c.leader_at-leader.ensures made standing s in
    let round : given c.leader_at-leader.result (bare_round made standing c.view-view.result) ≡ round_for made standing c.view-view.result = given-is made standing c.view-view.result c.leader_at-leader.result lead in
    rw (← c.view-view.ensures) (rw round at (ap (λ (h : Heard). h.accepted) (c.in_ok-heard.ensures.answer made standing s)))

pub returns-clause-nullified : goal.returns-clause-nullified
returns-clause-nullified g c = λ made standing s.
    let lead : c.leader_at-leader.result ≡ lead_of made standing c.view-view.result = c.leader_at-leader.ensures made standing s in
    let round : given c.leader_at-leader.result (bare_round made standing c.view-view.result) ≡ round_for made standing c.view-view.result = given-is made standing c.view-view.result c.leader_at-leader.result lead in
    rw (← c.view-view.ensures) (rw lead at (rw round at (ap (λ (h : Heard). h.nullified) (c.in_ok-heard.ensures.answer made standing s))))
