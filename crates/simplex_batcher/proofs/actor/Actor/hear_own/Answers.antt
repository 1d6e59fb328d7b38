use Rattle.std.proofs.Common.{◌≡◌, refl, ◌∙◌}
use Rattle.simplex_round.specs.Acceptance.{heard}
use Rattle.simplex_round.specs.Calls.{AcceptVote}
use Rattle.model_steps.specs.Batcher.{with_heard, round_for, known_in, called}
use Rattle.simplex_batcher.specs.Rounds.{round_at}
use Rattle.simplex_batcher.specs.Working.{own_heard_at, put}
use Rattle.simplex_batcher.proofs.Moving.{moved}
use Rattle.simplex_batcher.proofs.Placing.{taken-set, at-set, set}
use Rattle.simplex_batcher.proofs.actor.Actor.hear_own.Goals as goal

pub returns : goal.returns
unfolding own_heard_at with_heard
returns g c = λ made doing s.
    let at = c.in_ok-make_round.ensures made doing.standing s.stands in
    let round = round_for made doing.standing c.view-view.result in
    let here = at-set (round_at c.make_round.new.self.rounds) doing.standing.rounds c.view-view.result round at.round_is in
    let taken = taken-set (round_at c.make_round.new.self.rounds) (round_at c.accept_vote.new.self) doing.standing.rounds c.view-view.result (AcceptVote c.args.vote) round at.round_is c.in_ok-accepted.ensures.stands in
    let reports : c.accept_vote.new.out.reports ≡ (heard (known_in round) c.args.vote).reports = c.in_ok-accepted.ensures.reports round here in
    let blocks : c.accept_vote.new.out.blocks ≡ (heard (known_in round) c.args.vote).blocks = c.in_ok-accepted.ensures.blocks round here in
    rw (← c.view-view.ensures) (record {
      stands = moved c.make_round.new.self made (put c.view-view.result round doing.standing) c.accept_vote.new.self (set c.view-view.result (called (AcceptVote c.args.vote) round) doing.standing.rounds) at c.in_ok-accepted.ensures.current taken;
      does = c.in_ok-publish.ensures ∙ rw (s.does, reports, blocks) refl;
      marks = c.in_ok-mark.ensures ∙ rw (s.marks, c.in_ok-accepted.ensures.answer round here) refl;
    })
