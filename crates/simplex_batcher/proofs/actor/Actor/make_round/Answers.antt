use Rattle.simplex_batcher.specs.Rounds.{round_at}
use Rattle.simplex_batcher.proofs.Placing.{made-led}
use Rattle.simplex_batcher.proofs.actor.Actor.make_round.Goals as goal

pub returns : goal.returns
returns g c = λ made standing s.
    let bare = c.in_ok-make_bare_round.ensures made standing s in
    let led = c.lead.ensures made _ bare in record {
      made_is = led.made_is;
      current_is = led.current_is;
      leader_is = led.leader_is;
      finalized_is = led.finalized_is;
      hinted_is = led.hinted_is;
      seen_is = led.seen_is;
      round_is = made-led made standing c.args.view (round_at c.lead.new.self.rounds) led.round_is;
    }
