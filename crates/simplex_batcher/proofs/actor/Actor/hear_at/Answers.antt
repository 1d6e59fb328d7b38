use Rattle.std.proofs.Common.{◌≡◌, ◌∙◌, ap, sym, true, false}
use Rattle.std.specs.Option.{is_some}
use Rattle.model_steps.specs.Batcher.{new_round}
use Rattle.simplex_batcher.specs.Hearing.{voted}
use Rattle.simplex_batcher.specs.Rounds.{round_at}
use Rattle.simplex_batcher.specs.Working.{bare_round}
use Rattle.simplex_batcher.proofs.Hearing.{changed-some, none-at, bare-new}
use Rattle.simplex_batcher.proofs.Moving.{moved}
use Rattle.simplex_batcher.proofs.Placing.{placed, set}
use Rattle.simplex_batcher.proofs.actor.Actor.hear_at.Goals as goal

pub returns-in-Some-clause-stands : goal.returns-in-Some-clause-stands
returns-in-Some-clause-stands g c = λ made standing s.
    let there : is_some (round_at c.args.self.now.rounds c.args.view) ≡ true = sym c.in_ok-heard.ensures.some ∙ ap is_some c.in-Some.is in
    moved c.args.self.now made standing c.add_network.new.self (set c.args.view (voted c.args.leader.now c.args.sender c.args.vote.now (bare_round made standing c.args.view)) standing.rounds) s c.in_ok-heard.ensures.current
    (changed-some (round_at c.args.self.now.rounds) (round_at c.add_network.new.self) made standing c.args.view (voted c.args.leader.now c.args.sender c.args.vote.now) s.round_is there c.in_ok-heard.ensures.stands)

pub returns-clause-stands : goal.returns-clause-stands
returns-clause-stands g c = λ made standing s.
    let none : is_some (round_at c.args.self.now.rounds c.args.view) ≡ false = sym c.in_ok-heard.ensures.some ∙ ap is_some c.in_default.is in
    let stays = c.in_ok-heard.ensures.none (none-at (round_at c.args.self.now.rounds c.args.view) none) in
    let at = moved c.args.self.now made standing c.add_network.new.self standing.rounds s c.in_ok-heard.ensures.current (λ q. stays q ∙ s.round_is q) in
    let heard = c.in_ok-heard-2.ensures.stands (new_round made standing c.args.view) (c.deref_mut.ensures.value ∙ c.kept.view_is ∙ c.in_ok-kept.ensures made standing at) in
    rw (bare-new (round_at c.args.self.now.rounds) made standing c.args.view s.round_is none)
    (moved (record c.args.self.now { rounds = c.add_network.new.self }) made standing c.put.new.self (set c.args.view (voted c.args.leader.now c.args.sender c.args.vote.now (new_round made standing c.args.view)) standing.rounds) at c.in_ok-put.ensures.current
    (placed (round_at c.add_network.new.self) (round_at c.put.new.self) standing.rounds c.args.view c.hear.new.round (voted c.args.leader.now c.args.sender c.args.vote.now (new_round made standing c.args.view)) at.round_is heard
    c.in_ok-put.ensures.rounds))
