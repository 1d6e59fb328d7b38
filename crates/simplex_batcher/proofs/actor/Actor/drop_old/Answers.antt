use Rattle.std.proofs.Common.{◌≡◌, ℕ, ◌-◌, ◌∙◌, nat_le, if◌then◌else◌, None, sym, ap, subst}
use Rattle.model_steps.specs.Batcher.{Made, dropped, retains_view}
use Rattle.simplex_batcher.specs.Rounds.{round_at}
use Rattle.simplex_batcher.specs.Stands.{batcher_made}
use Rattle.simplex_batcher.proofs.Moving.{moved}
use Rattle.simplex_batcher.proofs.Placing.{Stand, kept-from}
use Rattle.simplex_batcher.proofs.actor.Actor.drop_old.Goals as goal

pub returns : goal.returns
unfolding dropped retains_view batcher_made
returns g c = λ work dirty made doing s.
    let least : c.saturating_sub-least.result ≡ doing.standing.finalized - made.retention =
    c.saturating_sub-least.ensures ∙ sym (ap (λ (m : Made). c.args.self.now.finalized - m.retention) s.stands.made_is) ∙ sym (ap (λ n. n - made.retention) s.stands.finalized_is) in
    let kept = kept-from (round_at c.args.self.now.rounds) (round_at c.drop_below.new.self) doing.standing.rounds c.saturating_sub-least.result s.stands.round_is c.drop_below.ensures.rounds in
    record {
      stands = moved c.args.self.now made doing.standing c.drop_below.new.self (λ q. if nat_le (doing.standing.finalized - made.retention) q then doing.standing.rounds q else None) s.stands c.drop_below.ensures.current
          (subst (λ (n : ℕ). Stand (round_at c.drop_below.new.self) (λ q. if nat_le n q then doing.standing.rounds q else None)) least kept);
      does = s.does;
      marks = s.marks;
    }
