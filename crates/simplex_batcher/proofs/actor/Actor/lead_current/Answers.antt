use Rattle.std.proofs.Common.{ℕ, ◌∙◌, sym, subst}
use Rattle.model_steps.specs.Batcher.{Standing, round_for}
use Rattle.simplex_batcher.specs.Stands.{IsAt}
use Rattle.simplex_batcher.specs.Working.{put}
use Rattle.simplex_batcher.proofs.Updating.{leader-is, window-same}
use Rattle.simplex_batcher.proofs.actor.Actor.lead_current.Goals as goal

pub returns-clause-stands : goal.returns-clause-stands
returns-clause-stands g c = λ made standing s.
    let at = subst (λ (n : ℕ). IsAt c.make_round.new.self made (put n (round_for made standing n) standing)) (sym s.current_is) (c.in_ok-make_round.ensures made standing s) in
    subst (λ (now : Standing). IsAt c.lead_window.new.self made now) (leader-is made standing) (c.in_ok-views.ensures.stands made _ at)

pub returns-clause-views : goal.returns-clause-views
returns-clause-views g c = λ made standing s.
    let at = subst (λ (n : ℕ). IsAt c.make_round.new.self made (put n (round_for made standing n) standing)) (sym s.current_is) (c.in_ok-make_round.ensures made standing s) in
    c.in_ok-views.ensures.views made _ at ∙ sym (window-same made standing)
