use Rattle.std.proofs.Common.{◌≡◌, ◌∙◌, ap, subst}
use Rattle.model_steps.specs.Batcher.{Standing, window_views}
use Rattle.simplex_batcher.specs.Stands.{IsAt}
use Rattle.simplex_batcher.specs.Working.{with_leads, with_window}
use Rattle.simplex_batcher.proofs.Updating.{window-is}
use Rattle.simplex_batcher.proofs.actor.Actor.lead_window.Goals as goal

pub returns-clause-stands : goal.returns-clause-stands
returns-clause-stands g c = λ made standing s.
    let views : c.deref.result.now ≡ window_views made standing = c.deref.ensures.value ∙ c.in_ok-views.ensures made standing s in
    let all : with_leads made c.deref.result.now standing ≡ with_window made standing = ap (λ xs. with_leads made xs standing) views ∙ window-is made standing in
    subst (λ (now : Standing). IsAt c.lead_each.new.self made now) all (c.lead_each.ensures made standing s)
