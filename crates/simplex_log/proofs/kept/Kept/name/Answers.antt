use Rattle.std.proofs.Common.{rules, ◌≡◌, ℕ, ◌++◌, ◌∷◌, [], cond, Some, sym, ap, subst, ◌∙◌}
use Rattle.simplex_values.specs.declared.proposal.Proposal.{Proposal}
use Rattle.model_log.specs.Links.{is_link}
use Rattle.simplex_log.specs.Kept.{finals_with}
use Rattle.simplex_log.specs.Stands.{KeptOf}
use Rattle.model_log.specs.Walks.{link_at}
use Rattle.simplex_log.proofs.Again.{passed_held}
use Rattle.simplex_log.proofs.kept.Kept.name.Goals as goal

pub returns-in-Some-clause-ok : goal.returns-in-Some-clause-ok
returns-in-Some-clause-ok c = λ links finals stands.
    let p = c.args.proposal.now in
    let now = c.pass.new.self in
    let after = c.in_ok-pass.ensures.ok links finals stands in
    let same : c.in-Some.held ≡ p = search rules in
    let there : link_at links p.round.view ≡ Some p = ap (link_at links) (sym c.view_of-view.ensures) ∙ sym (c.in-Some.ensures links stands.links_are) ∙ ap (λ (q : Proposal). Some q) same in
    subst (λ (v : ℕ). KeptOf now (links ++ cond (is_link p) (p ∷ []) []) (finals_with finals v c.args.is_final)) c.view_of-view.ensures
    (passed_held now links (finals_with finals c.view_of-view.result c.args.is_final) p there after)
