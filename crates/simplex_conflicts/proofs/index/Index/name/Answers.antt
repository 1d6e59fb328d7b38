use Rattle.std.proofs.Common.{ap, ◌∙◌}
use Rattle.simplex_values.specs.declared.proposal.Proposal.{Proposal}
use Rattle.simplex_conflicts.proofs.Climbing.{spanned_same}
use Rattle.simplex_conflicts.proofs.Tests.{on_ok}
use Rattle.simplex_conflicts.proofs.index.Index.name.Goals as goal

pub returns-clause-stairs : goal.returns-clause-stairs
returns-clause-stairs c = on_ok c.add-2.result
    (λ adds spanned stands.
    spanned_same _ spanned _ _ _ _ (ap (λ (p : Proposal). p.parent) c.p.view_is) (c.add.view_is ∙ c.view-2.ensures) (adds spanned stands))
    c.add-2.ensures
