use Rattle.std.proofs.Common.{refl, ap, ◌∙◌}
use Rattle.simplex_values.specs.declared.round.Round.{Round}
use Rattle.simplex_conflicts.proofs.Naming.{added, notarize_more, finalize_more, nullify_more}
use Rattle.simplex_conflicts.proofs.Tests.{on_ok, if_ok_both}
use Rattle.simplex_conflicts.proofs.index.Index.add.Goals as goal

pub returns-in-Notarize-clause-stands : goal.returns-in-Notarize-clause-stands
returns-in-Notarize-clause-stands c = if_ok_both c.name.result
    (λ _ named stairs known index none.
    notarize_more c.args.self.now c.name.new.self c.args.subject.now known index none c.in-Notarize.p c.in-Notarize.is
    (record { length = c.name.ensures.length; nullified = c.name.ensures.nullified; named = named; stairs = stairs }) c.name.ensures.finals)
    c.name.ensures.named c.name.ensures.stairs

pub returns-in-Nullify-clause-stands : goal.returns-in-Nullify-clause-stands
returns-in-Nullify-clause-stands c = on_ok c.add.result
    (λ adds known index none.
    nullify_more c.args.self.now _ c.args.subject.now known index none c.in-Nullify.round c.in-Nullify.is refl refl refl refl
    (added _ _ _ _ _ (ap (λ (r : Round). r.view) c.round.view_is) refl adds))
    c.add.ensures.ok

pub returns-in_ok-name-in-Finalize-clause-stands : goal.returns-in_ok-name-in-Finalize-clause-stands
returns-in_ok-name-in-Finalize-clause-stands c = on_ok c.add-in-Finalize-2.result
    (λ adds known index none.
    finalize_more c.args.self.now _ c.args.subject.now known index none c.in-Finalize.p c.in-Finalize.is
    (record {
      length = c.in_ok-name-in-Finalize.ensures.length;
      nullified = c.in_ok-name-in-Finalize.ensures.nullified;
      named = c.in_ok-name-in-Finalize.ensures.named;
      stairs = c.in_ok-name-in-Finalize.ensures.stairs;
    })
    (added _ _ _ _ _ (c.add-in-Finalize.view_is ∙ c.view.ensures) c.in_ok-name-in-Finalize.ensures.finals adds))
    c.add-in-Finalize-2.ensures.ok
