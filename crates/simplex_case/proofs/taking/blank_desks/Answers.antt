use Rattle.std.proofs.Common.{◌+◌, refl, ap, ◌∙◌, length}
use Rattle.std.proofs.lemmas.List.{length_push}
use Rattle.simplex_case.proofs.Desks.{no-desks, desks-grown, desks-new}
use Rattle.simplex_case.proofs.taking.blank_desks.Goals as goal

pub loop-init : goal.loop-init
loop-init c = rw c.new-desks.ensures.items (refl, no-desks)

pub loop-preserved : goal.loop-preserved
loop-preserved c = (
  ap (λ ds. length ds) c.in_ok-push.ensures.items ∙ length_push c.loop.desks.items _ ∙ ap (λ n. n + 1) c.loop.invariant.0,
  desks-grown c.loop.desks.items _ _ c.in_ok-push.ensures.items c.loop.invariant.1 c.new.ensures,
)

pub returns-clause-stand : goal.returns-clause-stand
returns-clause-stand c = desks-new _ c.loop.invariant.1
