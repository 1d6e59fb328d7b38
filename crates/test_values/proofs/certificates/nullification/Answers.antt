use Rattle.std.proofs.Common.{◌≡◌, refl, sym, ◌∙◌}
use Rattle.test_values.proofs.Votes.{at_each}
use Rattle.test_values.proofs.certificates.nullification.Goals as goal

pub from_nullifies-requires-clause-one : goal.from_nullifies-requires-clause-one
from_nullifies-requires-clause-one c =
    (c.in_ok-nullify.field-0.round, at_each (λ v. v.round ≡ c.in_ok-nullify.field-0.round) c.in_ok-nullify.field-0 c.in_ok-nullify-2.field-0 c.in_ok-nullify-3.field-0 refl (c.in_ok-nullify-2.ensures.about ∙ sym c.in_ok-nullify.ensures.about) (c.in_ok-nullify-3.ensures.about ∙ sym c.in_ok-nullify.ensures.about))
