use Rattle.std.proofs.Common.{◌≡◌, refl, sym, ◌∙◌}
use Rattle.test_values.proofs.Votes.{at_each}
use Rattle.test_values.proofs.certificates.finalization.Goals as goal

pub from_finalizes-requires-clause-one : goal.from_finalizes-requires-clause-one
from_finalizes-requires-clause-one c =
    (c.in_ok-finalize.field-0.proposal, at_each (λ v. v.proposal ≡ c.in_ok-finalize.field-0.proposal) c.in_ok-finalize.field-0 c.in_ok-finalize-2.field-0 c.in_ok-finalize-3.field-0 refl (c.in_ok-finalize-2.ensures.about ∙ sym c.in_ok-finalize.ensures.about) (c.in_ok-finalize-3.ensures.about ∙ sym c.in_ok-finalize.ensures.about))
