use Rattle.std.proofs.Common.{◌≡◌, refl, sym, ◌∙◌}
use Rattle.test_values.proofs.Votes.{at_each}
use Rattle.test_values.proofs.certificates.notarization.Goals as goal

pub from_notarizes-requires-clause-one : goal.from_notarizes-requires-clause-one
from_notarizes-requires-clause-one c =
    (c.in_ok-notarize.field-0.proposal, at_each (λ v. v.proposal ≡ c.in_ok-notarize.field-0.proposal) c.in_ok-notarize.field-0 c.in_ok-notarize-2.field-0 c.in_ok-notarize-3.field-0 refl (c.in_ok-notarize-2.ensures.about ∙ sym c.in_ok-notarize.ensures.about) (c.in_ok-notarize-3.ensures.about ∙ sym c.in_ok-notarize.ensures.about))
