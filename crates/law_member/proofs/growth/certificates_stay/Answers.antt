use Rattle.model_rules.specs.Calls.{facts_of}
use Rattle.law_member.proofs.Growing.{notarization_stays, nullification_stays, finalization_stays, verdict_stays}
use Rattle.law_member.proofs.growth.certificates_stay.Goals as goal

pub returns-clause-notarization : goal.returns-clause-notarization
returns-clause-notarization c = λ made known call view n e. notarization_stays (facts_of made known call) known view n e

pub returns-clause-nullification : goal.returns-clause-nullification
returns-clause-nullification c = λ made known call view n e. nullification_stays (facts_of made known call) known view n e

pub returns-clause-finalization : goal.returns-clause-finalization
returns-clause-finalization c = λ made known call view f e. finalization_stays (facts_of made known call) known view f e

pub returns-clause-verdict : goal.returns-clause-verdict
returns-clause-verdict c = λ made known call view good e. verdict_stays (facts_of made known call) known view good e
