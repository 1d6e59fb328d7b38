use Rattle.law_member.proofs.ResolverStepping.{asks-unsettled, asks-for-gaps}
use Rattle.law_member.proofs.resolver.asks_are_of_what_is_not_settled.Goals as goal

pub returns-clause-unsettled : goal.returns-clause-unsettled
returns-clause-unsettled c = λ made past view some small. asks-unsettled made some past view small

pub returns-clause-gap : goal.returns-clause-gap
returns-clause-gap c = λ made past view some small. asks-for-gaps made some past view small
