use Rattle.law_agreement.specs.World.{IsBacked}
use Rattle.law_agreement.proofs.Goods.{good_sent}
use Rattle.law_agreement.proofs.Invariant.{sent_in_order, sent_alone, sent_honest}
use Rattle.law_agreement.proofs.lives.lives_are_honest.Goals as goal

pub returns-clause-order : goal.returns-clause-order
returns-clause-order c length calls pos legal = sent_in_order length pos calls legal

pub returns-clause-alone : goal.returns-clause-alone
returns-clause-alone c length calls pos legal = sent_alone length pos calls legal

pub returns-clause-backed : goal.returns-clause-backed
returns-clause-backed c w calls backed = good_sent (IsBacked w) calls backed

pub returns-clause-honest : goal.returns-clause-honest
returns-clause-honest c w calls pos legal backed = sent_honest w pos calls legal backed
