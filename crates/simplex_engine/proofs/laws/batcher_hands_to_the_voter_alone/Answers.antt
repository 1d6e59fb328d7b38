use Rattle.simplex_engine.proofs.BatcherMail.{step-tells}
use Rattle.simplex_engine.proofs.laws.batcher_hands_to_the_voter_alone.Goals as goal

pub returns-clause-batcher : goal.returns-clause-batcher
returns-clause-batcher c = λ made before given. (step-tells made before given).batcher

pub returns-clause-resolver : goal.returns-clause-resolver
returns-clause-resolver c = λ made before given. (step-tells made before given).resolver
