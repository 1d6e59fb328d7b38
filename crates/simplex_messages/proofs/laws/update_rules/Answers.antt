use Rattle.std.proofs.Common.{false}
use Rattle.simplex_messages.proofs.Updates.{needed-turns}
use Rattle.simplex_messages.proofs.laws.update_rules.Goals as goal

pub returns : goal.returns
returns c = λ turns. needed-turns (λ _. false) turns
