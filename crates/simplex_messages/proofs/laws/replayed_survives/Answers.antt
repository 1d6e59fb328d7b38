use Rattle.simplex_messages.proofs.Replays.{replayed-kept}
use Rattle.simplex_messages.proofs.laws.replayed_survives.Goals as goal

pub returns : goal.returns
returns c = λ waiting message. replayed-kept waiting message
