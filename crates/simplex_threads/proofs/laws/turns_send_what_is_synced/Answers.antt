use Rattle.simplex_threads.proofs.Lawful.{all-send}
use Rattle.simplex_threads.proofs.laws.turns_send_what_is_synced.Goals as goal

pub returns : goal.returns
returns c = λ made place did. all-send c.sends_follow_syncs.ensures made place did
