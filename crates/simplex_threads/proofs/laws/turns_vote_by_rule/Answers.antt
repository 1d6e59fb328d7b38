use Rattle.simplex_threads.proofs.Lawful.{all-vote}
use Rattle.simplex_threads.proofs.laws.turns_vote_by_rule.Goals as goal

pub returns : goal.returns
returns c = λ made place did. all-vote c.sent_votes_are_by_rule.ensures made place did
