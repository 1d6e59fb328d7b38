use Rattle.std.proofs.Common.{◌∙◌}
use Rattle.simplex_judge.proofs.Sent.{count-votes}
use Rattle.simplex_judge.proofs.sending.votes_among.Goals as goal

pub returns : goal.returns
returns c = c.count_votes.ensures ∙ count-votes c.args.packets.now
