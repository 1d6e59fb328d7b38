use Rattle.simplex_judge.proofs.Following.{signs-from}
use Rattle.simplex_judge.proofs.follower.scheme_of.Goals as goal

pub returns : goal.returns
returns c = signs-from _ c.args.setup.now _ c.args.member _ c.in_ok-config.ensures.made
