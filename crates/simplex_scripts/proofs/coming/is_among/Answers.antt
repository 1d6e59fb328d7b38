use Rattle.simplex_scripts.proofs.Holding.{among_some}
use Rattle.simplex_scripts.proofs.coming.is_among.Goals as goal

pub returns-in-len1-up : goal.returns-in-len1-up
returns-in-len1-up c = among_some c.args.nodes.now c.args.node c.is_one_of.result c.in-len1-up.len_at_least c.is_one_of.ensures
