use Rattle.simplex_log.proofs.Linking.{shortened}
use Rattle.simplex_log.proofs.links.Links.shorten.Goals as goal

pub returns : goal.returns
returns c = λ links stands ends. shortened c.args.self.now _ links c.args.view c.args.«end» ends stands c.shorten.ensures
