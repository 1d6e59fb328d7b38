use Rattle.std.proofs.lemmas.Result.{on_ok_weaker}
use Rattle.simplex_log.proofs.Linking.{inserted}
use Rattle.simplex_log.proofs.links.Links.insert.Goals as goal

pub returns-clause-taken : goal.returns-clause-taken
returns-clause-taken c =
    on_ok_weaker c.put_link.result (λ put. λ links stands low first. inserted links c.args.proposal.now low first c.args.self.now _ put stands) c.put_link.ensures.ok
