use Rattle.law_cluster.proofs.TornSampling.{forged_alive, forged_torn}
use Rattle.law_cluster.proofs.samples.forged_signatures_tear_a_cluster.Goals as goal

pub returns-clause-alive : goal.returns-clause-alive
returns-clause-alive c =
    let it = c.rivals_are_heard.ensures in
    forged_alive (record { history = it.history; typed = it.typed; heard = it.heard; of_block = it.block; of_rival = it.rival })

pub returns-clause-torn : goal.returns-clause-torn
returns-clause-torn c =
    let it = c.rivals_are_heard.ensures in
    forged_torn (record { history = it.history; typed = it.typed; heard = it.heard; of_block = it.block; of_rival = it.rival })
