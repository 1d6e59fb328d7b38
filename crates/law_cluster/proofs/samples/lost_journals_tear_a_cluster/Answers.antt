use Rattle.law_cluster.proofs.TornSampling.{forgetful_lives, forgetful_torn}
use Rattle.law_cluster.proofs.samples.lost_journals_tear_a_cluster.Goals as goal

pub returns-clause-forgetful : goal.returns-clause-forgetful
returns-clause-forgetful c =
    let it = c.votes_are_forgotten.ensures in
    forgetful_lives (record { history = it.first; typed = it.first_typed; came = it.first_came })
    (record { history = it.third; typed = it.third_typed; came = it.third_came })
    (record { history = it.fourth; typed = it.fourth_typed; came = it.fourth_came }) it.voted

pub returns-clause-torn : goal.returns-clause-torn
returns-clause-torn c =
    let it = c.votes_are_forgotten.ensures in
    let other = c.rivals_are_heard.ensures in
    forgetful_torn it.third_heard it.fourth_heard other.block it.verifies
