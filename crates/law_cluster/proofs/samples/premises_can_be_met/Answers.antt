use Rattle.law_cluster.proofs.Sampling.{four_honest}
use Rattle.law_cluster.proofs.samples.premises_can_be_met.Goals as goal

pub returns : goal.returns
returns c =
    let first = c.killed_member_finalizes.ensures in
    let second = c.leader_finalizes.ensures in
    let third = c.follower_finalizes.ensures in
    four_honest (record { history = first.history; typed = first.typed; came = first.came; voted = first.voted })
    (record { history = second.history; typed = second.typed; came = second.came; voted = second.voted })
    (record { history = third.history; typed = third.typed; came = third.came; voted = third.voted })
