use Rattle.law_agreement.proofs.Meeting.{quorums_meet, Meets}
use Rattle.law_agreement.proofs.quorums.quorums_meet.Goals as goal

pub returns-clause-one : goal.returns-clause-one
returns-clause-one c n faulty a pos few q =
    let m : Meets n faulty a a = quorums_meet n faulty a a pos few q q in
    (m.member, m.below, m.first, m.good)

pub returns-clause-two : goal.returns-clause-two
returns-clause-two c n faulty a b pos few qa qb =
    let m : Meets n faulty a b = quorums_meet n faulty a b pos few qa qb in
    (m.member, m.below, m.first, m.second, m.good)
