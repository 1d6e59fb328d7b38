use Rattle.simplex_voter.proofs.planner.Planner.record_certificate.Goals as goal

pub returns : goal.returns
returns g c = λ made answers doing s.
    let added = c.in_ok-list_added.ensures made answers doing s in
    let appended = c.in_ok-append.ensures made answers _ added in
    let blocked = c.in_ok-block.ensures made answers _ appended in
    let handed = c.in_ok-hand.ensures made answers _ blocked in
    rw (c.in_ok-added.ensures, c.record_for-record.ensures, c.in_ok-kept.ensures) at handed
