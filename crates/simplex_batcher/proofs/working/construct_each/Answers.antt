use Rattle.simplex_batcher.specs.Working.{constructing_at}
use Rattle.simplex_batcher.proofs.Quiet.{quiet-holds, quiet-stays, quiet-now}
use Rattle.simplex_batcher.proofs.working.construct_each.Goals as goal

pub returns-then-not-first : goal.returns-then-not-first
returns-then-not-first g c = λ made same view before doing h.
    let quiet = quiet-now made view before doing _ _ h (c.in_ok-first.ensures.quiet c.if-not-first.true made same) in
    let one = c.in_ok-first.ensures.works made same view before doing h in
    let after = quiet-stays made view doing quiet in
    let two = quiet-holds made view before (constructing_at made view doing) _ _ one after in
    quiet-holds made view before (constructing_at made view (constructing_at made view doing)) _ _ two (quiet-stays made view (constructing_at made view doing) after)

pub returns-then-not-second : goal.returns-then-not-second
returns-then-not-second g c = λ made same view before doing h.
    let one = c.in_ok-first.ensures.works made same view before doing h in
    let quiet = quiet-now made view before (constructing_at made view doing) _ _ one (c.in_ok-second.ensures.quiet c.if-not-second.true made same) in
    let two = c.in_ok-second.ensures.works made same view before _ one in
    quiet-holds made view before (constructing_at made view (constructing_at made view doing)) _ _ two (quiet-stays made view (constructing_at made view doing) quiet)

pub returns : goal.returns
returns g c = λ made same view before doing h.
    c.in_ok-construct.ensures.works made same view before _ (
    c.in_ok-second.ensures.works made same view before _ (
    c.in_ok-first.ensures.works made same view before doing h))
