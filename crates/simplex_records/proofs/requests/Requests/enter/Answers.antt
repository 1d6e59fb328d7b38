use Rattle.simplex_records.proofs.Asked.{desk-own}
use Rattle.simplex_records.proofs.requests.Requests.enter.Goals as goal

pub returns : goal.returns
returns c =
    λ before noted node mine start here asks stand. desk-own _ _ before noted node mine (rw (← start) at (c.restart.ensures before node stand))
    (rw (here, asks) at c.in_ok-add.ensures.places) (λ at. rw (here, asks) at (c.in_ok-add.ensures.numbers at))
