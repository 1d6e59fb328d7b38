use Rattle.std.proofs.Common.{◌∙◌}
use Rattle.simplex_records.specs.Seats.{node_at}
use Rattle.simplex_records.proofs.Asked.{desks-enter}
use Rattle.simplex_records.proofs.Seating.{own-seat}
use Rattle.simplex_records.proofs.Keeping.{desk-at}
use Rattle.simplex_records.proofs.records.add_asked.Goals as goal

pub returns-clause-stands : goal.returns-clause-stands
returns-clause-stands c =
    λ before noted here asks of stand. desks-enter _ before noted c.args.seat c.args.starts _ of stand
    (c.in_ok-enter.ensures before noted (node_at c.args.seat) (of.of c.args.seat ∙ own-seat c.args.seat) of.start here asks
    (desk-at _ before _ _ stand c.requires c.index_mut.ensures.value))
