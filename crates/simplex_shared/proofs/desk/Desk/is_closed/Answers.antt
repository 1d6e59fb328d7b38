use Rattle.std.proofs.Common.{ap, ◌∙◌}
use Rattle.simplex_shared.specs.Desk.{Recorded}
use Rattle.simplex_shared.specs.History.{is_shut}
use Rattle.simplex_shared.proofs.Replaying.{replays-closed}
use Rattle.simplex_shared.proofs.desk.Desk.is_closed.Goals as goal

pub returns-clause-shut : goal.returns-clause-shut
returns-clause-shut g c =
    let inside = c.self.inside in
    c.is_closed.ensures
    ∙ replays-closed g.M.Policy.handle g.M.Requested.is_skipped inside.mailbox.capacity inside.log.items inside.mailbox c.self.invariant
    ∙ ap (λ (d : Recorded g.row.M.Denot). is_shut d.log) c.self.view_is
