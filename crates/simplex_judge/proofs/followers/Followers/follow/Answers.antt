use Rattle.std.proofs.Common.{sym, ◌∙◌}
use Rattle.simplex_judge.proofs.Seats.{follow-none, none-of}
use Rattle.simplex_judge.proofs.followers.Followers.follow.Goals as goal

pub returns-in_default : goal.returns-in_default
returns-in_default c =
    follow-none c.args.self.now.seats.items c.args.setup.now c.args.prior.now c.args.event.now c.args.entry.now (sym c.own_node.ensures ∙ none-of c.own_node.result c.in_default.not-Some)
