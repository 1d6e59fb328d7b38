use Rattle.std.proofs.Common.{◌≡◌, Some, rules}
use Rattle.model_resolver.specs.Views.{entry_at, asked_view}
use Rattle.simplex_fetch.proofs.Taken.{refused_is}
use Rattle.simplex_fetch.proofs.fetcher.Fetcher.hear_error.Goals as goal

pub returns-in-Some-take : goal.returns-in-Some-take
returns-in-Some-take c =
    let opened : asked_view c.args.id c.args.sender.now c.self.inside.views ≡ Some c.in-Some.view = search rules in
    let at : entry_at c.self.inside.views c.in-Some.view ≡ Some c.in-Some-take.entry = search rules in
    let is = refused_is c.args.now c.in-Some.view c.in-Some-take.entry (record { config = c.self.inside.config; views = c.self.inside.views; next_id = c.self.inside.next_id; serving = c.self.inside.serving.entries; next_serve = c.self.inside.next_serve; blocked = c.self.inside.blocked.keys }) c.take.new.self (asked_view c.args.id c.args.sender.now c.self.inside.views) opened at c.take.ensures.put in
    rw (← c.self.view_is, is) c.retry.ensures
