use Rattle.std.proofs.Common.{◌≡◌, Some, rules}
use Rattle.model_resolver.specs.Views.{entry_at}
use Rattle.simplex_fetch.proofs.Taken.{attempting_is}
use Rattle.simplex_fetch.proofs.fetcher.Fetcher.attempt_at.Goals as goal

pub returns-in-Some-clause-fetcher : goal.returns-in-Some-clause-fetcher
returns-in-Some-clause-fetcher c =
    let at : entry_at c.self.inside.views c.args.view ≡ Some c.in-Some.entry = search rules in
    let is = attempting_is c.args.now c.args.view c.in-Some.entry (record { config = c.self.inside.config; views = c.self.inside.views; next_id = c.self.inside.next_id; serving = c.self.inside.serving.entries; next_serve = c.self.inside.next_serve; blocked = c.self.inside.blocked.keys }) c.take.new.self at c.take.ensures.put in
    rw (← c.self.view_is, is) c.attempt.ensures.fetcher

pub returns-in-Some-clause-outs : goal.returns-in-Some-clause-outs
returns-in-Some-clause-outs c =
    let at : entry_at c.self.inside.views c.args.view ≡ Some c.in-Some.entry = search rules in
    let is = attempting_is c.args.now c.args.view c.in-Some.entry (record { config = c.self.inside.config; views = c.self.inside.views; next_id = c.self.inside.next_id; serving = c.self.inside.serving.entries; next_serve = c.self.inside.next_serve; blocked = c.self.inside.blocked.keys }) c.take.new.self at c.take.ensures.put in
    rw (← c.self.view_is, is) c.attempt.ensures.outs
