use Rattle.std.proofs.Common.{◌≡◌, Some, rules}
use Rattle.model_resolver.specs.Views.{entry_at}
use Rattle.simplex_fetch.proofs.Taken.{expiring_asked, expiring_waiting}
use Rattle.simplex_fetch.proofs.fetcher.Fetcher.expire_at.Goals as goal

pub returns-in-Asked-clause-fetcher : goal.returns-in-Asked-clause-fetcher
returns-in-Asked-clause-fetcher c =
    let at : entry_at c.self.inside.views c.args.view ≡ Some c.in-Some.entry = search rules in
    let is = expiring_asked c.args.now c.args.view c.in-Some.entry (record { config = c.self.inside.config; views = c.self.inside.views; next_id = c.self.inside.next_id; serving = c.self.inside.serving.entries; next_serve = c.self.inside.next_serve; blocked = c.self.inside.blocked.keys }) c.take.new.self c.in-Asked.id c.in-Asked.peer c.in-Asked.deadline at c.in-Asked.is c.take.ensures.put in
    rw (← c.self.view_is, is) c.retry.ensures

pub returns-in-Waiting-clause-fetcher : goal.returns-in-Waiting-clause-fetcher
returns-in-Waiting-clause-fetcher c =
    let at : entry_at c.self.inside.views c.args.view ≡ Some c.in-Some.entry = search rules in
    let is = expiring_waiting c.args.now c.args.view c.in-Some.entry (record { config = c.self.inside.config; views = c.self.inside.views; next_id = c.self.inside.next_id; serving = c.self.inside.serving.entries; next_serve = c.self.inside.next_serve; blocked = c.self.inside.blocked.keys }) c.take.new.self c.in-Waiting.until at c.in-Waiting.is c.take.ensures.put in
    rw (← c.self.view_is, is) c.attempt.ensures.fetcher

pub returns-in-Waiting-clause-outs : goal.returns-in-Waiting-clause-outs
returns-in-Waiting-clause-outs c =
    let at : entry_at c.self.inside.views c.args.view ≡ Some c.in-Some.entry = search rules in
    let is = expiring_waiting c.args.now c.args.view c.in-Some.entry (record { config = c.self.inside.config; views = c.self.inside.views; next_id = c.self.inside.next_id; serving = c.self.inside.serving.entries; next_serve = c.self.inside.next_serve; blocked = c.self.inside.blocked.keys }) c.take.new.self c.in-Waiting.until at c.in-Waiting.is c.take.ensures.put in
    rw (← c.self.view_is, is) c.attempt.ensures.outs
