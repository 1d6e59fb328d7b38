use Rattle.std.proofs.Common.{◌≡◌, [], Some, None, rules, arith}
use Rattle.std.proofs.lemmas.Grind.{common_steps}
use Rattle.model_resolver.specs.Views.{entry_at, judged_view}
use Rattle.simplex_fetch.proofs.Taken.{judged_is}
use Rattle.simplex_fetch.proofs.fetcher.Fetcher.verdict.Goals as goal

pub returns-clause-fetcher : goal.returns-clause-fetcher
returns-clause-fetcher c =
    let named : judged_view c.args.id c.self.inside.views ≡ Some c.in-Some.view = search rules in
    let at : entry_at c.self.inside.views c.in-Some.view ≡ Some c.in-Some-take.entry = search rules in
    let gone : entry_at c.take.new.self c.in-Some.view ≡ None = grind (arith, common_steps, c.take.ensures.at c.in-Some.view) in
    let is = judged_is c.args.id c.args.verdict c.args.now c.in-Some.view c.in-Some-take.entry (record { config = c.self.inside.config; views = c.self.inside.views; next_id = c.self.inside.next_id; serving = c.self.inside.serving.entries; next_serve = c.self.inside.next_serve; blocked = c.self.inside.blocked.keys }) c.take.new.self named at c.take.ensures.without gone c.take.ensures.put in
    rw (← c.self.view_is, is) c.in_ok-judge.ensures.fetcher

pub returns-clause-outs : goal.returns-clause-outs
returns-clause-outs c =
    let named : judged_view c.args.id c.self.inside.views ≡ Some c.in-Some.view = search rules in
    let at : entry_at c.self.inside.views c.in-Some.view ≡ Some c.in-Some-take.entry = search rules in
    let gone : entry_at c.take.new.self c.in-Some.view ≡ None = grind (arith, common_steps, c.take.ensures.at c.in-Some.view) in
    let is = judged_is c.args.id c.args.verdict c.args.now c.in-Some.view c.in-Some-take.entry (record { config = c.self.inside.config; views = c.self.inside.views; next_id = c.self.inside.next_id; serving = c.self.inside.serving.entries; next_serve = c.self.inside.next_serve; blocked = c.self.inside.blocked.keys }) c.take.new.self named at c.take.ensures.without gone c.take.ensures.put in
    let none : c.new-outs.result.items ≡ [] = c.new-outs.ensures.items in
    rw (← c.self.view_is, is) (rw none at c.in_ok-judge.ensures.outs)
