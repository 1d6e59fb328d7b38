use Rattle.std.proofs.Common.{◌≡◌, ◌∷◌, [], ap, ◌++◌, rules, arith, length, suc}
use Rattle.std.proofs.lemmas.List.{nil_from_length}
use Rattle.model_resolver.specs.Fetcher.{attempting}
use Rattle.simplex_fetch.proofs.Taken.{attempting_ids}
use Rattle.simplex_fetch.proofs.Visits.{visit_more, visit_fetcher, visit_outs}
use Rattle.simplex_fetch.proofs.fetcher.Fetcher.start.Goals as goal

pub loop-view-preserved : goal.loop-view-preserved
loop-view-preserved c =
    let is : c.loop-view.views.keys ≡ c.in-Some.view ∷ c.pop_first.new.self.keys = search rules in
    let stands : c.attempt_at.new.self ≡ (attempting c.args.now c.in-Some.view c.loop-view.self).fetcher = search rules in
    let wanted : c.attempt_at.new.outs.items ≡ c.loop-view.outs.items ++ (attempting c.args.now c.in-Some.view c.loop-view.self).outs = search rules in
    let drawn = attempting_ids c.args.now c.in-Some.view c.loop-view.self in
    let fewer : length c.loop-view.views.keys ≡ suc (length c.pop_first.new.self.keys) = ap length is in
    let same = ap (λ f. f.next_id) stands in (
      visit_more (attempting c.args.now) c.args.new.keys c.args.self.now c.loop-view.views.keys c.loop-view.self c.loop-view.outs.items c.in-Some.view c.pop_first.new.self.keys c.attempt_at.new.self c.attempt_at.new.outs.items c.loop-view.invariant.0 is stands wanted,
      omega (arith, drawn, same, fewer, c.loop-view.invariant.1),
    )

pub returns-clause-fetcher : goal.returns-clause-fetcher
returns-clause-fetcher c =
    let empty : c.loop-view.views.keys ≡ [] = nil_from_length c.loop-view.views.keys (search rules) in
    visit_fetcher (attempting c.args.now) c.args.new.keys c.args.self.now c.loop-view.views.keys c.loop-view.self c.loop-view.outs.items c.loop-view.invariant.0 empty

pub returns-clause-outs : goal.returns-clause-outs
returns-clause-outs c =
    let empty : c.loop-view.views.keys ≡ [] = nil_from_length c.loop-view.views.keys (search rules) in
    visit_outs (attempting c.args.now) c.args.new.keys c.args.self.now c.loop-view.views.keys c.loop-view.self c.loop-view.outs.items c.loop-view.invariant.0 empty
