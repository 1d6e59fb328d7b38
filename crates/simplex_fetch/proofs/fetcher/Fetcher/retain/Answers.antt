use Rattle.std.proofs.Common.{◌≡◌, ◌<◌, ◌+◌, ◌∷◌, ◌++◌, ◌&&◌, ap, ◌∙◌, rules, length, drop, get_or, add-one, drop-cons}
use Rattle.model_resolver.specs.Retirement.{reaches, touches}
use Rattle.model_resolver.specs.Views.{views_where}
use Rattle.model_resolver.specs.Fetcher.{retained, retiring, visited, IsSound}
use Rattle.simplex_fetch.proofs.Untouched.{retained_touched}
use Rattle.simplex_fetch.proofs.Visits.{visit_more, visit_fetcher, visit_outs, dropped_all}
use Rattle.simplex_fetch.proofs.fetcher.Fetcher.retain.Goals as goal

pub loop-view-preserved : goal.loop-view-preserved
loop-view-preserved c =
    let inside : c.loop-view.view-index < length c.deref-view-items.result.now = search rules in
    let is : drop c.loop-view.view-index c.deref-view-items.result.now ≡ get_or c.deref-view-items.result.now c.loop-view.view-index 0 ∷ drop (c.loop-view.view-index + 1) c.deref-view-items.result.now = rw (add-one, drop-cons c.deref-view-items.result.now c.loop-view.view-index 0) in
    let stands : c.retire_at.new.self ≡ (retiring c.args.retire.now (get_or c.deref-view-items.result.now c.loop-view.view-index 0) c.loop-view.self).fetcher = search rules in
    let wanted : c.retire_at.new.outs.items ≡ c.loop-view.outs.items ++ (retiring c.args.retire.now (get_or c.deref-view-items.result.now c.loop-view.view-index 0) c.loop-view.self).outs = search rules in
    visit_more (retiring c.args.retire.now) c.deref-view-items.result.now c.args.self.now (drop c.loop-view.view-index c.deref-view-items.result.now) c.loop-view.self c.loop-view.outs.items (get_or c.deref-view-items.result.now c.loop-view.view-index 0) (drop (c.loop-view.view-index + 1) c.deref-view-items.result.now) c.retire_at.new.self c.retire_at.new.outs.items c.loop-view.invariant is stands wanted

pub returns-clause-fetcher : goal.returns-clause-fetcher
unfolding retained
returns-clause-fetcher c =
    let listed : c.deref-view-items.result.now ≡ views_where (λ view entry. reaches c.args.retire.now view && touches c.args.retire.now entry.arrivals) c.args.self.now.views = search rules in
    let sound : IsSound c.args.self.now.config c.args.self.now.next_id c.args.self.now.views = search rules in
    let empty = dropped_all c.loop-view.view-index c.deref-view-items.result.now (search rules) in
    visit_fetcher (retiring c.args.retire.now) c.deref-view-items.result.now c.args.self.now (drop c.loop-view.view-index c.deref-view-items.result.now) c.loop-view.self c.loop-view.outs.items c.loop-view.invariant empty
    ∙ ap (λ views. (visited (retiring c.args.retire.now) views c.args.self.now).fetcher) listed
    ∙ ap (λ after. after.fetcher) (retained_touched c.args.retire.now c.args.self.now sound)

pub returns-clause-outs : goal.returns-clause-outs
unfolding retained
returns-clause-outs c =
    let listed : c.deref-view-items.result.now ≡ views_where (λ view entry. reaches c.args.retire.now view && touches c.args.retire.now entry.arrivals) c.args.self.now.views = search rules in
    let sound : IsSound c.args.self.now.config c.args.self.now.next_id c.args.self.now.views = search rules in
    let empty = dropped_all c.loop-view.view-index c.deref-view-items.result.now (search rules) in
    visit_outs (retiring c.args.retire.now) c.deref-view-items.result.now c.args.self.now (drop c.loop-view.view-index c.deref-view-items.result.now) c.loop-view.self c.loop-view.outs.items c.loop-view.invariant empty
    ∙ ap (λ views. (visited (retiring c.args.retire.now) views c.args.self.now).outs) listed
    ∙ ap (λ after. after.outs) (retained_touched c.args.retire.now c.args.self.now sound)
