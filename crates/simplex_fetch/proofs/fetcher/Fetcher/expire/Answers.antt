use Rattle.std.proofs.Common.{◌≡◌, ◌∷◌, [], ap, ◌++◌, ◌∙◌, rules, arith, length, suc}
use Rattle.std.proofs.lemmas.List.{nil_from_length}
use Rattle.simplex_fetch.specs.Index.{is_due}
use Rattle.model_resolver.specs.Views.{views_where}
use Rattle.model_resolver.specs.Fetcher.{expiring, expired, visited}
use Rattle.simplex_fetch.proofs.Taken.{expiring_ids}
use Rattle.simplex_fetch.proofs.Visits.{visit_more, visit_fetcher, visit_outs}
use Rattle.simplex_fetch.proofs.fetcher.Fetcher.expire.Goals as goal

pub loop-view-preserved : goal.loop-view-preserved
loop-view-preserved c =
    let is : c.loop-view.views.keys ≡ c.in-Some.view ∷ c.pop_first.new.self.keys = search rules in
    let stands : c.expire_at.new.self ≡ (expiring c.args.now c.in-Some.view c.loop-view.self).fetcher = search rules in
    let wanted : c.expire_at.new.outs.items ≡ c.loop-view.outs.items ++ (expiring c.args.now c.in-Some.view c.loop-view.self).outs = search rules in
    let drawn = expiring_ids c.args.now c.in-Some.view c.loop-view.self in
    let fewer : length c.loop-view.views.keys ≡ suc (length c.pop_first.new.self.keys) = ap length is in
    let same = ap (λ f. f.next_id) stands in (
      visit_more (expiring c.args.now) c.in_ok-views.views.keys c.args.self.now c.loop-view.views.keys c.loop-view.self c.loop-view.outs.items c.in-Some.view c.pop_first.new.self.keys c.expire_at.new.self c.expire_at.new.outs.items c.loop-view.invariant.0 is stands wanted,
      omega (arith, drawn, same, fewer, c.loop-view.invariant.1),
    )

pub returns-clause-fetcher : goal.returns-clause-fetcher
unfolding expired
returns-clause-fetcher c =
    let empty : c.loop-view.views.keys ≡ [] = nil_from_length c.loop-view.views.keys (search rules) in
    let due : c.in_ok-views.views.keys ≡ views_where (λ view entry. is_due c.args.now entry) c.args.self.now.views = search rules in
    visit_fetcher (expiring c.args.now) c.in_ok-views.views.keys c.args.self.now c.loop-view.views.keys c.loop-view.self c.loop-view.outs.items c.loop-view.invariant.0 empty
    ∙ ap (λ views. (visited (expiring c.args.now) views c.args.self.now).fetcher) due

pub returns-clause-outs : goal.returns-clause-outs
unfolding expired
returns-clause-outs c =
    let empty : c.loop-view.views.keys ≡ [] = nil_from_length c.loop-view.views.keys (search rules) in
    let due : c.in_ok-views.views.keys ≡ views_where (λ view entry. is_due c.args.now entry) c.args.self.now.views = search rules in
    visit_outs (expiring c.args.now) c.in_ok-views.views.keys c.args.self.now c.loop-view.views.keys c.loop-view.self c.loop-view.outs.items c.loop-view.invariant.0 empty
    ∙ ap (λ views. (visited (expiring c.args.now) views c.args.self.now).outs) due
