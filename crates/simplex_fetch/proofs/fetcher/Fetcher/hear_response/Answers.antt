use Rattle.std.proofs.Common.{◌≡◌, Some, rules}
use Rattle.model_resolver.specs.Views.{entry_at, asked_view}
use Rattle.model_resolver.specs.Fetcher.{IsSoundEntry, IsDrawn}
use Rattle.simplex_fetch.proofs.Indexing.{asked_open}
use Rattle.simplex_fetch.proofs.Taken.{drawn_put}
use Rattle.simplex_fetch.proofs.fetcher.Fetcher.hear_response.Goals as goal

pub put-requires-clause-free : goal.put-requires-clause-free
put-requires-clause-free c =
    let opened : asked_view c.args.id c.args.sender.now c.self.inside.views ≡ Some c.in-Some.view = search rules in
    let at : entry_at c.self.inside.views c.in-Some.view ≡ Some c.in-Some-take.entry = search rules in
    let is = asked_open c.args.id c.args.sender.now c.in-Some.view c.self.inside.views c.in-Some-take.entry c.self.invariant.rising opened at in
    rw is at c.in-Some-take.ensures.free

pub invariant_of-self-2 : goal.invariant_of-self-2
invariant_of-self-2 c =
    let opened : asked_view c.args.id c.args.sender.now c.self.inside.views ≡ Some c.in-Some.view = search rules in
    let at : entry_at c.self.inside.views c.in-Some.view ≡ Some c.in-Some-take.entry = search rules in
    let is = asked_open c.args.id c.args.sender.now c.in-Some.view c.self.inside.views c.in-Some-take.entry c.self.invariant.rising opened at in
    let sound : IsSoundEntry c.self.inside.next_id c.in-Some-take.entry = rw at at (c.self.invariant.drawn c.in-Some.view) in
    let drawn : IsDrawn c.self.inside.next_id (Some c.args.id) = rw is at sound.drawn in
    record {
      configured = c.self.invariant.configured;
      rising = c.in_ok-put.ensures.rising;
      drawn = drawn_put c.self.inside.next_id c.in-Some.view _ c.self.inside.views c.take.new.self c.put.new.self c.take.ensures.at c.in_ok-put.ensures.at c.self.invariant.drawn (record { wanted = sound.wanted; drawn = drawn });
    }
