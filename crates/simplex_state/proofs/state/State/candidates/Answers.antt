use Rattle.std.proofs.Common.{◌≡◌, ◌∷◌, [], ◌∙◌, rules}
use Rattle.std.specs.Ordering.{nat_cmp}
use Rattle.std.specs.List.Sorted.{IsStrictlySortedBy}
use Rattle.model_rules.specs.Calls.{known_of}
use Rattle.simplex_state.specs.Certifying.{certify_at, fetch_at}
use Rattle.simplex_state.specs.Stands.{StandsFor}
use Rattle.simplex_state.proofs.Waiting.{walk_turn, walk_end, certify_walk, fetch_walk}
use Rattle.simplex_state.proofs.state.State.candidates.Goals as goal

pub loop-view-preserved : goal.loop-view-preserved
loop-view-preserved g c =
    let left : c.loop-view.view-iterator ≡ c.in-Some.view.now ∷ c.next.new.self = search rules in
    record {
      proposals = λ made calls s. walk_turn (certify_at (known_of made calls)) _ _ _ _ _ c.in-Some.view.now left (c.in_ok-note_proposal.ensures made calls s) (c.loop-view.invariant.proposals made calls s);
      fetches = λ made calls s. walk_turn (fetch_at (known_of made calls)) _ _ _ _ _ c.in-Some.view.now left (c.in_ok-note_parent.ensures made calls s) (c.loop-view.invariant.fetches made calls s);
    }

pub returns-clause-proposals : goal.returns-clause-proposals
unfolding StandsFor
returns-clause-proposals g c = λ made calls s.
    (let none : c.loop-view.view-iterator ≡ [] = search rules in
    let sorted : IsStrictlySortedBy nat_cmp c.args.self.now.waiting.keys = search rules in
    walk_end (certify_at (known_of made calls)) _ _ _ none (c.loop-view.invariant.proposals made calls s)
    ∙ certify_walk (known_of made calls) c.args.self.now.waiting sorted s.waiting)

pub returns-clause-fetches : goal.returns-clause-fetches
unfolding StandsFor
returns-clause-fetches g c = λ made calls s.
    (let none : c.loop-view.view-iterator ≡ [] = search rules in
    let sorted : IsStrictlySortedBy nat_cmp c.args.self.now.waiting.keys = search rules in
    walk_end (fetch_at (known_of made calls)) _ _ _ none (c.loop-view.invariant.fetches made calls s)
    ∙ fetch_walk (known_of made calls) c.args.self.now.waiting sorted s.waiting)
