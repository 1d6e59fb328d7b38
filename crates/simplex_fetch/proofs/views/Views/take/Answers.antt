use Rattle.std.proofs.Common.{◌≡◌, ◌==◌, ℕ, Some, None, rules, arith, ◌∙◌}
use Rattle.std.specs.Prelude.{if◌then◌else◌}
use Rattle.std.specs.Cmp.{unsigned_tied}
use Rattle.std.proofs.lemmas.Grind.{common_steps}
use Rattle.model_resolver.specs.Views.{entry_at, without_entry}
use Rattle.model_resolver.specs.Asks.{held_of}
use Rattle.simplex_fetch.specs.Holders.{IsForgotten}
use Rattle.simplex_fetch.proofs.Indexing.{removed, freed}
use Rattle.simplex_fetch.proofs.Holding.{held_take}
use Rattle.simplex_fetch.proofs.Entries.{with-without, with_entry-same}
use Rattle.simplex_fetch.proofs.views.Views.take.Goals as goal

pub invariant_of-self-2 : goal.invariant_of-self-2
unfolding entry_at
invariant_of-self-2 c =
    let at : entry_at c.self.inside.entries.entries c.args.view ≡ Some c.in_ok-entry.entry = search rules in
    let left = (λ (q : ℕ). let is : entry_at c.remove.new.self.entries q ≡ (if c.args.view == q then None else entry_at c.self.inside.entries.entries q) = grind (arith, common_steps, c.remove.ensures.updates.0 q, unsigned_tied c.args.view q) in is) in
    let gone : IsForgotten c.args.view (held_of c.in_ok-entry.entry.arrivals) c.self.inside.holders c.forget.new.self = rw c.held.ensures at c.forget.ensures in (
      removed c.args.view c.in_ok-entry.entry c.self.inside.entries.entries c.remove.new.self.entries
          c.self.inside.timers.keys c.clear_timer.new.timers.keys c.self.inside.numbers.entries c.close.new.numbers.entries
          c.self.invariant.0 at c.remove.ensures.ordered left
          (λ d v. rw c.deadline.ensures at (c.clear_timer.ensures d v)) (λ q. rw c.id.ensures at (c.close.ensures q)),
      held_take c.args.view c.in_ok-entry.entry c.self.inside.entries.entries c.remove.new.self.entries c.self.inside.holders c.forget.new.self c.self.invariant.1 at left gone,
    )

pub returns-clause-free : goal.returns-clause-free
unfolding entry_at
returns-clause-free c =
    let at : entry_at c.self.inside.entries.entries c.args.view ≡ Some c.in_ok-entry.entry = search rules in
    let left = (λ (q : ℕ). let is : entry_at c.remove.new.self.entries q ≡ (if c.args.view == q then None else entry_at c.self.inside.entries.entries q) = grind (arith, common_steps, c.remove.ensures.updates.0 q, unsigned_tied c.args.view q) in is) in
    freed c.args.view c.in_ok-entry.entry c.self.inside.entries.entries c.remove.new.self.entries
    c.self.inside.timers.keys c.self.inside.numbers.entries c.self.invariant.0 at left

pub returns-clause-put : goal.returns-clause-put
unfolding without_entry
returns-clause-put c = λ entry. rw (← c.self.view_is, c.remove.ensures.entries) (with-without c.args.view entry c.self.inside.entries.entries c.self.invariant.0.rising)

pub returns-clause-back : goal.returns-clause-back
unfolding entry_at without_entry
returns-clause-back c =
    let at : entry_at c.self.inside.entries.entries c.args.view ≡ Some c.in_ok-entry.entry = search rules in
    rw (← c.self.view_is, c.remove.ensures.entries) (with-without c.args.view c.in_ok-entry.entry c.self.inside.entries.entries c.self.invariant.0.rising ∙ with_entry-same c.args.view c.in_ok-entry.entry c.self.inside.entries.entries c.self.invariant.0.rising at)
