use Rattle.std.proofs.Common.{◌≡◌, None, rules}
use Rattle.model_resolver.specs.Asks.{held_of}
use Rattle.model_resolver.specs.Views.{entry_at, with_entry, id_of}
use Rattle.simplex_fetch.specs.Index.{IsFree}
use Rattle.simplex_fetch.specs.Holders.{IsNoted, IsForgotten}
use Rattle.simplex_fetch.proofs.Entries.{entry_at-put}
use Rattle.simplex_fetch.proofs.Indexing.{inserted, restored}
use Rattle.simplex_fetch.proofs.Holding.{IsPut, held_put, held_back, forgotten_noted}
use Rattle.simplex_fetch.proofs.views.Views.put.Goals as goal

pub invariant_of-self-then-is_err-2 : goal.invariant_of-self-then-is_err-2
unfolding entry_at
invariant_of-self-then-is_err-2 c =
    let at : entry_at c.self.inside.entries.entries c.args.view ≡ None = search rules in
    let free : IsFree (id_of c.args.entry.state) c.self.inside.entries.entries = search rules in
    let gone : IsForgotten c.args.view (held_of c.args.entry.arrivals) c.self.inside.holders c.note.new.self = search rules in (
      restored c.args.view c.args.entry c.self.inside.entries.entries c.self.inside.timers.keys c.set_timer.new.timers.keys c.clear_timer-then-is_err-2.new.timers.keys
          c.self.inside.numbers.entries c.open.new.numbers.entries c.close.new.numbers.entries c.self.invariant.0 at free
          (search rules) (search rules) (search rules) (search rules),
      held_back c.args.view c.args.entry c.self.inside.entries.entries c.self.inside.entries.entries c.self.inside.holders c.note.new.self c.self.invariant.1 at gone,
    )

pub invariant_of-self-then-is_err-3 : goal.invariant_of-self-then-is_err-3
unfolding entry_at
invariant_of-self-then-is_err-3 c =
    let at : entry_at c.self.inside.entries.entries c.args.view ≡ None = search rules in
    let free : IsFree (id_of c.args.entry.state) c.self.inside.entries.entries = search rules in
    let noted : IsNoted c.args.view (held_of c.args.entry.arrivals) c.self.inside.holders c.note.new.self = search rules in
    let gone : IsForgotten c.args.view (held_of c.args.entry.arrivals) c.note.new.self c.forget.new.self = search rules in
    let both = forgotten_noted c.args.view c.args.entry c.self.inside.holders c.note.new.self c.forget.new.self noted gone in
    let same : c.insert.new.self.entries ≡ c.self.inside.entries.entries = search rules in
    rw same (
      restored c.args.view c.args.entry c.self.inside.entries.entries c.self.inside.timers.keys c.set_timer.new.timers.keys c.clear_timer-then-is_err-3.new.timers.keys
          c.self.inside.numbers.entries c.open.new.numbers.entries c.close-then-is_err-3.new.numbers.entries c.self.invariant.0 at free
          (search rules) (search rules) (search rules) (search rules),
      held_back c.args.view c.args.entry c.self.inside.entries.entries c.self.inside.entries.entries c.self.inside.holders c.forget.new.self c.self.invariant.1 at both,
    )

pub invariant_of-self-else-is_err-3 : goal.invariant_of-self-else-is_err-3
unfolding with_entry
invariant_of-self-else-is_err-3 c =
    let at : entry_at c.self.inside.entries.entries c.args.view ≡ None = rw (← c.self.view_is) at c.requires.absent in
    let free : IsFree (id_of c.args.entry.state) c.self.inside.entries.entries = search rules in
    let noted : IsNoted c.args.view (held_of c.args.entry.arrivals) c.self.inside.holders c.note.new.self = search rules in
    let whole : c.insert.new.self.entries ≡ with_entry c.args.view c.args.entry c.self.inside.entries.entries = search rules in
    let put : IsPut c.args.view c.args.entry c.self.inside.entries.entries c.insert.new.self.entries = (λ q. rw whole (entry_at-put c.args.view c.args.entry c.self.inside.entries.entries q)) in (
      inserted c.args.view c.args.entry c.self.inside.entries.entries c.insert.new.self.entries c.self.inside.timers.keys c.set_timer.new.timers.keys
          c.self.inside.numbers.entries c.open.new.numbers.entries c.self.invariant.0 at free c.insert.ensures.ordered put (search rules) (search rules),
      held_put c.args.view c.args.entry c.self.inside.entries.entries c.insert.new.self.entries c.self.inside.holders c.note.new.self c.self.invariant.1 at put noted,
    )
