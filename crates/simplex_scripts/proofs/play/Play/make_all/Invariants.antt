use Rattle.std.specs.Vec.Iter.{into_iter_items}
use Rattle.simplex_scripts.proofs.Going.{Left, of_events}
use Rattle.simplex_scripts.proofs.play.Play.make_all.Given as goal

abbrev pub invariant-loop-event : goal.invariant-loop-event
invariant-loop-event l = Left l.initial.self l.self (of_events l.line (into_iter_items l.event-iterator)) (of_events l.line l.fn.events.items)
