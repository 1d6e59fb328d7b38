use Rattle.std.proofs.Common.{◌≡◌, ◌++◌, map}
use Rattle.std.specs.Vec.Iter.{into_iter_items}
use Rattle.model_run.specs.Entries.{sent_by}
use Rattle.simplex_network.proofs.sending.packets_of.Given as goal

abbrev pub invariant-loop-one : goal.invariant-loop-one
invariant-loop-one l =
    l.packets ++ map (sent_by l.setup l.node) (into_iter_items l.one-iterator) ≡ map (sent_by l.setup l.node) l.fn.sent
