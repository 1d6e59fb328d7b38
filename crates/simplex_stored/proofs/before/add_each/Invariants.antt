use Rattle.std.proofs.Common.{◌≡◌, List, ℕ}
use Rattle.std.specs.Prelude.{◌||◌}
use Rattle.std.specs.List.{list_any}
use Rattle.std.specs.Str.{bytes_eq}
use Rattle.std.specs.Vec.Iter.{into_iter_items}
use Rattle.simplex_stored.specs.Before.{is_in}
use Rattle.simplex_stored.proofs.before.add_each.Given as goal

abbrev pub invariant-loop-bytes : goal.invariant-loop-bytes
invariant-loop-bytes l =
    (bytes : List ℕ) → (list_any (bytes_eq bytes) (into_iter_items l.bytes-iterator) || is_in l.stored bytes)
    ≡ (list_any (bytes_eq bytes) l.fn.spellings || is_in l.initial.stored bytes)
