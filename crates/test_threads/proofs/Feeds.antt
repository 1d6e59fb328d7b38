-- Feeds whose clocks are times.
use Rattle.std.proofs.Common.{◌≡◌, ℕ, zero, suc, List, [], ◌∷◌, ◌++◌, length, ◌<◌, arith}
use Rattle.std.specs.Prelude.{All, slice_index_or}
use Rattle.std.proofs.lemmas.List.Elements.{All-append}
use Rattle.simplex_turns.specs.declared.feed.FeedItem.{FeedItem}
use Rattle.simplex_turns.specs.Threads.{IsInTime}

one-item : (item : FeedItem) → IsInTime item → All IsInTime (item ∷ [])
one-item item timely zero d lt = timely
one-item item timely (suc k) d lt = absurd (omega (arith, lt))

pub item-more : (list : List FeedItem) (item : FeedItem) → All IsInTime list → IsInTime item → All IsInTime (list ++ item ∷ [])
item-more list item h timely = All-append IsInTime list (item ∷ []) h (one-item item timely)

pub ruleset added = (item-more)
