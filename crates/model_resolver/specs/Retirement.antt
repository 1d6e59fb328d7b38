-- Which asks are done with.
use Rattle.std.specs.Prelude.{ℕ, nat_le, Bool, true, ◌&&◌, List}
use Rattle.simplex_values.specs.declared.ask.Until.TheVariants as until
use Rattle.simplex_values.specs.declared.ask.Ask.{Ask}
use Rattle.model_resolver.specs.declared.retire.Retire.{Retire}
use Rattle.model_resolver.specs.declared.retire.Retire.TheVariants.{Settled, Finalized, Floor}
use Rattle.model_resolver.specs.declared.arrivals.Arrival.{Arrival}
use Rattle.model_resolver.specs.Asks.{same_kind, same_until, asks_any}

-- whether asks of the view may be done with
abbrev pub reaches : Retire → ℕ → Bool
reaches (Settled kind start end) view = nat_le start view && nat_le view end
reaches (Finalized finalized) view = nat_le view finalized
reaches (Floor floor) view = nat_le view floor

-- whether such an ask of a view that is reached is done with: an ask of the settled kind, every ask up to a
-- finalized view, and what stands until the floor up to the floor
abbrev pub retires : Retire → Ask → Bool
retires (Settled kind start end) ask = same_kind ask.kind kind
retires (Finalized finalized) ask = true
retires (Floor floor) ask = same_until ask.until until.Floor

-- whether one of the asks of a view that is reached is done with; a view that is asked for has some
unfoldable pub touches : Retire → List Arrival → Bool
touches (Settled kind start end) arrivals = asks_any (λ ask. same_kind ask.kind kind) arrivals
touches (Finalized finalized) arrivals = true
touches (Floor floor) arrivals = asks_any (λ ask. same_until ask.until until.Floor) arrivals
