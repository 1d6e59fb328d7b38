-- What was made so far, and what is made of it.
use Rattle.std.specs.Prelude.{◌≡◌, ◌≤◌, ◌+◌, ℕ, List, [], ◌++◌, length, Ok}
use Rattle.simplex_transcript.specs.declared.event.Event.{Event}
use Rattle.simplex_transcript.specs.declared.setup.Setup.{Setup}
use Rattle.model_run.specs.Life.{Noted}
use Rattle.model_run.specs.Setting.{at_epoch_genesis}
use Rattle.model_run.specs.Run.{run}
use Rattle.simplex_network.specs.declared.network.Network.{Network}
use Rattle.simplex_network.specs.Stands.{StandsFor}
use Rattle.simplex_simulator.specs.declared.simulation.Simulation.{Simulation}

-- the events are run, and none of them is refused
unfoldable pub IsRunnable : Setup → List Event → Type 0
IsRunnable setup events = (before : List Noted) × (run (at_epoch_genesis setup) [] events ≡ Ok before)

-- the network made these events of the setup: it goes on with any others as their run does
pub record MadeEvents (network : Network) (setup : Setup) (events : List Event) : Type 0 where
  pub before : List Noted
  pub stands : StandsFor network (at_epoch_genesis setup) before
  pub goes_on : (more : List Event) → run (at_epoch_genesis setup) before more ≡ run (at_epoch_genesis setup) [] (events ++ more)

-- the simulation's events are those that its network made
abbrev pub Went : Simulation → Setup → Type 0
Went simulation setup = MadeEvents simulation.network setup simulation.events

-- it makes one event more at most, and its network makes it too
pub record GoesOn (old new : Simulation) : Type 0 where
  pub went : (setup : Setup) → Went old setup → Went new setup
  pub few : length new.events ≤ length old.events + 1
