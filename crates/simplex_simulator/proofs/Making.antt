-- An event more.
use Rattle.std.proofs.Common.{◌≡◌, ℕ, List, [], ◌∷◌, ◌++◌, length, ◌≤◌, ◌+◌, ◌∙◌, sym, refl, ap, arith, append_assoc, append-nil, length-append, subst}
use Rattle.std.specs.Prelude.{Result, Ok, Err}
use Rattle.simplex_transcript.specs.declared.event.Event.{Event}
use Rattle.simplex_transcript.specs.declared.entry.Entry.{Entry}
use Rattle.simplex_transcript.specs.declared.setup.Setup.{Setup}
use Rattle.simplex_transcript.specs.declared.refusal.RunError.{RunError}
use Rattle.model_run.specs.Life.{Noted}
use Rattle.model_run.specs.Setting.{Setting, at_epoch_genesis}
use Rattle.model_run.specs.Entries.{entry_of}
use Rattle.model_run.specs.Run.{run, unless_refused}
use Rattle.simplex_network.specs.declared.network.Network.{Network}
use Rattle.simplex_network.specs.Stands.{StandsFor, Grows, Enters, Stays, entered}
use Rattle.simplex_simulator.specs.declared.simulation.Simulation.{Simulation}
use Rattle.simplex_simulator.specs.Going.{GoesOn, IsRunnable, MadeEvents}

noted_of : (entry : Entry) (r : Result Noted RunError) → entered r ≡ Ok entry → (noted : Noted) × (r ≡ Ok noted)
noted_of entry (Ok noted) is = (noted, refl)
noted_of entry (Err error) is = absurd (cc)

-- behind one event
run-one : (setting : Setting) (before : List Noted) (event : Event) (more : List Event) (noted : Noted) → entry_of setting before event ≡ Ok noted
    → run setting before (event ∷ more) ≡ run setting (noted ∷ before) more
unfolding run unless_refused
run-one setting before event more noted is = rw is refl

-- none yet
pub made_none : (network : Network) (setup : Setup) → StandsFor network (at_epoch_genesis setup) [] → MadeEvents network setup []
made_none network setup stands = record { before = []; stands = stands; goes_on = λ more. refl }

-- one more
pub made_more : (old new : Network) (setup : Setup) (events : List Event) (event : Event) (entry : Entry) → Grows old new event entry → Enters old event entry
    → MadeEvents old setup events → MadeEvents new setup (events ++ event ∷ [])
made_more old new setup events event entry grows enters made =
    let setting = at_epoch_genesis setup in
    let noted = noted_of entry (entry_of setting made.before event) (enters setting made.before made.stands) in
    record {
      before = noted.0 ∷ made.before;
      stands = grows setting made.before noted.0 made.stands noted.1;
      goes_on = λ more.
          sym (run-one setting made.before event more noted.0 noted.1)
          ∙ made.goes_on (event ∷ more)
          ∙ ap (λ (all : List Event). run setting [] all) (sym (append_assoc events (event ∷ []) more));
    }

-- a refused event changes nothing
pub made_same : (old new : Network) (setup : Setup) (events : List Event) → Stays old new → MadeEvents old setup events → MadeEvents new setup events
made_same old new setup events stays made =
    record { before = made.before; stands = stays (at_epoch_genesis setup) made.before made.stands; goes_on = made.goes_on }

-- what was made is run
pub runnable : (network : Network) (setup : Setup) (events : List Event) → MadeEvents network setup events → IsRunnable setup events
unfolding run IsRunnable
runnable network setup events made =
    (made.before, sym (made.goes_on [] ∙ ap (λ (all : List Event). run (at_epoch_genesis setup) [] all) (append-nil events)))

-- the same of a list that is equal
pub is_run : (network : Network) (setup : Setup) (made events : List Event) → MadeEvents network setup made → events ≡ made → IsRunnable setup events
is_run network setup made events done is = subst (λ (all : List Event). IsRunnable setup all) (sym is) (runnable network setup made done)

-- one more of a simulation
pub went_on : (old new : Simulation) (network : Network) (event : Event) (entry : Entry)
    → Grows old.network network event entry → Enters old.network event entry → new.network ≡ network → new.events ≡ old.events ++ event ∷ [] → GoesOn old new
went_on old new network event entry grows enters here behind = record {
  went = λ setup went.
      let made : MadeEvents network setup (old.events ++ event ∷ []) = made_more old.network network setup old.events event entry grows enters went in
      let moved : MadeEvents new.network setup (old.events ++ event ∷ []) =
      subst (λ (at : Network). MadeEvents at setup (old.events ++ event ∷ [])) (sym here) made in
      subst (λ (all : List Event). MadeEvents new.network setup all) (sym behind) moved;
  few = omega (arith, ap length behind, length-append old.events (event ∷ []), one event);
}
  where
    one : (it : Event) → length (it ∷ []) ≡ 1
    one it = refl
