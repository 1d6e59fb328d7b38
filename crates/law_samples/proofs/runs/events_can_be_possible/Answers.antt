use Rattle.std.proofs.Common.{◌≡◌, List, ◌∷◌, Result, Ok, Err, refl}
use Rattle.simplex_transcript.specs.declared.entry.Entry.{Entry}
use Rattle.simplex_transcript.specs.declared.refusal.Refusal.{Refusal}
use Rattle.model_run.specs.Setting.{at_epoch_genesis}
use Rattle.model_run.specs.Run.{Run}
use Rattle.law_samples.specs.Lists.{alone, finalizes}
use Rattle.law_samples.specs.Shown.{Shown, calls_in}
use Rattle.law_samples.proofs.runs.events_can_be_possible.Goals as goal

-- what shows calls has entries
entries_of : (ran : Result (List Entry) Refusal) (first : List Shown) (others : List (List Shown)) → calls_in ran ≡ first ∷ others
    → (entries : List Entry) × (ran ≡ Ok entries)
entries_of (Ok entries) first others shown = (entries, refl)
entries_of (Err refusal) first others shown = cc

pub returns-clause-possible : goal.returns-clause-possible
returns-clause-possible c =
    let made = entries_of (Run alone finalizes) _ _ c.one_member_finalizes.ensures.calls in
    c.runs_are_possible.ensures (at_epoch_genesis alone) finalizes made.0 made.1

pub returns-clause-impossible : goal.returns-clause-impossible
returns-clause-impossible c = λ possible.
    let made = c.possible_events_run.ensures _ _ possible in
    let ran = made.1 in
    let refused = c.deliveries_come_out.ensures.stopped in
    cc
