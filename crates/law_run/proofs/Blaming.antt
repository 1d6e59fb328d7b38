-- What a transcript reports as evidence names no honest member, since its entries do not.
use Rattle.std.proofs.Common.{◌≡◌, List, [], ◌∷◌, map, reverse, Result, Ok, Err, refl}
use Rattle.simplex_transcript.specs.declared.entry.Entry.{Entry}
use Rattle.simplex_transcript.specs.declared.event.Event.{Event}
use Rattle.simplex_transcript.specs.declared.field.Field.TheVariants as fields
use Rattle.simplex_transcript.specs.declared.refusal.Refusal.{Refusal}
use Rattle.simplex_transcript.specs.declared.refusal.RunError.TheVariants as refusals
use Rattle.simplex_transcript.specs.declared.setup.Setup.{Setup}
use Rattle.model_run.specs.Life.{Noted}
use Rattle.model_run.specs.Run.{refused, are_few, run, transcript_of, RunFrom}
use Rattle.model_run.specs.Setting.{Setting}
use Rattle.model_run.specs.Setups.{first_bad}
use Rattle.law_run.specs.Blame.{AreBlameless, BlamesNoHonest}
use Rattle.law_run.specs.Safe.{IsSafe, RunsSafely}
use Rattle.law_run.specs.Sayings.{Each}
use Rattle.law_run.proofs.Ran.{not_refused, unbad}
use Rattle.law_run.proofs.Transcripts.{in_order}

-- the entries, one by one
each_blameless : (setup : Setup) (noted : List Noted) → AreBlameless setup noted → Each (λ (n : Noted). BlamesNoHonest setup n.entry) noted
unfolding AreBlameless
each_blameless setup [] h = tt
each_blameless setup (n ∷ noted) h = (h.0, each_blameless setup noted h.1)

pub transcript_blames_none : (setting : Setting) (events : List Event) (entries : List Entry) → RunFrom setting events ≡ Ok entries → RunsSafely setting events
    → Each (BlamesNoHonest setting.setup) entries
unfolding RunFrom
transcript_blames_none setting events entries e safely =
    let few = not_refused (are_few setting.setup events) (refused (refusals.BadSetup fields.Events) 0) _ entries e in
    let parts = unbad (first_bad setting.setup) (transcript_of (run setting [] events)) entries few.1 in
    at (run setting [] events) refl parts.1
  where
    of : (noted : List Noted) → IsSafe setting noted → reverse (map (λ (n : Noted). n.entry) noted) ≡ entries → Each (BlamesNoHonest setting.setup) entries
    of noted safe same = in_order (BlamesNoHonest setting.setup) noted entries same (each_blameless setting.setup noted safe.blameless)

    at : (r : Result (List Noted) Refusal) → run setting [] events ≡ r → transcript_of r ≡ Ok entries → Each (BlamesNoHonest setting.setup) entries
    at (Ok noted) ran k = of noted (safely noted ran) cc
    at (Err refusal) ran k = cc
