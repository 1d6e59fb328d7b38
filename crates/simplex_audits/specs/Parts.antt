-- The setup and the events as they stand in a JSON value.
use Rattle.std.specs.Prelude.{ℕ, ◌≡◌, codes, Option, Some, Result, Ok, Err}
use Rattle.serde_json.specs.Data.{Data}
use Rattle.serde_json.specs.Find.{get}
use Rattle.serde_json.specs.View.{view}
use Rattle.simplex_form.specs.Input.{document_of}
use Rattle.simplex_audits.specs.declared.recording.Parts.{Parts}

-- these are they, or this is the place of what is not of the form
abbrev pub PartsIn : Option Data → Result Parts ℕ → Type 0
PartsIn json (Ok parts) =
    (value : Data) × (json ≡ Some value) × (get (codes "setup") value ≡ Some (view parts.setup)) × (get (codes "events") value ≡ Some (view parts.events))
PartsIn json (Err place) = document_of json ≡ Err place
