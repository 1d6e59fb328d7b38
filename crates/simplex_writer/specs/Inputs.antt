-- The text of an input.
use Rattle.std.specs.Prelude.{ℕ, List, [], ◌∷◌, ◌++◌, codes}
use Rattle.simplex_transcript.specs.declared.event.Event.{Event}
use Rattle.simplex_transcript.specs.declared.setup.Setup.{Setup}
use Rattle.simplex_text.specs.Lines.{pieces}
use Rattle.simplex_writer.specs.Events.{event_text}
use Rattle.simplex_writer.specs.Pieces.{list_text}
use Rattle.simplex_writer.specs.Setups.{setup_text}

-- a setup and its events, one of them a line
abbrev pub input_text : Setup → List Event → List ℕ
input_text setup events =
    (pieces (codes "{\"setup\":" ∷ setup_text setup ∷ codes ",\n\"events\":" ∷ []) ++ list_text event_text (codes ",\n") events) ++ codes "}\n"
