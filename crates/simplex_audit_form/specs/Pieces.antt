-- The JSON forms of what entries are made of, as they are read and as they are written.
use Rattle.std.specs.Prelude.{ℕ, List, map, Option, Some, None, if◌then◌else◌}
use Rattle.hex.specs.Hex.{encode_lower}
use Rattle.serde_json.specs.Data.{Data, number, unsigned, string, array, no_items, item}
use Rattle.serde_json.specs.Find.{at}
use Rattle.serde_json.specs.View.{items_of}
use Rattle.simplex_values.specs.declared.round.Round.{Round}
use Rattle.simplex_wire.specs.declared.certificate.Certificate.{Certificate}
use Rattle.simplex_wire.specs.Format.{whole}
use Rattle.simplex_wire.specs.Message as format
use Rattle.simplex_transcript.specs.declared.node.Node.{Node}
use Rattle.simplex_transcript.specs.declared.node.Ref.{Ref}
use Rattle.simplex_form.specs.Form.{◌>>=◌, has_items, number_of, made}
use Rattle.simplex_form.specs.Events.{hex_of}

-- ---- what is read

-- [epoch, view]
abbrev pub round_of : Data → Option Round
round_of d = if has_items 2 d then (do
  epoch ← at 0 d >>= number_of
  view ← at 1 d >>= number_of
  Some (record { epoch = epoch; view = view })) else None

-- HEX of a certificate
abbrev pub certificate_of : Data → Option Certificate
certificate_of d = hex_of d >>= (λ bytes. made (whole format.certificate bytes))

-- ---- what is written

abbrev pub number_data : ℕ → Data
number_data n = number (unsigned n)

-- HEX
abbrev pub hex_data : List ℕ → Data
hex_data bytes = string (encode_lower bytes)

-- [a, b]
abbrev pub pair_data : Data → Data → Data
pair_data a b = array (item a (item b no_items))

-- a list of things of one form
abbrev pub list_data : {A : Type 0} → (A → Data) → List A → Data
list_data written xs = array (items_of (map written xs))

abbrev pub node_data : Node → Data
node_data node = pair_data (number_data node.member) (number_data node.half)

abbrev pub ref_data : Ref → Data
ref_data ref = pair_data (number_data ref.event) (number_data ref.place)

abbrev pub round_data : Round → Data
round_data round = pair_data (number_data round.epoch) (number_data round.view)

abbrev pub certificate_data : Certificate → Data
certificate_data c = hex_data (format.certificate.spelling c)
