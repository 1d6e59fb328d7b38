-- The JSON form of epochs, and the places of what is not of it.
use Rattle.std.specs.Prelude.{ℕ, ◌^◌, ◌&&◌, nat_le, List, [], ◌∷◌, codes, Option, Some, None, Result, Ok, Err, if◌then◌else◌}
use Rattle.serde_json.specs.Data.{Data, Items}
use Rattle.serde_json.specs.Find.{get, as_array}
use Rattle.simplex_form.specs.declared.input.Input as read
use Rattle.simplex_form.specs.Form.{◌>>=◌, has_members, list_from, made, number_at}
use Rattle.simplex_form.specs.Input.{form_of, json_of}
use Rattle.simplex_epochs.specs.declared.form.ChainInput.{ChainInput}

-- a height from 1 to 2 ^ 20
abbrev pub as_height : ℕ → Option ℕ
as_height n = if nat_le 1 n && nat_le n (2 ^ 20) then Some n else None

abbrev pub height_of : Data → Option ℕ
height_of d = number_at (codes "height") d >>= as_height

-- the height with its epochs, of which there is one at least, or the place of the first that is not of the form
abbrev pub with_epochs : ℕ → Result (List read.Input) ℕ → Result ChainInput ℕ
with_epochs height (Ok []) = Err 1
with_epochs height (Ok (input ∷ later)) = Ok (record { height = height; epochs = input ∷ later })
with_epochs height (Err place) = Err place

-- place 1 stands for the top object and its height, and the first epoch has place 2
abbrev pub both_of : Option ℕ → Option Items → Result ChainInput ℕ
both_of None items = Err 1
both_of (Some height) None = Err 1
both_of (Some height) (Some items) = with_epochs height (list_from (λ d. made (form_of d)) 2 items)

-- {"height": NUMBER, "epochs": [{"setup": SETUP, "events": [..]}, ..]}
abbrev pub chain_form_of : Data → Result ChainInput ℕ
chain_form_of d = if has_members 2 d then both_of (height_of d) (get (codes "epochs") d >>= as_array) else Err 1

-- place 0 stands for a text that is no JSON
abbrev pub chain_document_of : Option Data → Result ChainInput ℕ
chain_document_of None = Err 0
chain_document_of (Some d) = chain_form_of d

-- what the bytes say, or the place of the first part that is not of the form
abbrev pub chain_input_of : List ℕ → Result ChainInput ℕ
chain_input_of bytes = chain_document_of (json_of bytes)
