-- A text of the usual spelling says its setup and its events.
use Rattle.std.proofs.Common.{◌≡◌, ℕ, ◌-◌, List, [], ◌∷◌, length, Some, Ok, codes, option_and_then, refl, sym, ap, ◌∙◌, arith}
use Rattle.std.specs.Str.{IsUtf8}
use Rattle.json.specs.Token.{Token}
use Rattle.json.specs.Lex.{tokens}
use Rattle.json.specs.Json.{if_last}
use Rattle.serde_json.specs.Data.{Data, Items, no_members, array, object, put}
use Rattle.serde_json.specs.Read.{of_json, read}
use Rattle.simplex_form.specs.declared.input.Input.{Input}
use Rattle.simplex_form.specs.Form.{list_from}
use Rattle.simplex_form.specs.Setup.{setup_of}
use Rattle.simplex_form.specs.Events.{event_of}
use Rattle.simplex_form.specs.Input.{input_of, document_of, form_of, both_of, with_events}
use Rattle.simplex_form.specs.Stream.{Reads, ReadsMembers, IsUsual}
use Rattle.simplex_form.proofs.Reading.{reads_less, reads_object, no_more_members, one_more_member}
use Rattle.simplex_form.proofs.Texts.{json_of_some}

-- an object of two members
two_members : (first second : List Token) (j k : List ℕ) (d e : Data)
    → Reads 126 first d (Token.key k ∷ second) → Reads 126 second e (Token.end_object ∷ [])
    → Reads 127 (Token.begin_object ∷ Token.key j ∷ first) (object (put k e (put j d no_members))) []
two_members first second j k d e here there =
    let ts = Token.key j ∷ first in
    let rest = Token.key k ∷ second in
    let end = Token.end_object ∷ [] in
    let ms = put k e (put j d no_members) in
    let one = reads_less 126 first rest d here in
    let two = reads_less 126 second end e there in
    let over : ReadsMembers 126 (length ts - 1 - 1) end ms ms [] = no_more_members 126 (length ts - 1 - 1) end [] ms (omega (arith, one, two)) refl in
    let last = one_more_member 126 (length ts - 1) k rest second end [] e (put j d no_members) ms (omega (arith, one)) refl there over in
    reads_object 127 ts [] ms (omega arith) (one_more_member 126 (length ts) j ts first rest [] d no_members ms (omega arith) refl here last)

-- a text of which nothing is left is the value
whole : (text : List ℕ) (d : Data) → Reads 127 (tokens text) d [] → read text ≡ Some d
whole text d (j, e, f) = ap (λ o. option_and_then of_json (option_and_then (λ p. if_last p.0 p.1) o)) e ∙ f

-- the setup goes behind the events, as an object has its members in order of their names
form : (d : Data) (ds : Items) (input : Input) → setup_of d ≡ Some input.setup → list_from event_of 2 ds ≡ Ok input.events
    → form_of (object (put (codes "events") (array ds) (put (codes "setup") d no_members))) ≡ Ok input
form d ds input setup events = ap (λ o. both_of o (Some ds)) setup ∙ ap (with_events input.setup) events

pub usual_says : (bytes : List ℕ) (input : Input) → IsUtf8 bytes → IsUsual (tokens bytes) input → input_of bytes ≡ Ok input
usual_says bytes input text (d, ds, first, second, all, here, there, setup, events) =
    let ms = put (codes "events") (array ds) (put (codes "setup") d no_members) in
    let is = whole bytes (object ms) (rw all (two_members first second (codes "setup") (codes "events") d (array ds) here there)) in
    ap document_of (sym (json_of_some bytes (object ms) text is)) ∙ form d ds input setup events
