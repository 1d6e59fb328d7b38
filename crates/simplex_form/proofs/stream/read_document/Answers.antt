use Rattle.std.proofs.Common.{◌≡◌, [], ◌∷◌, codes, ap, ◌∙◌}
use Rattle.json.specs.Token.{Token}
use Rattle.serde_json.specs.Data.{array}
use Rattle.simplex_form.specs.Stream.{Reads}
use Rattle.simplex_form.proofs.stream.read_document.Goals as goal

pub returns : goal.returns
returns c =
    let setup = c.in_ok-setup.ensures in
    let events = c.in_ok-events.ensures in
    let first = c.take_key.new.reader in
    let second = c.take_key-2.new.reader in
    let opened : c.args.reader.now ≡ Token.begin_object ∷ Token.key (codes "setup") ∷ first = c.in_ok-take_open_object.ensures ∙ ap (λ ts. Token.begin_object ∷ ts) c.in_ok-take_key.ensures in
    let here : Reads 126 first setup.0 (Token.key (codes "events") ∷ second) = rw c.in_ok-take_key-2.ensures at setup.1 in
    let there : Reads 126 second (array events.0) (Token.end_object ∷ []) = rw c.in_ok-take_end.ensures at events.1 in
    (setup.0, events.0, first, second, opened, here, there, setup.2, events.2)
