use Rattle.std.proofs.Common.{◌≡◌, ◌∷◌, Some, arith, rules}
use Rattle.json.specs.Token.{Token}
use Rattle.serde_json.specs.Data.{string}
use Rattle.simplex_names.specs.Names.{source_of}
use Rattle.simplex_form.proofs.Reading.{reads_string}
use Rattle.simplex_form.specs.Stream.{Reads}
use Rattle.simplex_form.proofs.next_event.next_source.Goals as goal

pub returns : goal.returns
returns c =
    let name = c.in_ok-name.name.now in
    let is : c.args.reader.now ≡ Token.string name ∷ c.take_text.new.reader = grind arith in
    let says : source_of name ≡ Some c.in_ok-source.source = search rules in
    let reads : Reads 124 c.args.reader.now (string name) c.take_text.new.reader = rw is (reads_string 124 name c.take_text.new.reader) in
    (string name, reads, says)
