use Rattle.std.proofs.Common.{◌≡◌, rules}
use Rattle.std.specs.Str.{IsUtf8}
use Rattle.json.specs.Lex.{tokens}
use Rattle.simplex_form.specs.Stream.{IsUsual}
use Rattle.simplex_form.proofs.Usual.{usual_says}
use Rattle.simplex_form.proofs.stream.read_usual.Goals as goal

pub returns-in-Ok-read_document : goal.returns-in-Ok-read_document
returns-in-Ok-read_document c =
    let text : IsUtf8 c.args.bytes.now = search rules in
    let same : c.in_ok-reader.reader ≡ tokens c.args.bytes.now = search rules in
    let usual : IsUsual (tokens c.args.bytes.now) c.in-Ok-read_document.input = rw (← same) c.in-Ok-read_document.ensures in
    usual_says c.args.bytes.now c.in-Ok-read_document.input text usual
