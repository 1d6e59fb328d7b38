use Rattle.std.proofs.Common.{◌≡◌, ◌∷◌, Some, codes, arith}
use Rattle.json.specs.Token.{Token}
use Rattle.json.specs.Json.{read_key}
use Rattle.serde_json.specs.Data.{string, object}
use Rattle.serde_json.specs.View.{view}
use Rattle.simplex_form.specs.Stream.{Reads}
use Rattle.simplex_form.proofs.Reading.{reads_string}
use Rattle.simplex_form.proofs.Members.{rest_said, if_ok}
use Rattle.simplex_form.proofs.next_event.next_event.Goals as goal

pub returns-in_ok-kind : goal.returns-in_ok-kind
returns-in_ok-kind c =
    let ts = c.take_open_object.new.reader in
    let s = c.next_key.new.self in
    let r = c.take_text.new.reader in
    let kind = c.in_ok-kind.kind.now in
    let first : c.args.reader.now ≡ Token.begin_object ∷ ts = grind arith in
    let named : read_key ts ≡ Some (Some c.in-Some.name.now, s) = grind arith in
    let same : c.in-Some.name.now ≡ codes "do" = c.is_same.ensures c.if-is_same.true in
    let key : read_key ts ≡ Some (Some (codes "do"), s) = rw (← same) named in
    let is : s ≡ Token.string kind ∷ r = grind arith in
    let text : Reads 124 s (string kind) r = rw is (reads_string 124 kind r) in
    if_ok c.rest_of_kind.result
    (λ event w. (object w.0, rest_said (codes "do") c.args.reader.now ts s r c.rest_of_kind.new.reader (string kind) w.0 first key text w.1, w.2))
    c.rest_of_kind.ensures

pub returns-in_ok-member : goal.returns-in_ok-member
returns-in_ok-member c =
    let ts = c.take_open_object.new.reader in
    let s = c.next_key.new.self in
    let name = c.in-Some.name.now in
    let first : c.args.reader.now ≡ Token.begin_object ∷ ts = grind arith in
    let named : read_key ts ≡ Some (Some name, s) = grind arith in
    if_ok c.rest_of_any.result
    (λ event w. (object w.0, rest_said name c.args.reader.now ts s c.next_value.new.reader c.rest_of_any.new.reader (view c.in_ok-member.member) w.0 first named c.in_ok-member.ensures.said w.1, w.2))
    c.rest_of_any.ensures
