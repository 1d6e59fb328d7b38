use Rattle.std.proofs.Common.{◌≡◌, ℕ, ◌-◌, ◌<◌, List, [], ◌∷◌, ◌++◌, length, Some, None, string_bytes, sym, ap, ◌∙◌, append_assoc, append-nil, arith, rules}
use Rattle.json.specs.Token.{Token}
use Rattle.json.specs.Json.{after_end_array, read_key}
use Rattle.json.specs.Reads.{token_of}
use Rattle.json.proofs.Grammar.{read_key-shorter}
use Rattle.serde_json.specs.Data.{Data, null, boolean, number, string, put}
use Rattle.serde_json.specs.View.{view, number_view, items_view, members_view}
use Rattle.serde_json.specs.declared.value.Value.{String, Number, Bool, Null, the_lemmas}
use Rattle.serde_json.proofs.Views.{view-Array, view-Object, members_view-insert_entry}
use Rattle.simplex_form.specs.Stream.{Reads}
use Rattle.simplex_form.proofs.Reading.{reads_string, reads_boolean, reads_null, reads_number, reads_array, reads_object, no_more_items, one_more_item, no_more_members, one_more_member}
use Rattle.simplex_form.proofs.values.+next_value.Goals as goal

-- the text and the value, as they are
same : (depth : ℕ) (ts us r : List Token) (d e : Data) → ts ≡ us → e ≡ d → Reads depth us d r → Reads depth ts e r
same depth ts us r d e text value reads = rw (text, value) reads

pub next_value-returns-in_ok-from_str-in-String-clause-said : goal.next_value-returns-in_ok-from_str-in-String-clause-said
next_value-returns-in_ok-from_str-in-String-clause-said t c =
    let first : c.args.reader.now ≡ token_of c.in_ok-token.token ∷ c.next.new.self = grind arith in
    let is : c.args.reader.now ≡ Token.string c.in-String.text.now ∷ c.next.new.self = grind (arith, first) in
    let seen : view (String c.in_ok-from_str-in-String.field-0) ≡ string c.in-String.text.now = search (rules, the_lemmas) in
    same c.args.depth _ _ _ _ _ is seen (reads_string c.args.depth c.in-String.text.now c.next.new.self)

pub next_value-returns-in_ok-ok_or-in-Number-clause-said : goal.next_value-returns-in_ok-ok_or-in-Number-clause-said
next_value-returns-in_ok-ok_or-in-Number-clause-said t c =
    let n = c.in_ok-ok_or-in-Number.field-0 in
    let first : c.args.reader.now ≡ token_of c.in_ok-token.token ∷ c.next.new.self = grind arith in
    let is : c.args.reader.now ≡ Token.number c.in-Number.text.now ∷ c.next.new.self = grind (arith, first) in
    let seen : view (Number n) ≡ number (number_view n) = search (rules, the_lemmas) in
    same c.args.depth _ _ _ _ _ is seen (reads_number c.args.depth c.in-Number.text.now (number_view n) c.next.new.self (search rules))

pub next_value-returns-in-Bool-clause-said : goal.next_value-returns-in-Bool-clause-said
next_value-returns-in-Bool-clause-said t c =
    let first : c.args.reader.now ≡ token_of c.in_ok-token.token ∷ c.next.new.self = grind arith in
    let is : c.args.reader.now ≡ Token.boolean c.in-Bool.b ∷ c.next.new.self = grind (arith, first) in
    let seen : view (Bool c.in-Bool.b) ≡ boolean c.in-Bool.b = search (rules, the_lemmas) in
    same c.args.depth _ _ _ _ _ is seen (reads_boolean c.args.depth c.in-Bool.b c.next.new.self)

pub next_value-returns-in-Null-clause-said : goal.next_value-returns-in-Null-clause-said
next_value-returns-in-Null-clause-said t c =
    let first : c.args.reader.now ≡ token_of c.in_ok-token.token ∷ c.next.new.self = grind arith in
    let is : c.args.reader.now ≡ Token.null ∷ c.next.new.self = grind (arith, first) in
    let seen : view Null ≡ null = search (rules, the_lemmas) in
    same c.args.depth _ _ _ _ _ is seen (reads_null c.args.depth c.next.new.self)

pub next_value-returns-in_ok-next_items-in-BeginArray-clause-said : goal.next_value-returns-in_ok-next_items-in-BeginArray-clause-said
next_value-returns-in_ok-next_items-in-BeginArray-clause-said t c =
    let found = c.in_ok-next_items-in-BeginArray in
    let first : c.args.reader.now ≡ token_of c.in_ok-token.token ∷ c.next.new.self = grind arith in
    let is : c.args.reader.now ≡ Token.begin_array ∷ c.next.new.self = grind (arith, first) in
    same c.args.depth _ _ _ _ _ is (view-Array found.field-0) (reads_array c.args.depth c.next.new.self c.next_items.new.reader (items_view found.field-0.items) (omega arith) found.ensures.said)

pub next_value-returns-in_ok-rest_of_members-in-BeginObject-clause-said : goal.next_value-returns-in_ok-rest_of_members-in-BeginObject-clause-said
next_value-returns-in_ok-rest_of_members-in-BeginObject-clause-said t c =
    let found = c.in_ok-rest_of_members-in-BeginObject in
    let first : c.args.reader.now ≡ token_of c.in_ok-token.token ∷ c.next.new.self = grind arith in
    let is : c.args.reader.now ≡ Token.begin_object ∷ c.next.new.self = grind (arith, first) in
    let none : c.new-found.result.entries ≡ [] = search rules in
    let read = found.ensures.said (length c.next.new.self) (omega arith) in
    same c.args.depth _ _ _ _ _ is (view-Object found.field-0) (reads_object c.args.depth c.next.new.self c.rest_of_members.new.reader (members_view found.field-0.entries) (omega arith) (rw (ap members_view none) at read))

pub next_items-items-preserved : goal.next_items-items-preserved
next_items-items-preserved t c =
    let l = c.items in
    let n = l.invariant.0 in
    let going : (after_end_array l.reader ≡ None) × (c.take_end_array.new.self ≡ l.reader) = grind arith in
    let v = c.in_ok-item.item in
    let r = c.next_value.new.reader in
    let less : length r < length l.reader = rw (← going.1) c.in_ok-item.ensures.shorter in
    let reads : Reads c.args.depth l.reader (view v) r = rw (← going.1) c.in_ok-item.ensures.said in (
      n - 1,
      omega (arith, less, l.invariant.1),
      omega (arith, less, l.invariant.2),
      λ vs end more.
          let all = l.invariant.3 (v ∷ vs) end (one_more_item c.args.depth n l.reader r end (view v) (items_view vs) (omega (arith, less, l.invariant.1)) going.0 reads more) in
          let pushed : l.found.items ++ v ∷ vs ≡ c.push.new.self.items ++ vs = rw c.in_ok-push.ensures.items (sym (append_assoc l.found.items (v ∷ []) vs)) in
          rw (← pushed) all,
    )

pub next_items-returns-clause-said : goal.next_items-returns-clause-said
next_items-returns-clause-said t c =
    let l = c.items in
    let over : after_end_array l.reader ≡ Some c.take_end_array.new.self = grind arith in
    let all = l.invariant.3 [] c.take_end_array.new.self (no_more_items c.args.depth l.invariant.0 l.reader c.take_end_array.new.self l.invariant.1 over) in
    rw append-nil at all

pub rest_of_members-members-preserved : goal.rest_of_members-members-preserved
rest_of_members-members-preserved t c =
    let l = c.members in
    let k = c.in-Some.name.now in
    let s = c.next_key.new.self in
    let named : read_key l.reader ≡ Some (Some k, s) = grind arith in
    let v = c.in_ok-member.member in
    let r = c.next_value.new.reader in
    let less = read_key-shorter l.reader (Some k) s named in
    let lesser : length r < length s = c.in_ok-member.ensures.shorter in
    let copied : string_bytes c.in_ok-key.key ≡ k = search rules in
    let inserted : members_view c.insert.new.self.entries ≡ put k (view v) (members_view l.found.entries) =
    ap members_view c.in_ok-insert.ensures.entries ∙ members_view-insert_entry l.found.entries c.in_ok-key.key v ∙ ap (λ name. put name (view v) (members_view l.found.entries)) copied in (
      omega (arith, less, lesser, l.invariant.0),
      λ most enough.
          let now = l.invariant.1 most enough in (
            now.0 - 1,
            omega (arith, less, lesser, now.1),
            λ ms end more. now.2 ms end (one_more_member c.args.depth now.0 k l.reader s r end (view v) (members_view l.found.entries) ms (omega (arith, less, now.1)) named c.in_ok-member.ensures.said (rw inserted at more)),
          ),
    )

pub rest_of_members-returns-clause-said : goal.rest_of_members-returns-clause-said
rest_of_members-returns-clause-said t c =
    let l = c.members in
    let over : read_key l.reader ≡ Some (None, c.next_key.new.self) = grind arith in
    λ most enough.
    let now = l.invariant.1 most enough in
    now.2 (members_view l.found.entries) c.next_key.new.self (no_more_members c.args.depth now.0 l.reader c.next_key.new.self (members_view l.found.entries) now.1 over)
