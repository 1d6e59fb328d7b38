-- How many members and items a value has.
use Rattle.std.proofs.Common.{◌≡◌, ℕ, nat_eq, List, length, Some, sym, ap, ◌∙◌}
use Rattle.serde_json.specs.Data.{Data, null, boolean, number, string, array, object}
use Rattle.serde_json.specs.Events.{items_len, members_len}
use Rattle.serde_json.specs.Find.{as_object, as_array}
use Rattle.serde_json.specs.View.{items_view, members_view}
use Rattle.serde_json.specs.declared.value.Value.{Value}
use Rattle.serde_json.proofs.Views.{Entry, items_len-items_view, members_len-members_view}
use Rattle.simplex_form.specs.Form.{has_members, has_items}

pub has_members_of : (d : Data) (es : List Entry) (n : ℕ) → Some (members_view es) ≡ as_object d → nat_eq (length es) n ≡ has_members n d
has_members_of null es n e = cc
has_members_of (boolean b) es n e = cc
has_members_of (number x) es n e = cc
has_members_of (string s) es n e = cc
has_members_of (array ds) es n e = cc
has_members_of (object ms) es n e = let same : members_view es ≡ ms = cc in ap (λ k. nat_eq k n) (sym (members_len-members_view es) ∙ ap members_len same)

pub has_items_of : (d : Data) (vs : List Value) (n : ℕ) → Some (items_view vs) ≡ as_array d → nat_eq (length vs) n ≡ has_items n d
has_items_of null vs n e = cc
has_items_of (boolean b) vs n e = cc
has_items_of (number x) vs n e = cc
has_items_of (string s) vs n e = cc
has_items_of (object ms) vs n e = cc
has_items_of (array ds) vs n e = let same : items_view vs ≡ ds = cc in ap (λ k. nat_eq k n) (sym (items_len-items_view vs) ∙ ap items_len same)
