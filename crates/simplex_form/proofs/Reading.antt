-- Values, items and members, a turn at a time.
use Rattle.std.proofs.Common.{◌≡◌, ℕ, ◌-◌, ◌<◌, ◌≤◌, List, ◌∷◌, length, Bool, Some, None, option_map, option_and_then, refl, ap, ◌∙◌}
use Rattle.json.specs.Token.{Token}
use Rattle.json.specs.Json as json
use Rattle.json.specs.Json.{parse_map, after_end_array, read_key, value}
use Rattle.json.proofs.Grammar.{left, value_is, value-begin_array, value-begin_object, items_end, items_more, members_end, members_more, skip_value-shorter}
use Rattle.serde_json.specs.Data.{Num, Data, null, boolean, number, string, array, object, Items, no_items, item, Members, no_members, put}
use Rattle.serde_json.specs.Read.{number_of, of_items, of_members}
use Rattle.simplex_form.specs.Stream.{Reads, ReadsItems, ReadsMembers}

-- what is read of a text leaves less of it
pub reads_less : (depth : ℕ) (ts r : List Token) (d : Data) → Reads depth ts d r → length r < length ts
reads_less depth ts r d (j, e, f) = skip_value-shorter depth ts r (ap left e)

pub reads_array : (depth : ℕ) (ts r : List Token) (ds : Items) → 0 < depth → ReadsItems (depth - 1) (length ts) ts ds r → Reads depth (Token.begin_array ∷ ts) (array ds) r
reads_array depth ts r ds some (js, e, f) = (json.array js, value-begin_array depth ts some ∙ ap (parse_map json.array) e, ap (option_map array) f)

pub reads_object : (depth : ℕ) (ts r : List Token) (ms : Members) → 0 < depth → ReadsMembers (depth - 1) (length ts) ts no_members ms r
    → Reads depth (Token.begin_object ∷ ts) (object ms) r
reads_object depth ts r ms some (js, e, f) = (json.object js, value-begin_object depth ts some ∙ ap (parse_map json.object) e, ap (option_map object) f)

pub no_more_items : (depth n : ℕ) (ts r : List Token) → length ts ≤ n → after_end_array ts ≡ Some r → ReadsItems depth n ts no_items r
no_more_items depth n ts r enough e = (json.no_items, items_end (value depth) n ts r enough e, refl)

pub one_more_item : (depth n : ℕ) (ts r end : List Token) (d : Data) (ds : Items) → 0 < n → after_end_array ts ≡ None → Reads depth ts d r
    → ReadsItems depth (n - 1) r ds end → ReadsItems depth n ts (item d ds) end
one_more_item depth n ts r end d ds some going (j, e, f) (js, g, h) =
    (json.item j js, items_more (value depth) n ts r j some going e ∙ ap (parse_map (json.item j)) g, ap (option_and_then (λ x. option_map (item x) (of_items js))) f ∙ ap (option_map (item d)) h)

pub no_more_members : (depth n : ℕ) (ts r : List Token) (old : Members) → length ts ≤ n → read_key ts ≡ Some (None, r) → ReadsMembers depth n ts old old r
no_more_members depth n ts r old enough e = (json.no_members, members_end (value depth) n ts r enough e, refl)

pub one_more_member : (depth n : ℕ) (k : List ℕ) (ts s r end : List Token) (d : Data) (old ms : Members) → 0 < n → read_key ts ≡ Some (Some k, s) → Reads depth s d r
    → ReadsMembers depth (n - 1) r (put k d old) ms end → ReadsMembers depth n ts old ms end
one_more_member depth n k ts s r end d old ms some key (j, e, f) (js, g, h) =
    (json.member k j js, members_more (value depth) n k ts s r j some key e ∙ ap (parse_map (json.member k j)) g, ap (option_and_then (λ x. of_members js (put k x old))) f ∙ h)

-- ---- a value that is one token

pub reads_string : (depth : ℕ) (s : List ℕ) (r : List Token) → Reads depth (Token.string s ∷ r) (string s) r
reads_string depth s r = (json.string s, value_is depth (Token.string s ∷ r), refl)

pub reads_boolean : (depth : ℕ) (b : Bool) (r : List Token) → Reads depth (Token.boolean b ∷ r) (boolean b) r
reads_boolean depth b r = (json.boolean b, value_is depth (Token.boolean b ∷ r), refl)

pub reads_null : (depth : ℕ) (r : List Token) → Reads depth (Token.null ∷ r) null r
reads_null depth r = (json.null, value_is depth (Token.null ∷ r), refl)

pub reads_number : (depth : ℕ) (s : List ℕ) (n : Num) (r : List Token) → number_of s ≡ Some n → Reads depth (Token.number s ∷ r) (number n) r
reads_number depth s n r e = (json.number s, value_is depth (Token.number s ∷ r), ap (option_map number) e)
