-- The JSON value of some bytes, which are read as text.
use Rattle.std.proofs.Common.{◌≡◌, ℕ, List, Some, None, Bool, true, false, if◌then◌else◌, refl, sym}
use Rattle.std.specs.Str.{IsUtf8, is_utf8}
use Rattle.std.proofs.lemmas.Str.{is_utf8-from_IsUtf8, IsUtf8-from_is_utf8}
use Rattle.serde_json.specs.Data.{Data}
use Rattle.serde_json.specs.Read.{read}
use Rattle.simplex_form.specs.Input.{json_of}

pub json_of_some : (bytes : List ℕ) (d : Data) → IsUtf8 bytes → read bytes ≡ Some d → Some d ≡ json_of bytes
json_of_some bytes d text is = rw (is_utf8-from_IsUtf8 bytes text) (sym is)

none_if : (bytes : List ℕ) (b : Bool) → is_utf8 bytes ≡ b → (IsUtf8 bytes → read bytes ≡ None) → None ≡ (if b then read bytes else None)
none_if bytes true e none = sym (none (IsUtf8-from_is_utf8 bytes e))
none_if bytes false e none = refl

pub json_of_none : (bytes : List ℕ) → (IsUtf8 bytes → read bytes ≡ None) → None ≡ json_of bytes
json_of_none bytes none = none_if bytes (is_utf8 bytes) refl none
