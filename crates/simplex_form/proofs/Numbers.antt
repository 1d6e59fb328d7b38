-- The numbers that a numeral with no minus writes.
use Rattle.std.proofs.Common.{◌≡◌, ℕ, ◌^◌, ◌<◌, List, false, Some, slice_index, nat_lt, ◌==◌, refl, if◌then◌else◌, None, arith}
use Rattle.std.proofs.lemmas.Grind.{common_steps}
use Rattle.fast_float.specs.Text.{Parts, scan, digits_of, IsInteger}
use Rattle.serde_json.specs.Data.{unsigned}
use Rattle.serde_json.specs.Read.{number_of, number_from}
use Rattle.serde_json.specs.View.{number_view}
use Rattle.serde_json.specs.declared.number.Number.{Number}

no_minus : (text : List ℕ) → (slice_index text 0 == 45) ≡ false → number_of text ≡ number_from false (scan text)
unfolding number_of
no_minus text e = rw e refl

from_whole : (p : Parts) → IsInteger p → digits_of p < 2 ^ 64 → number_from false p ≡ Some (unsigned (digits_of p))
from_whole p whole low = grind (arith, common_steps, whole.0, whole.1, whole.2, low)

pub whole_number : (text : List ℕ) (n : ℕ) (number : Number) → (slice_index text 0 == 45) ≡ false → IsInteger (scan text) → digits_of (scan text) < 2 ^ 64 → n ≡ digits_of (scan text)
    → Some (number_view number) ≡ (if nat_lt n (2 ^ 64) then Some (unsigned n) else None) → number_of text ≡ Some (number_view number)
whole_number text n number positive whole low is made =
    grind (arith, common_steps, no_minus text positive, from_whole (scan text) whole low, is, made, low)
