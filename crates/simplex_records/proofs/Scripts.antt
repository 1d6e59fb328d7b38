-- Scripts of twins: the place of a view's round, and the bits of a mask.
use Rattle.std.proofs.Common.{◌≡◌, ℕ, zero, suc, ◌+◌, ◌-◌, ◌/◌, ◌^◌, ◌<◌, ◌≤◌, arith, ap, ◌∙◌}
use Rattle.std.proofs.Math.Pow.{pow_mono}
use Rattle.std.proofs.Math.Nat.{div-eq_of_lt, div-zero}
use Rattle.simplex_values.specs.Terms.{term_index}
use Rattle.simplex_values.proofs.TermCounts.{rounded_up, rounded_up_zero}

-- a mask has no bit past its own
pub no_bits_past : (mask member : ℕ) → mask < 2 ^ 64 → 64 ≤ member → mask / 2 ^ member ≡ 0
no_bits_past mask member small far =
    div-eq_of_lt (let above : 2 ^ 64 ≤ 2 ^ member = pow_mono far in omega arith)

-- terms of no view are all at the first place
pub no_term : (view : ℕ) → term_index 0 view - 1 ≡ 0
unfolding term_index
no_term view = ap (λ n. n - 1) (div-zero (view + (0 - 1)))

-- and others are counted from the first view
pub term_place : (term view : ℕ) → 0 < term → (view - 1) / term ≡ term_index term view - 1
unfolding term_index
term_place term zero some = let none : (0 + (term - 1)) / term ≡ 0 = rounded_up_zero term some in grind arith
term_place term (suc view) some =
    let up : (view + 1 + (term - 1)) / term ≡ view / term + 1 = rounded_up view term some in
    let more : suc view ≡ view + 1 = omega arith in
    let same : (suc view + (term - 1)) / term ≡ view / term + 1 = ap (λ n. (n + (term - 1)) / term) more ∙ up in
    let one : suc view - 1 ≡ view = omega arith in
    let place : view / term ≡ (suc view + (term - 1)) / term - 1 = omega (arith, same) in
    ap (λ n. n / term) one ∙ place
