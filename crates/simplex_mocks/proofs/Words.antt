-- Words, one after another.
use Rattle.std.proofs.Common.{◌≡◌, ◌∙◌, ap, refl, ℕ, ◌+◌, ◌++◌, arith, subst}
use Rattle.std.specs.Prelude.{replicate}
use Rattle.std.specs.Int.{w64, to_be_bytes}
use Rattle.rand_core.specs.Stream.{Stream, u64_call}
use Rattle.rand_core.specs.Steps.{stream_of, steps_u32}
use Rattle.rand_chacha.specs.ChaCha.{ChaCha, next_word}
use Rattle.model_faults.specs.Conflicter.{drawn_payload}
use Rattle.model_faults.specs.Words.{Words, Draws}
use Rattle.simplex_mocks.specs.Drawing.{words_left}

pub two_on : (words : Words) (from : ℕ) → words (from + 1 + 1) ≡ words (from + 2)
two_on words from = let e : from + 1 + 1 ≡ from + 2 = omega arith in ap words e

pub three_on : (stream : Stream) (words : Words) (from : ℕ) → Draws stream words (from + 1 + 1 + 1) → Draws stream words (from + 3)
three_on stream words from d = let e : from + 1 + 1 + 1 ≡ from + 3 = omega arith in subst (Draws stream words) e d

pub four_on : (stream : Stream) (words : Words) (from : ℕ) → Draws stream words (from + 1 + 1 + 1 + 1) → Draws stream words (from + 4)
four_on stream words from d = let e : from + 1 + 1 + 1 + 1 ≡ from + 4 = omega arith in subst (Draws stream words) e d

pub four_words : (words : Words) (from a b c d : ℕ) → a ≡ words from → b ≡ words (from + 1) → c ≡ words (from + 1 + 1) → d ≡ words (from + 1 + 1 + 1)
    → to_be_bytes w64 a ++ to_be_bytes w64 b ++ to_be_bytes w64 c ++ to_be_bytes w64 d ≡ drawn_payload words from
unfolding drawn_payload
four_words words from a b c d ea eb ec ed =
    let e2 : from + 1 + 1 ≡ from + 2 = omega arith in
    let e3 : from + 1 + 1 + 1 ≡ from + 3 = omega arith in
    let fc : c ≡ words (from + 2) = ec ∙ ap words e2 in
    let fd : d ≡ words (from + 3) = ed ∙ ap words e3 in
    rw (ea, eb, fc, fd) refl

-- what is left of a generator is what it draws
pub left_draws : (random : ChaCha) → Draws (stream_of (steps_u32 (next_word 4)) random) (words_left random) 0
unfolding Draws words_left
left_draws random place = let e : place ≡ 0 + place = omega arith in ap (λ p. (stream_of (steps_u32 (next_word 4)) random).u64_after (replicate p u64_call)) e
