-- A generator made from a seed draws the seed's words.
use Rattle.std.proofs.Common.{◌≡◌, ◌∙◌, sym, ap, refl, ℕ, zero, suc, ◌+◌, ◌*◌, ◌%◌, ◌^◌, List, replicate, arith}
use Rattle.rand_core.specs.Stream.{Stream, u64_call, next_u64}
use Rattle.rand_core.specs.Steps.{stream_of, steps_u32, state_after, u64_via_u32}
use Rattle.rand_chacha.specs.ChaCha.{ChaCha, next_word, of_seed, key_of, word_at}
use Rattle.model_faults.specs.Words.{Words, Draws, words_of}

-- the generator of a seed at a place
abbrev pub at_place : List ℕ → ℕ → ChaCha
at_place seed place = record { key = key_of seed; stream = 0; word_pos = place % 2 ^ 68 }

pub at_after : (seed : List ℕ) (count from : ℕ) → state_after (steps_u32 (next_word 4)) (replicate count u64_call) (at_place seed from) ≡ at_place seed (from + 2 * count)
at_after seed zero from = ap (at_place seed) (omega arith)
at_after seed (suc count) from =
    let e : ((from % 2 ^ 68 + 1) % 2 ^ 68 + 1) % 2 ^ 68 ≡ (from + 2) % 2 ^ 68 = omega arith in
    let f : from + 2 + 2 * count ≡ from + 2 * suc count = omega arith in
    ap (λ p. state_after (steps_u32 (next_word 4)) (replicate count u64_call) (let g : ChaCha = record { key = key_of seed; stream = 0; word_pos = p } in g)) e
    ∙ at_after seed count (from + 2) ∙ ap (at_place seed) f

pub seed_draws : (seed : List ℕ) → Draws (stream_of (steps_u32 (next_word 4)) (of_seed seed)) (words_of seed) 0
unfolding Draws words_of stream_of
seed_draws seed place =
    let e : of_seed seed ≡ at_place seed 0 = refl in
    let f : ((2 * place) % 2 ^ 68 + 1) % 2 ^ 68 ≡ (2 * place + 1) % 2 ^ 68 = omega arith in
    let z : 0 + 2 * place ≡ 2 * place = omega arith in
    let y : 0 + place ≡ place = omega arith in
    ap (λ g. (u64_via_u32 (next_word 4) (state_after (steps_u32 (next_word 4)) (replicate place u64_call) g)).0) e
    ∙ ap (λ g. (u64_via_u32 (next_word 4) g).0) (at_after seed place 0)
    ∙ ap (λ p. (u64_via_u32 (next_word 4) (at_place seed p)).0) z
    ∙ ap (λ p. word_at 4 (key_of seed) 0 ((2 * place) % 2 ^ 68) + word_at 4 (key_of seed) 0 p * 2 ^ 32) f
    ∙ ap (words_of seed) (sym y)

-- one word is drawn
pub drawn_word : (stream : Stream) (words : Words) (from : ℕ) → Draws stream words from → (next_u64 stream).0 ≡ words from
unfolding Draws next_u64
drawn_word stream words from draws = let e : from + 0 ≡ from = omega arith in draws 0 ∙ ap words e

pub drawn_later : (stream : Stream) (words : Words) (from : ℕ) → Draws stream words from → Draws (next_u64 stream).1 words (from + 1)
unfolding Draws next_u64
drawn_later stream words from draws place = let e : from + suc place ≡ from + 1 + place = omega arith in draws (suc place) ∙ ap words e
