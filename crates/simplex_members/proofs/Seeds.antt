-- A generator made from a seed gives the seed's words.
use Rattle.std.proofs.Common.{◌≡◌, ◌∙◌, ap, ℕ, ◌+◌, List, arith}
use mathlib.Core.Path.{fun_ext}
use Rattle.rand_chacha.specs.ChaCha.{of_seed}
use Rattle.model_faults.specs.Words.{Draws, words_of}
use Rattle.model_faults.proofs.Drawing.{seed_draws}
use Rattle.simplex_mocks.specs.Drawing.{words_left}

word_left : (seed : List ℕ) (place : ℕ) → words_left (of_seed seed) place ≡ words_of seed place
unfolding words_left Draws
word_left seed place = let e : 0 + place ≡ place = omega arith in seed_draws seed place ∙ ap (words_of seed) e

pub seeded_words : (seed : List ℕ) → words_left (of_seed seed) ≡ words_of seed
seeded_words seed = fun_ext (word_left seed)
