-- The random words that a generator has left.
use Rattle.std.specs.Prelude.{◌≡◌, ℕ, ◌+◌, replicate}
use Rattle.rand_core.specs.Stream.{Stream, u64_call}
use Rattle.rand_core.specs.Steps.{stream_of, steps_u32}
use Rattle.rand_chacha.specs.ChaCha.{ChaCha, next_word}
use Rattle.model_faults.specs.Words.{Words, Draws}

-- what a generator answers to any calls
abbrev pub answers_of : ChaCha → Stream
answers_of random = stream_of (steps_u32 (next_word 4)) random

-- the words that it gives from now on
unfoldable pub words_left : ChaCha → Words
words_left random place = (answers_of random).u64_after (replicate place u64_call)

-- whatever words it gives, this is made of them, from the first on that is not drawn yet
abbrev pub IsDrawn : {A : Type 0} → Stream → (Words → ℕ → A) → A → Type 0
IsDrawn stream made value = (words : Words) (from : ℕ) → Draws stream words from → value ≡ made words from

-- whatever words it gives, so many of them are drawn now
abbrev pub Uses : Stream → Stream → ℕ → Type 0
Uses old new count = (words : Words) (from : ℕ) → Draws old words from → Draws new words (from + count)
