-- Which words ask for what.
use Rattle.std.proofs.Common.{◌≡◌, ◌<◌, ◌^◌, ◌≤◌, ℕ, Bool, false, List, [], ◌∷◌, String, Global, string_bytes, decimal, inl, inr, sym, ◌∙◌, arith}
use Rattle.std.proofs.lemmas.Fmt.{decimal_injective, parse-decimal}
use Rattle.std.proofs.lemmas.Slice.Eq.{bytes_eq-Decides}
use Rattle.std.proofs.lemmas.Bool.{false≢true}
use Rattle.std.specs.Str.{bytes_eq}
use Rattle.std.specs.Prelude.{Result, Ok, Err}
use Rattle.std.specs.Str.Parse.{ParsesUnsigned}
use Rattle.simplex_program.specs.declared.command.Command.TheVariants as commands
use Rattle.simplex_program.specs.declared.command.TheConstants.{MOST_STEPS, MOST_WORKERS}
use Rattle.simplex_program.specs.Words.{Says, AreTaken, AsksForRun}

-- so many events are none that are asked for
pub too_many : (word number steps : String Global) (count : ℕ) → string_bytes steps ≡ decimal count → count < 2 ^ 64 → MOST_STEPS < count
    → AreTaken (word ∷ number ∷ steps ∷ []) → ⊥
too_many word number steps count is small many (commands.Run, says) = absurd (cc)
too_many word number steps count is small many (commands.Par n, says) = absurd (cc)
too_many word number steps count is small many (commands.Gen n s, says) =
    let printed : decimal count ≡ decimal s = sym is ∙ cc in
    absurd (omega (arith, many, says.2, decimal_injective count s small (omega (arith, says.2)) printed))

-- nor are so many workers, or none
pub other_workers : (word workers : String Global) (count : ℕ) → string_bytes workers ≡ decimal count → count < 2 ^ 64 → (1 ≤ count → count ≤ MOST_WORKERS → ⊥)
    → AreTaken (word ∷ workers ∷ []) → ⊥
other_workers word workers count is small other (commands.Run, says) = absurd (cc)
other_workers word workers count is small other (commands.Par n, says) =
    let printed : decimal count ≡ decimal n = sym is ∙ cc in
    let same : count ≡ n = decimal_injective count n small (omega (arith, says.2)) printed in
    other (omega (arith, same, says.1)) (omega (arith, same, says.2))
other_workers word workers count is small other (commands.Gen n s, says) = absurd (cc)

-- a text that is no number is printed for none
pub unparsed : {E : Type 0} (text : List ℕ) (result : Result ℕ E) (error : E) → ParsesUnsigned 64 10 text result → result ≡ Err error
    → (number : ℕ) → number < 2 ^ 64 → text ≡ decimal number → ⊥
unparsed text result error parses is number small printed =
    let read : result ≡ Ok number = parse-decimal 64 number text result small small printed parses in
    cc

-- nor is one that is not as its number is printed
pub unprinted : {E : Type 0} (text : List ℕ) (result : Result ℕ E) (read : ℕ) → ParsesUnsigned 64 10 text result → result ≡ Ok read → (text ≡ decimal read → ⊥)
    → (number : ℕ) → number < 2 ^ 64 → text ≡ decimal number → ⊥
unprinted text result read parses is other number small printed =
    let same : result ≡ Ok number = parse-decimal 64 number text result small small printed parses in
    other (cc)

pub other_text : (a b : List ℕ) (same : Bool) → same ≡ bytes_eq a b → same ≡ false → b ≡ a → ⊥
other_text a b same is other equal = false≢true (sym other ∙ is ∙ (bytes_eq-Decides a b).1 (sym equal))

-- ---- words ask for one thing

one_or_three : (a b c d : List ℕ) → a ∷ [] ≡ b ∷ c ∷ d ∷ [] → ⊥
one_or_three a b c d is = cc

two_or_three : (a b c d e : List ℕ) → a ∷ b ∷ [] ≡ c ∷ d ∷ e ∷ [] → ⊥
two_or_three a b c d e is = cc

-- words that ask for the run of what the source says ask for no number's
pub not_both : (words : List (String Global)) (number steps : ℕ) → AsksForRun words → Says words (commands.Gen number steps) → ⊥
not_both words number steps (inl run) gen = one_or_three _ _ _ _ (sym run ∙ gen.0)
not_both words number steps (inr (workers, par)) gen = two_or_three _ _ _ _ _ (sym par.0 ∙ gen.0)

-- and for something
pub asked_are_taken : (words : List (String Global)) → AsksForRun words → AreTaken words
asked_are_taken words (inl run) = (commands.Run, run)
asked_are_taken words (inr (workers, par)) = (commands.Par workers, par)

three_parts : (a b c d e f : List ℕ) → a ∷ b ∷ c ∷ [] ≡ d ∷ e ∷ f ∷ [] → (b ≡ e) × (c ≡ f)
three_parts a b c d e f is = (cc, cc)

-- words ask for the events of one number, and for one count of them
pub one_number : (words : List (String Global)) (number steps other count : ℕ) → Says words (commands.Gen number steps) → Says words (commands.Gen other count)
    → (number ≡ other) × (steps ≡ count)
one_number words number steps other count gen again =
    let parts = three_parts _ _ _ _ _ _ (sym gen.0 ∙ again.0) in (
      decimal_injective number other gen.1 again.1 parts.0,
      decimal_injective steps count (omega (arith, gen.2)) (omega (arith, again.2)) parts.1,
    )
