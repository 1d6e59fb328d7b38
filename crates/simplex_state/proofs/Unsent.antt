-- What has still to be sent is known.
use Rattle.std.proofs.Common.{◌≡◌, ℕ, true, List, arith}
use Rattle.std.proofs.lemmas.Grind.{common_steps}
use Rattle.std.specs.Option.{is_some}
use Rattle.model_rules.specs.Known.{Fact, notarization_of, nullification_of, finalization_of}
use Rattle.model_rules.specs.Calls.{unsent_notarization, unsent_nullification, unsent_finalization}

pub unsent_is_known_notarization : (known : List Fact) (view : ℕ) → is_some (unsent_notarization known view) ≡ true → is_some (notarization_of known view) ≡ true
unfolding unsent_notarization
unsent_is_known_notarization known view e = grind (arith, common_steps, e)

pub unsent_is_known_nullification : (known : List Fact) (view : ℕ) → is_some (unsent_nullification known view) ≡ true → is_some (nullification_of known view) ≡ true
unfolding unsent_nullification
unsent_is_known_nullification known view e = grind (arith, common_steps, e)

pub unsent_is_known_finalization : (known : List Fact) (view : ℕ) → is_some (unsent_finalization known view) ≡ true → is_some (finalization_of known view) ≡ true
unfolding unsent_finalization
unsent_is_known_finalization known view e = grind (arith, common_steps, e)
