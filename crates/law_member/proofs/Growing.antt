-- More facts: the last final view and the current one are no less, and what was first is so still.
use Rattle.std.proofs.Common.{◌≡◌, ℕ, ◌≤◌, Bool, List, [], ◌∷◌, ◌++◌, Some, arith}
use Rattle.simplex_wire.specs.declared.certificate.Notarization.{Notarization}
use Rattle.simplex_wire.specs.declared.certificate.Nullification.{Nullification}
use Rattle.simplex_wire.specs.declared.certificate.Finalization.{Finalization}
use Rattle.model_rules.specs.Known.{Made, Fact, notarization_in, notarization_of, nullification_in, nullification_of, finalization_in, finalization_of, verdict_in, verdict_of}
use Rattle.model_rules.specs.Views.{last_finalized, current_of, finalized_view, opened_view}
use Rattle.model_rules.specs.Calls.{Call, facts_of, known_of}
use Rattle.law_member.proofs.Looking.{first_stays, greatest_grows}

pub final_grows : (more known : List Fact) → last_finalized known ≤ last_finalized (more ++ known)
unfolding last_finalized
final_grows more known = greatest_grows finalized_view more known

pub current_grows : (made : Made) (more known : List Fact) → current_of made known ≤ current_of made (more ++ known)
unfolding current_of
current_grows made more known = omega (arith, greatest_grows (opened_view made.term_length) more known)

pub final_lasts : (made : Made) (before later : List Call)
    → last_finalized (known_of made before) ≤ last_finalized (known_of made (later ++ before))
unfolding known_of
final_lasts made before [] = omega arith
final_lasts made before (call ∷ later) =
    omega (
      arith,
      final_lasts made before later,
      final_grows (facts_of made (known_of made (later ++ before)) call) (known_of made (later ++ before)),
    )

pub current_lasts : (made : Made) (before later : List Call)
    → current_of made (known_of made before) ≤ current_of made (known_of made (later ++ before))
unfolding known_of
current_lasts made before [] = omega arith
current_lasts made before (call ∷ later) =
    omega (
      arith,
      current_lasts made before later,
      current_grows made (facts_of made (known_of made (later ++ before)) call) (known_of made (later ++ before)),
    )

pub notarization_stays : (more known : List Fact) (view : ℕ) (n : Notarization) → notarization_of known view ≡ Some n → notarization_of (more ++ known) view ≡ Some n
unfolding notarization_of
notarization_stays more known view n e = first_stays (notarization_in view) more known n e

pub nullification_stays : (more known : List Fact) (view : ℕ) (n : Nullification) → nullification_of known view ≡ Some n → nullification_of (more ++ known) view ≡ Some n
unfolding nullification_of
nullification_stays more known view n e = first_stays (nullification_in view) more known n e

pub finalization_stays : (more known : List Fact) (view : ℕ) (f : Finalization) → finalization_of known view ≡ Some f → finalization_of (more ++ known) view ≡ Some f
unfolding finalization_of
finalization_stays more known view f e = first_stays (finalization_in view) more known f e

pub verdict_stays : (more known : List Fact) (view : ℕ) (good : Bool) → verdict_of known view ≡ Some good → verdict_of (more ++ known) view ≡ Some good
unfolding verdict_of
verdict_stays more known view good e = first_stays (verdict_in view) more known good e
