-- The laws of a scheme by keys, over plain values.
use Rattle.std.proofs.Common.{◌≡◌, ℕ, ◌<◌, true, Option, Some, None, refl, arith}
use Rattle.std.specs.Prelude.{IfSome}
use Rattle.std.specs.Option.{ForSome}
use Rattle.std.proofs.lemmas.Grind.{common_steps}
use Rattle.simplex_values.specs.declared.proposal.Subject.{Subject}
use Rattle.simplex_wire.specs.declared.attestation.Attestation.{Attestation}
use Rattle.simplex_types.specs.Keyed.{keyed_attests, keyed_verifies}

pub below_if_some : (o : Option ℕ) (n : ℕ) → ForSome o (λ m. m < n) → IfSome o (λ m. m < n)
below_if_some None n h = tt
below_if_some (Some m) n h = h m refl

pub signs_as_member : (base : ℕ) (me : Option ℕ) (subject : Subject) → IfSome {T = Attestation} (keyed_attests base me subject) (λ a. me ≡ Some a.signer)
unfolding keyed_attests
signs_as_member base None subject = tt
signs_as_member base (Some m) subject = refl

pub signer_below : (base n : ℕ) (subject : Subject) (a : Attestation) → keyed_verifies base n subject a ≡ true → a.signer < n
unfolding keyed_verifies
signer_below base n subject a h = grind (arith, common_steps, h)
