-- A scheme that knows its members' signatures alone.
use Rattle.std.proofs.Common.{◌≡◌, ◌<◌, ℕ, Bool, true, refl, ap, sym, subst, ◌∙◌}
use Rattle.simplex_values.specs.declared.proposal.Subject.{Subject}
use Rattle.simplex_wire.specs.declared.attestation.Attestation.{Attestation}
use Rattle.simplex_types.specs.Keyed.{keyed_verifies}
use Rattle.simplex_types.specs.KeyedLaws.{signer_below}
use Rattle.simplex_round.specs.Assembly.{Scheme, as_scheme}
use Rattle.model_steps.specs.Batcher.{Made}
use Rattle.law_member.specs.Certificates.{IsSchemeOfMembers}

pub lawful_fits : (made : Made) (verifies : Subject → Attestation → Bool) (recovers : Bool) (n : ℕ)
    → ((subject : Subject) (a : Attestation) → verifies subject a ≡ true → a.signer < n) → made.scheme ≡ as_scheme verifies recovers n → made.members ≡ n → IsSchemeOfMembers made
lawful_fits made verifies recovers n below is members = record {
  members = ap (λ (s : Scheme). s.members) is ∙ sym members;
  signers = λ subject a h. subst (λ (m : ℕ). a.signer < m) (sym members) (below subject a (sym (ap (λ (s : Scheme). s.verifies subject a) is) ∙ h));
}

pub keyed_fits : (made : Made) (base : ℕ) (recovers : Bool) → made.scheme ≡ as_scheme (keyed_verifies base made.members) recovers made.members → IsSchemeOfMembers made
keyed_fits made base recovers is = lawful_fits made (keyed_verifies base made.members) recovers made.members (signer_below base made.members) is refl
