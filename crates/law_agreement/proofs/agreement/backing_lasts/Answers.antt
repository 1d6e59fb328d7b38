use Rattle.std.proofs.Common.{◌⊎◌, Contains, subst, inl, inr}
use Rattle.std.proofs.lemmas.List.Elements.{All-weaker}
use Rattle.law_agreement.specs.Quorums.{IsQuorum}
use Rattle.law_agreement.specs.World.{HasSent}
use Rattle.law_agreement.proofs.agreement.backing_lasts.Goals as goal

pub returns : goal.returns
returns c w later certificate members faulty more b =
    record {
      quorum = subst (λ n. IsQuorum n certificate.signers) members b.quorum;
      signed = All-weaker (λ i. Contains w.faulty i ⊎ HasSent w i certificate.subject) (λ i. Contains later.faulty i ⊎ HasSent later i certificate.subject)
          (λ i h. elim h [ inl f ↦ inl (subst (λ xs. Contains xs i) faulty f) | inr s ↦ inr (more i certificate.subject s) ])
          certificate.signers b.signed;
    }
