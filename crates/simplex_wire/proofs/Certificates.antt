-- Each certificate's format is lawful.
use Rattle.std.proofs.Common.{◌≡◌, ℕ, zero, suc, List, ◌++◌, Ok, refl}
use Rattle.simplex_wire.specs.declared.certificate.Certificate.{Certificate}
use Rattle.simplex_wire.specs.declared.certificate.Certificate.TheVariants as certificates
use Rattle.simplex_wire.specs.Format.{Left, byte}
use Rattle.simplex_wire.specs.Fits.{IsBytes, FitsNotarization, FitsNullification, FitsFinalization, FitsCertificate}
use Rattle.simplex_wire.specs.Message.{notarization, nullification, finalization, certificate_spelling, certificate_behind, certificate}
use Rattle.simplex_wire.proofs.Bytes.{bind_ok, Takes}
use Rattle.simplex_wire.proofs.Formats.{IsFormat, both_is, seen_is, tag_takes}
use Rattle.simplex_wire.proofs.Messages.{round_is, proposal_is}
use Rattle.simplex_wire.proofs.Lists.{signatures_is}

pub notarization_is : IsFormat notarization FitsNotarization
unfolding notarization
notarization_is = seen_is _ _ _ _ (λ a. refl) (λ b. refl) (both_is _ _ _ _ proposal_is signatures_is)

pub nullification_is : IsFormat nullification FitsNullification
unfolding nullification
nullification_is = seen_is _ _ _ _ (λ a. refl) (λ b. refl) (both_is _ _ _ _ round_is signatures_is)

pub finalization_is : IsFormat finalization FitsFinalization
unfolding finalization
finalization_is = seen_is _ _ _ _ (λ a. refl) (λ b. refl) (both_is _ _ _ _ proposal_is signatures_is)

certificate_takes : (left : Left) (b : ℕ) (after : Left) (x : Certificate × Left) → IsBytes left.bytes → byte.reading left ≡ Ok (b, after) → certificate_behind left b after ≡ Ok x
    → Takes left (certificate_spelling x.0) x.1 × FitsCertificate x.0
certificate_takes left zero after x fits tag e =
    let t = tag_takes notarization FitsNotarization certificates.Notarization notarization_is left (0, after) x fits tag e in
    rw t.1 (t.2, t.3)
certificate_takes left (suc zero) after x fits tag e =
    let t = tag_takes nullification FitsNullification certificates.Nullification nullification_is left (1, after) x fits tag e in
    rw t.1 (t.2, t.3)
certificate_takes left (suc (suc zero)) after x fits tag e =
    let t = tag_takes finalization FitsFinalization certificates.Finalization finalization_is left (2, after) x fits tag e in
    rw t.1 (t.2, t.3)
certificate_takes left (suc (suc (suc b))) after x fits tag e = absurd cc

certificate_again : (end : ℕ) (c : Certificate) (rest : List ℕ) → FitsCertificate c → certificate.reading (record { end = end; bytes = certificate.spelling c ++ rest }) ≡ Ok (c, record { end = end; bytes = rest })
unfolding certificate
certificate_again end (certificates.Notarization c) rest fits = rw (notarization_is.again end c rest fits) refl
certificate_again end (certificates.Nullification c) rest fits = rw (nullification_is.again end c rest fits) refl
certificate_again end (certificates.Finalization c) rest fits = rw (finalization_is.again end c rest fits) refl

pub certificate_is : IsFormat certificate FitsCertificate
unfolding certificate
certificate_is = record {
  takes = λ left x fits e.
      let tag = bind_ok (byte.reading left) (λ tag. certificate_behind left tag.0 tag.1) x e in
      certificate_takes left tag.0.0 tag.0.1 x fits tag.1 tag.2;
  again = certificate_again;
}
