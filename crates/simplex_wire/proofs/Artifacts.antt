-- The format of artifacts is lawful.
use Rattle.std.proofs.Common.{◌≡◌, ℕ, zero, suc, List, ◌++◌, Bool, true, false, Ok, refl, subst}
use Rattle.simplex_values.specs.declared.round.Round.{Round}
use Rattle.simplex_wire.specs.declared.artifact.Artifact.{Artifact}
use Rattle.simplex_wire.specs.declared.artifact.Artifact.TheVariants as artifacts
use Rattle.simplex_wire.specs.Format.{Left, byte}
use Rattle.simplex_wire.specs.Fits.{IsBytes, FitsRound, FitsNotarize, FitsNullify, FitsFinalize, FitsNotarization, FitsNullification, FitsFinalization}
use Rattle.simplex_wire.specs.Message.{notarize, nullify, finalize, notarization, nullification, finalization}
use Rattle.simplex_wire.specs.Artifact.{flag_spelling, flag_of, flag, certification, artifact_spelling, artifact_behind, artifact, FitsArtifact}
use Rattle.simplex_wire.proofs.Bytes.{bind_ok, ok_is, Takes}
use Rattle.simplex_wire.proofs.Formats.{IsFormat, both_is, tag_takes, byte_alone}
use Rattle.simplex_wire.proofs.Messages.{round_is, notarize_is, nullify_is, finalize_is}
use Rattle.simplex_wire.proofs.Certificates.{notarization_is, nullification_is, finalization_is}

flag_takes : (left : Left) (b : ℕ) (after : Left) (x : Bool × Left) → IsBytes left.bytes → byte.reading left ≡ Ok (b, after) → flag_of left b after ≡ Ok x → Takes left (flag_spelling x.0) x.1 × Unit {0}
flag_takes left zero after x fits tag e = subst (λ (y : Bool × Left). Takes left (flag_spelling y.0) y.1 × Unit {0}) (ok_is (false, after) x e) (byte_alone left (0, after) fits tag, tt)
flag_takes left (suc zero) after x fits tag e = subst (λ (y : Bool × Left). Takes left (flag_spelling y.0) y.1 × Unit {0}) (ok_is (true, after) x e) (byte_alone left (1, after) fits tag, tt)
flag_takes left (suc (suc b)) after x fits tag e = absurd cc

flag_again : (end : ℕ) (b : Bool) (rest : List ℕ) → flag.reading (record { end = end; bytes = flag.spelling b ++ rest }) ≡ Ok (b, record { end = end; bytes = rest })
unfolding flag
flag_again end false rest = refl
flag_again end true rest = refl

flag_is : IsFormat flag (λ _. Unit {0})
unfolding flag
flag_is = record {
  takes = λ left x fits e.
      let b = bind_ok (byte.reading left) (λ b. flag_of left b.0 b.1) x e in
      flag_takes left b.0.0 b.0.1 x fits b.1 b.2;
  again = λ end b rest _. flag_again end b rest;
}

certification_is : IsFormat certification (λ p. FitsRound p.0 × Unit {0})
unfolding certification
certification_is = both_is _ _ _ _ round_is flag_is

artifact_takes : (left : Left) (b : ℕ) (after : Left) (x : Artifact × Left) → IsBytes left.bytes → byte.reading left ≡ Ok (b, after) → artifact_behind left b after ≡ Ok x
    → Takes left (artifact_spelling x.0) x.1 × FitsArtifact x.0
artifact_takes left zero after x fits tag e =
    let t = tag_takes notarize FitsNotarize artifacts.Notarize notarize_is left (0, after) x fits tag e in
    rw t.1 (t.2, t.3)
artifact_takes left (suc zero) after x fits tag e =
    let t = tag_takes notarization FitsNotarization artifacts.Notarization notarization_is left (1, after) x fits tag e in
    rw t.1 (t.2, t.3)
artifact_takes left (suc (suc zero)) after x fits tag e =
    let t = tag_takes certification (λ p. FitsRound p.0 × Unit {0}) (λ (p : Round × Bool). artifacts.Certification p.0 p.1) certification_is left (2, after) x fits tag e in
    rw t.1 (t.2, t.3.0)
artifact_takes left (suc (suc (suc zero))) after x fits tag e =
    let t = tag_takes nullify FitsNullify artifacts.Nullify nullify_is left (3, after) x fits tag e in
    rw t.1 (t.2, t.3)
artifact_takes left (suc (suc (suc (suc zero)))) after x fits tag e =
    let t = tag_takes nullification FitsNullification artifacts.Nullification nullification_is left (4, after) x fits tag e in
    rw t.1 (t.2, t.3)
artifact_takes left (suc (suc (suc (suc (suc zero))))) after x fits tag e =
    let t = tag_takes finalize FitsFinalize artifacts.Finalize finalize_is left (5, after) x fits tag e in
    rw t.1 (t.2, t.3)
artifact_takes left (suc (suc (suc (suc (suc (suc zero)))))) after x fits tag e =
    let t = tag_takes finalization FitsFinalization artifacts.Finalization finalization_is left (6, after) x fits tag e in
    rw t.1 (t.2, t.3)
artifact_takes left (suc (suc (suc (suc (suc (suc (suc b))))))) after x fits tag e = absurd cc

artifact_again : (end : ℕ) (a : Artifact) (rest : List ℕ) → FitsArtifact a → artifact.reading (record { end = end; bytes = artifact.spelling a ++ rest }) ≡ Ok (a, record { end = end; bytes = rest })
unfolding artifact
artifact_again end (artifacts.Notarize v) rest fits = rw (notarize_is.again end v rest fits) refl
artifact_again end (artifacts.Notarization c) rest fits = rw (notarization_is.again end c rest fits) refl
artifact_again end (artifacts.Certification r b) rest fits = rw (certification_is.again end (r, b) rest (fits, tt)) refl
artifact_again end (artifacts.Nullify v) rest fits = rw (nullify_is.again end v rest fits) refl
artifact_again end (artifacts.Nullification c) rest fits = rw (nullification_is.again end c rest fits) refl
artifact_again end (artifacts.Finalize v) rest fits = rw (finalize_is.again end v rest fits) refl
artifact_again end (artifacts.Finalization c) rest fits = rw (finalization_is.again end c rest fits) refl

pub artifact_is : IsFormat artifact FitsArtifact
unfolding artifact
artifact_is = record {
  takes = λ left x fits e.
      let tag = bind_ok (byte.reading left) (λ tag. artifact_behind left tag.0 tag.1) x e in
      artifact_takes left tag.0.0 tag.0.1 x fits tag.1 tag.2;
  again = artifact_again;
}
