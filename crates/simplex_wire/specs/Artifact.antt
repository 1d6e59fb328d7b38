-- The format of artifacts.
use Rattle.std.specs.Prelude.{ℕ, zero, suc, List, [], ◌∷◌, Bool, true, false, Result, Ok, Err}
use Rattle.simplex_wire.specs.declared.error.DecodeError.{DecodeError}
use Rattle.simplex_wire.specs.declared.error.DecodeCause.TheVariants.{Tag}
use Rattle.simplex_wire.specs.declared.artifact.Artifact.{Artifact}
use Rattle.simplex_wire.specs.declared.artifact.Artifact.TheVariants as artifacts
use Rattle.simplex_values.specs.declared.round.Round.{Round}
use Rattle.simplex_wire.specs.Format.{◌>>=◌, fault_at, Format, Left, both, byte}
use Rattle.simplex_wire.specs.Fits.{FitsRound, FitsNotarize, FitsNullify, FitsFinalize, FitsNotarization, FitsNullification, FitsFinalization}
use Rattle.simplex_wire.specs.Message.{round, notarize, nullify, finalize, notarization, nullification, finalization}

abbrev pub flag_spelling : Bool → List ℕ
flag_spelling false = 0 ∷ []
flag_spelling true = 1 ∷ []

abbrev pub flag_of : Left → ℕ → Left → Result (Bool × Left) DecodeError
flag_of start zero left = Ok (false, left)
flag_of start (suc zero) left = Ok (true, left)
flag_of start (suc (suc _)) left = Err (fault_at Tag start)

unfoldable pub flag : Format Bool
flag = record { spelling = flag_spelling; reading = λ left. byte.reading left >>= λ b. flag_of left b.0 b.1 }

unfoldable pub certification : Format (Round × Bool)
certification = both round flag

abbrev pub artifact_spelling : Artifact → List ℕ
artifact_spelling (artifacts.Notarize v) = 0 ∷ notarize.spelling v
artifact_spelling (artifacts.Notarization c) = 1 ∷ notarization.spelling c
artifact_spelling (artifacts.Certification r b) = 2 ∷ certification.spelling (r, b)
artifact_spelling (artifacts.Nullify v) = 3 ∷ nullify.spelling v
artifact_spelling (artifacts.Nullification c) = 4 ∷ nullification.spelling c
artifact_spelling (artifacts.Finalize v) = 5 ∷ finalize.spelling v
artifact_spelling (artifacts.Finalization c) = 6 ∷ finalization.spelling c

abbrev pub artifact_behind : Left → ℕ → Left → Result (Artifact × Left) DecodeError
artifact_behind start zero left = notarize.reading left >>= λ v. Ok (artifacts.Notarize v.0, v.1)
artifact_behind start (suc zero) left = notarization.reading left >>= λ c. Ok (artifacts.Notarization c.0, c.1)
artifact_behind start (suc (suc zero)) left =
    certification.reading left >>= λ p. Ok (artifacts.Certification p.0.0 p.0.1, p.1)
artifact_behind start (suc (suc (suc zero))) left = nullify.reading left >>= λ v. Ok (artifacts.Nullify v.0, v.1)
artifact_behind start (suc (suc (suc (suc zero)))) left =
    nullification.reading left >>= λ c. Ok (artifacts.Nullification c.0, c.1)
artifact_behind start (suc (suc (suc (suc (suc zero))))) left =
    finalize.reading left >>= λ v. Ok (artifacts.Finalize v.0, v.1)
artifact_behind start (suc (suc (suc (suc (suc (suc zero)))))) left =
    finalization.reading left >>= λ c. Ok (artifacts.Finalization c.0, c.1)
artifact_behind start (suc (suc (suc (suc (suc (suc (suc _))))))) left = Err (fault_at Tag start)

unfoldable pub artifact : Format Artifact
artifact = record {
  spelling = artifact_spelling;
  reading = λ left. byte.reading left
      >>= λ tag. artifact_behind left tag.0 tag.1;
}

abbrev pub FitsArtifact : Artifact → Type 0
FitsArtifact (artifacts.Notarize v) = FitsNotarize v
FitsArtifact (artifacts.Notarization c) = FitsNotarization c
FitsArtifact (artifacts.Certification r b) = FitsRound r
FitsArtifact (artifacts.Nullify v) = FitsNullify v
FitsArtifact (artifacts.Nullification c) = FitsNullification c
FitsArtifact (artifacts.Finalize v) = FitsFinalize v
FitsArtifact (artifacts.Finalization c) = FitsFinalization c
