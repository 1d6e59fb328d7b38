-- Names for what proofs of this crate unfold together.
use Rattle.std.specs.Prelude.{⊤}
use Rattle.simplex_recording.specs.Recording.{certification_at, finalization_at, finalizations_at, finalizes_of, has_certificate, invalid_certificates_of, invalid_votes_of, notarization_at, notarizes_of, nullification_at, nullifies_of, recorded}
use Rattle.simplex_recording.specs.Stands.{StandsFor}

-- what was reported of a view
unfoldable pub views : ⊤
unfolding has_certificate notarization_at certification_at nullification_at finalization_at finalizations_at
views = tt

-- what was reported, and what was not valid
unfoldable pub counts : ⊤
unfolding StandsFor notarizes_of nullifies_of finalizes_of recorded invalid_votes_of invalid_certificates_of
counts = tt
