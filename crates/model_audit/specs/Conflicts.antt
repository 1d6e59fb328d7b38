-- Whether a certificate that verifies conflicts with another.
use Rattle.std.specs.Prelude.{ℕ, ◌==◌, ◌&&◌, ◌||◌, nat_lt, Bool, false, not, List, ◌++◌, filter}
use Rattle.std.specs.List.{list_any, flat_map}
use Rattle.simplex_values.specs.declared.proposal.Proposal.{Proposal}
use Rattle.simplex_values.specs.declared.proposal.Subject.{Subject}
use Rattle.simplex_values.specs.declared.proposal.Subject.TheVariants.{Notarize, Nullify, Finalize}
use Rattle.simplex_values.specs.Covers.{covers}
use Rattle.simplex_values.specs.Proposal.{is_same_proposal}
use Rattle.simplex_wire.specs.declared.certificate.Certificate.{Certificate}
use Rattle.simplex_wire.specs.Certified.{is_certified}
use Rattle.simplex_wire.specs.Fields.{certificate_subject, certificate_signatures}
use Rattle.simplex_types.specs.Keyed.{keyed_verifies}
use Rattle.simplex_transcript.specs.declared.entry.Entry.{Entry}
use Rattle.simplex_transcript.specs.declared.setup.Setup.{Setup}
use Rattle.model_run.specs.Kinds.{members_of}
use Rattle.model_run.specs.Life.{Noted}
use Rattle.law_agreement.specs.World.{view_of}
use Rattle.law_run.specs.Backed.{standing_in}

abbrev pub are_rivals : Proposal → Proposal → Bool
are_rivals p q = view_of p == view_of q && not (is_same_proposal p q)

-- the second is for a later view than the first, and stands on an earlier one
abbrev pub is_skipped : Proposal → Proposal → Bool
is_skipped p q = nat_lt (view_of p) (view_of q) && nat_lt q.parent (view_of p)

abbrev pub conflicts : ℕ → Subject → Subject → Bool
conflicts length (Notarize p) (Notarize q) = are_rivals p q
conflicts length (Notarize p) (Nullify s) = false
conflicts length (Notarize p) (Finalize q) = are_rivals p q || is_skipped q p
conflicts length (Nullify r) (Notarize q) = false
conflicts length (Nullify r) (Nullify s) = false
conflicts length (Nullify r) (Finalize q) = covers length r.view (view_of q)
conflicts length (Finalize p) (Notarize q) = are_rivals p q || is_skipped p q
conflicts length (Finalize p) (Nullify s) = covers length s.view (view_of p)
conflicts length (Finalize p) (Finalize q) = are_rivals p q || (is_skipped p q || is_skipped q p)

abbrev pub is_verifying : Setup → Certificate → Bool
is_verifying setup c = is_certified (keyed_verifies setup.key_base (members_of setup) (certificate_subject c)) (members_of setup) (certificate_signatures c)

unfoldable pub standing_good : Setup → Entry → List Certificate
standing_good setup entry = filter (is_verifying setup) (standing_in entry)

unfoldable pub all_standing : Setup → List Noted → List Certificate
all_standing setup before = flat_map (λ (noted : Noted). standing_good setup noted.entry) before

-- a certificate of the entry conflicts with one of it or of those before
unfoldable pub has_conflict : Setup → List Noted → Entry → Bool
has_conflict setup before entry =
    let here = standing_good setup entry in
    list_any (λ a. list_any (λ b. conflicts setup.term (certificate_subject a) (certificate_subject b)) (here ++ all_standing setup before)) here
