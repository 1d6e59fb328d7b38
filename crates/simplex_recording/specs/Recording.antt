-- What a reporter answers that records what it was told, the newest first.
use Rattle.std.specs.Prelude.{◌≡◌, ℕ, ◌+◌, ◌-◌, ◌^◌, ◌==◌, ◌&&◌, min, Bool, false, not, List, [], ◌∷◌, ◌++◌, filter, Option, Some, None, is_some, unwrap_or, if◌then◌else◌}
use Rattle.std.specs.List.{list_any, range_with_len}
use Rattle.std.specs.Option.{option_or, option_map_or, option_to_list}
use Rattle.std.specs.Str.{bytes_eq}
use Rattle.simplex_values.specs.declared.proposal.Proposal.{Proposal}
use Rattle.simplex_values.specs.declared.proposal.Subject.{Subject}
use Rattle.simplex_values.specs.declared.round.Round.{Round}
use Rattle.simplex_values.specs.Proposal.{is_same_round, is_same_proposal}
use Rattle.simplex_values.specs.Terms.{next_of, next_term_start}
use Rattle.simplex_wire.specs.declared.attestation.Attestation.{Attestation}
use Rattle.simplex_wire.specs.declared.vote.Notarize.{Notarize}
use Rattle.simplex_wire.specs.declared.vote.Nullify.{Nullify}
use Rattle.simplex_wire.specs.declared.vote.Finalize.{Finalize}
use Rattle.simplex_wire.specs.declared.certificate.Notarization.{Notarization}
use Rattle.simplex_wire.specs.declared.certificate.Nullification.{Nullification}
use Rattle.simplex_wire.specs.declared.certificate.Finalization.{Finalization}
use Rattle.simplex_types.specs.declared.activity.Activity.{Activity}
use Rattle.simplex_types.specs.declared.activity.Activity.TheVariants as activities
use Rattle.simplex_types.specs.Evidence.{activity_round, activity_verifies, was_verified}

-- what it is made with: what verifies, how many members there are, who leads a round, and how long a term is
pub record Made : Type 0 where
  pub verifies : Subject → Attestation → Bool
  pub members : ℕ
  pub leader : Round → ℕ
  pub term : ℕ

-- what fails to verify is counted and recorded nowhere
abbrev pub is_valid : Made → Activity → Bool
is_valid made activity = activity_verifies made.verifies made.members activity

unfoldable pub recorded : Made → List Activity → List Activity
recorded made [] = []
recorded made (activity ∷ before) =
    if is_valid made activity then activity ∷ recorded made before else recorded made before

-- one more, where the test passes, as far as a count goes
abbrev pub counted : Bool → ℕ → ℕ
counted more count = if more then min (count + 1) (2 ^ 64 - 1) else count

unfoldable pub invalid_votes_of : Made → List Activity → ℕ
invalid_votes_of made [] = 0
invalid_votes_of made (activity ∷ before) =
    counted (not (is_valid made activity) && not (was_verified activity)) (invalid_votes_of made before)

unfoldable pub invalid_certificates_of : Made → List Activity → ℕ
invalid_certificates_of made [] = 0
invalid_certificates_of made (activity ∷ before) =
    counted (not (is_valid made activity) && was_verified activity) (invalid_certificates_of made before)

-- ---- votes: who signed, in rising order. These, and what follows, are read from what is recorded

abbrev pub is_for : Proposal → ℕ → ℕ → List ℕ → ℕ → Bool
is_for proposal by view payload signer =
    proposal.round.view == view && bytes_eq proposal.payload payload && by == signer

abbrev pub is_notarize_at : ℕ → List ℕ → ℕ → Activity → Bool
is_notarize_at view payload signer (activities.Notarize v) = is_for v.proposal v.attestation.signer view payload signer
is_notarize_at view payload signer _ = false

abbrev pub is_nullify_at : ℕ → ℕ → Activity → Bool
is_nullify_at view signer (activities.Nullify v) = v.round.view == view && v.attestation.signer == signer
is_nullify_at view signer _ = false

abbrev pub is_finalize_at : ℕ → List ℕ → ℕ → Activity → Bool
is_finalize_at view payload signer (activities.Finalize v) = is_for v.proposal v.attestation.signer view payload signer
is_finalize_at view payload signer _ = false

abbrev pub signers_by : ℕ → (ℕ → Activity → Bool) → List Activity → List ℕ
signers_by members is_of all = filter (λ signer. list_any (is_of signer) all) (range_with_len 0 members)

unfoldable pub notarizes_of : Made → List Activity → ℕ → List ℕ → List ℕ
notarizes_of made all view payload = signers_by made.members (is_notarize_at view payload) all

unfoldable pub nullifies_of : Made → List Activity → ℕ → List ℕ
nullifies_of made all view = signers_by made.members (is_nullify_at view) all

unfoldable pub finalizes_of : Made → List Activity → ℕ → List ℕ → List ℕ
finalizes_of made all view payload = signers_by made.members (is_finalize_at view payload) all

-- ---- certificates

abbrev pub notarization_in : ℕ → Activity → Option Notarization
notarization_in view (activities.Notarization c) = if c.proposal.round.view == view then Some c else None
notarization_in view (activities.Certification c) = if c.proposal.round.view == view then Some c else None
notarization_in view _ = None

abbrev pub certification_in : ℕ → Activity → Option Notarization
certification_in view (activities.Certification c) = if c.proposal.round.view == view then Some c else None
certification_in view _ = None

abbrev pub nullification_in : ℕ → Activity → Option Nullification
nullification_in view (activities.Nullification c) = if c.round.view == view then Some c else None
nullification_in view _ = None

abbrev pub finalization_in : ℕ → Activity → Option Finalization
finalization_in view (activities.Finalization c) = if c.proposal.round.view == view then Some c else None
finalization_in view _ = None

-- the newest. A certification counts as a notarization too
unfoldable pub notarization_at : List Activity → ℕ → Option Notarization
notarization_at [] view = None
notarization_at (activity ∷ before) view = option_or (notarization_in view activity) (notarization_at before view)

unfoldable pub certification_at : List Activity → ℕ → Option Notarization
certification_at [] view = None
certification_at (activity ∷ before) view = option_or (certification_in view activity) (certification_at before view)

unfoldable pub nullification_at : List Activity → ℕ → Option Nullification
nullification_at [] view = None
nullification_at (activity ∷ before) view = option_or (nullification_in view activity) (nullification_at before view)

-- the oldest finalization
unfoldable pub finalization_at : List Activity → ℕ → Option Finalization
finalization_at [] view = None
finalization_at (activity ∷ before) view = option_or (finalization_at before view) (finalization_in view activity)

-- how many there were
unfoldable pub finalizations_at : List Activity → ℕ → ℕ
finalizations_at [] view = 0
finalizations_at (activity ∷ before) view =
    counted (is_some (finalization_in view activity)) (finalizations_at before view)

-- this is the view's first finalization, and there were so many
abbrev pub FinalizedBy : List Activity → (view : ℕ) → Finalization → ℕ → Type 0
FinalizedBy all view first count = (finalization_at all view ≡ Some first) × (count ≡ finalizations_at all view)

-- ---- views

abbrev pub certifies_view : ℕ → Activity → Bool
certifies_view view activity = was_verified activity && (activity_round activity).view == view

unfoldable pub has_certificate : List Activity → ℕ → Bool
has_certificate all view = list_any (certifies_view view) all

-- the view that a certificate unlocks
abbrev pub unlocked_by : ℕ → Activity → ℕ
unlocked_by term (activities.Nullification c) = next_term_start term c.round.view
unlocked_by term activity = next_of (activity_round activity).view

-- the leader that is elected for it, in the certificate's epoch
abbrev pub leader_by : Made → ℕ → Activity → Option ℕ
leader_by made view activity =
    if was_verified activity && unlocked_by made.term activity == view
    then Some (made.leader (record { epoch = (activity_round activity).epoch; view = view }))
    else None

-- the first that was elected
unfoldable pub leader_at : Made → List Activity → ℕ → Option ℕ
leader_at made [] view = None
leader_at made (activity ∷ before) view = option_or (leader_at made before view) (leader_by made view activity)

abbrev pub final_view : Activity → Option ℕ
final_view (activities.Finalization c) = Some c.proposal.round.view
final_view _ = None

-- the views of the finalizations, in order of report
unfoldable pub views_seen : List Activity → List ℕ
views_seen [] = []
views_seen (activity ∷ before) = views_seen before ++ option_to_list (final_view activity)

-- the last of them, which may be below an earlier one
unfoldable pub latest_seen : List Activity → ℕ
latest_seen [] = 0
latest_seen (activity ∷ before) = unwrap_or (final_view activity) (latest_seen before)

-- ---- evidence

abbrev pub is_same_attestation : Attestation → Attestation → Bool
is_same_attestation a b = a.signer == b.signer && bytes_eq a.signature b.signature

abbrev pub is_same_notarize : Notarize → Notarize → Bool
is_same_notarize a b = is_same_proposal a.proposal b.proposal && is_same_attestation a.attestation b.attestation

abbrev pub is_same_nullify : Nullify → Nullify → Bool
is_same_nullify a b = is_same_round a.round b.round && is_same_attestation a.attestation b.attestation

abbrev pub is_same_finalize : Finalize → Finalize → Bool
is_same_finalize a b = is_same_proposal a.proposal b.proposal && is_same_attestation a.attestation b.attestation

abbrev pub is_same_evidence : Activity → Activity → Bool
is_same_evidence (activities.ConflictingNotarize a) (activities.ConflictingNotarize b) =
    is_same_notarize a.first b.first && is_same_notarize a.second b.second
is_same_evidence (activities.ConflictingFinalize a) (activities.ConflictingFinalize b) =
    is_same_finalize a.first b.first && is_same_finalize a.second b.second
is_same_evidence (activities.NullifyFinalize a) (activities.NullifyFinalize b) =
    is_same_nullify a.nullify b.nullify && is_same_finalize a.finalize b.finalize
is_same_evidence _ _ = false

-- whom evidence is against
abbrev pub against : Activity → Option ℕ
against (activities.ConflictingNotarize e) = Some e.first.attestation.signer
against (activities.ConflictingFinalize e) = Some e.first.attestation.signer
against (activities.NullifyFinalize e) = Some e.nullify.attestation.signer
against _ = None

abbrev pub is_fault_of : ℕ → ℕ → Activity → Bool
is_fault_of member view activity =
    option_map_or (λ signer. signer == member) (against activity) false && (activity_round activity).view == view

-- last, unless it is there
abbrev pub with_evidence : Activity → List Activity → List Activity
with_evidence activity known = if list_any (is_same_evidence activity) known then known else known ++ activity ∷ []

-- the evidence against a member in a view, each once, in order of report
unfoldable pub faults_of : List Activity → ℕ → ℕ → List Activity
faults_of [] member view = []
faults_of (activity ∷ before) member view =
    if is_fault_of member view activity then with_evidence activity (faults_of before member view)
    else faults_of before member view

unfoldable pub has_faults : List Activity → Bool
has_faults all = list_any (λ activity. is_some (against activity)) all
