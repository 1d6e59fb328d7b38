-- What was recorded, the newest first, by what is kept of it.
use Rattle.std.specs.Prelude.{◌≡◌, ℕ, Bool, true, List, ◌∷◌, option_map}
use Rattle.std.specs.List.{list_any}
use Rattle.std.specs.Option.{option_or}
use Rattle.simplex_values.specs.declared.proposal.Subject.{Subject}
use Rattle.simplex_values.specs.declared.round.Round.{Round}
use Rattle.simplex_values.specs.declared.terms.Terms.{Terms}
use Rattle.simplex_values.specs.Maps.{found}
use Rattle.simplex_wire.specs.declared.attestation.Attestation.{Attestation}
use Rattle.simplex_types.specs.declared.activity.Activity.{Activity}
use Rattle.simplex_recording.specs.declared.at_view.AtView.{AtView}
use Rattle.simplex_recording.specs.declared.certificates.Certificates.{Certificates}
use Rattle.simplex_recording.specs.declared.faults.Faults.{Faults}
use Rattle.simplex_recording.specs.declared.finalized.Finalized.{Finalized}
use Rattle.simplex_recording.specs.declared.record.Record.{Record}
use Rattle.simplex_recording.specs.declared.reporter.Reporter.{Reporter}
use Rattle.simplex_recording.specs.declared.seen.Seen.{Seen}
use Rattle.simplex_recording.specs.declared.unlocked.Unlocked.{Unlocked}
use Rattle.simplex_recording.specs.declared.votes.Votes.{Votes}
use Rattle.simplex_recording.specs.Kept.{has_cast, has_pair, kept_at, count_in, evidence_in}
use Rattle.simplex_recording.specs.Recording.{Made, signers_by, certifies_view, is_notarize_at, is_nullify_at, is_finalize_at, notarization_at, certification_at, nullification_at, finalization_at, finalizations_at, has_certificate, leader_at, views_seen, latest_seen, faults_of, has_faults, recorded, invalid_votes_of, invalid_certificates_of}

pub record VotesOf (votes : Votes) (all : List Activity) : Type 0 where
  pub notarizes_are : (view : ℕ) (payload : List ℕ) (signer : ℕ)
      → has_cast votes.notarizes view payload signer ≡ list_any (is_notarize_at view payload signer) all
  pub nullifies_are : (view signer : ℕ)
      → has_pair votes.nullifies view signer ≡ list_any (is_nullify_at view signer) all
  pub finalizes_are : (view : ℕ) (payload : List ℕ) (signer : ℕ)
      → has_cast votes.finalizes view payload signer ≡ list_any (is_finalize_at view payload signer) all

-- whatever votes are kept, these members signed one of the kind, in rising order
abbrev pub Signed : Votes → (members : ℕ) → (ℕ → Activity → Bool) → List ℕ → Type 0
Signed votes members is_of signers = (all : List Activity) → VotesOf votes all → signers ≡ signers_by members is_of all

-- the certificates of a view. A certification that came behind the last notarization is the last one
pub record AtViewOf (kept : AtView) (all : List Activity) (view : ℕ) : Type 0 where
  pub certified_is : kept.is_certified ≡ has_certificate all view
  pub notarization_is : option_or kept.notarization kept.certification ≡ notarization_at all view
  pub certification_is : kept.certification ≡ certification_at all view
  pub nullification_is : kept.nullification ≡ nullification_at all view
  pub finalization_is : option_map (λ (f : Finalized). f.first) kept.finalization ≡ finalization_at all view
  pub count_is : count_in kept.finalization ≡ finalizations_at all view

-- whatever was recorded of the view, the answer is the rule's of it
abbrev pub AnswersAt : {R : Type 0} → AtView → (List Activity → ℕ → R) → R → Type 0
AnswersAt kept rule answer = (all : List Activity) (view : ℕ) → AtViewOf kept all view → answer ≡ rule all view

-- whatever was recorded of the view that the certificate is of, the certificate is recorded behind it
abbrev pub Enters : AtView → AtView → Activity → Type 0
Enters old new activity =
    (all : List Activity) (view : ℕ) → certifies_view view activity ≡ true → AtViewOf old all view
    → AtViewOf new (activity ∷ all) view

pub record CertificatesOf (kept : Certificates) (all : List Activity) : Type 0 where
  pub views_are : (view : ℕ) → AtViewOf (kept_at kept.views view) all view

-- whatever certificates were recorded, the answer is the rule's of them at the view
abbrev pub CertificatesAnswer : {R : Type 0} → Certificates → (view : ℕ) → (List Activity → ℕ → R) → R → Type 0
CertificatesAnswer kept view rule answer = (all : List Activity) → CertificatesOf kept all → answer ≡ rule all view

pub record UnlockedOf (unlocked : Unlocked) (made : Made) (all : List Activity) : Type 0 where
  pub leader_is : (view : ℕ) → found unlocked.leaders view ≡ leader_at made all view

pub record SeenOf (kept : Seen) (all : List Activity) : Type 0 where
  pub views_are : kept.views.items ≡ views_seen all
  pub latest_is : kept.latest ≡ latest_seen all

pub record FaultsOf (kept : Faults) (all : List Activity) : Type 0 where
  pub lists_are : (member view : ℕ) → evidence_in kept.lists view member ≡ faults_of all member view
  pub any_is : kept.any ≡ has_faults all

pub record RecordOf (kept : Record) (made : Made) (all : List Activity) : Type 0 where
  pub votes_are : VotesOf kept.votes all
  pub certificates_are : CertificatesOf kept.certificates all
  pub unlocked_are : UnlockedOf kept.unlocked made all
  pub seen_are : SeenOf kept.seen all
  pub faults_are : FaultsOf kept.faults all

-- whatever was recorded by this elector, the activity is recorded behind it
abbrev pub Records : {L : Type 0} → (L → Round → ℕ) → (L → Terms) → L → Record → Record → Activity → Type 0
Records elects cuts elector old new activity =
    (made : Made) (all : List Activity) → made.leader ≡ elects elector → made.term ≡ (cuts elector).length
    → RecordOf old made all → RecordOf new made (activity ∷ all)

-- whatever was recorded stays recorded
abbrev pub Keeps : Record → Record → Type 0
Keeps old new = (made : Made) (all : List Activity) → RecordOf old made all → RecordOf new made all

module _ {S L : Type 0} where
  -- what a reporter is made with, by what its scheme verifies, whose it is, whom its elector elects, and how it cuts terms
  abbrev pub made_with : (S → Subject → Attestation → Bool) → (S → ℕ) → (L → Round → ℕ) → (L → Terms) → S → L → Made
  made_with verifies members elects cuts scheme elector =
      record {
        verifies = verifies scheme;
        members = members scheme;
        leader = elects elector;
        term = (cuts elector).length;
      }

  -- the reporter is made so, and was told this, the newest first
  unfoldable pub StandsFor : (S → Subject → Attestation → Bool) → (S → ℕ) → (L → Round → ℕ) → (L → Terms) → Reporter S L
      → Made → List Activity → Type 0
  StandsFor verifies members elects cuts reporter made told =
      (made ≡ made_with verifies members elects cuts reporter.scheme reporter.elector)
      × (reporter.participants ≡ made.members)
      × RecordOf reporter.kept made (recorded made told)
      × (reporter.invalid_votes ≡ invalid_votes_of made told)
      × (reporter.invalid_certificates ≡ invalid_certificates_of made told)

  -- whatever the reporter was told, the answer is the rule's of how it was made and what it was told
  abbrev pub Answers : {R : Type 0} → (S → Subject → Attestation → Bool) → (S → ℕ) → (L → Round → ℕ) → (L → Terms)
      → Reporter S L → (Made → List Activity → R) → R → Type 0
  Answers verifies members elects cuts reporter rule answer =
      (made : Made) (told : List Activity) → StandsFor verifies members elects cuts reporter made told
      → answer ≡ rule made told
