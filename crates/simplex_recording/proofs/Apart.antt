-- What other activities leave as it is.
use Rattle.std.proofs.Common.{◌≡◌, ℕ, Bool, true, false, ◌∷◌, List, Option, Some, None, arith, refl, if◌then◌else◌}
use Rattle.std.specs.Option.{option_or}
use Rattle.std.proofs.lemmas.Grind.{common_steps}
use Rattle.simplex_types.specs.declared.activity.Activity.{Activity}
use Rattle.simplex_types.specs.declared.activity.Activity.TheVariants as activities
use Rattle.simplex_types.specs.Evidence.{was_verified}
use Rattle.simplex_recording.specs.declared.at_view.AtView.{AtView}
use Rattle.simplex_recording.specs.declared.certificates.Certificates.{Certificates}
use Rattle.simplex_recording.specs.declared.faults.Faults.{Faults}
use Rattle.simplex_recording.specs.declared.seen.Seen.{Seen}
use Rattle.simplex_recording.specs.declared.unlocked.Unlocked.{Unlocked}
use Rattle.simplex_recording.specs.declared.votes.Votes.{Votes}
use Rattle.simplex_recording.specs.Recording.{Made, against, is_notarize_at, is_nullify_at, is_finalize_at, certifies_view, notarization_in, certification_in, nullification_in, finalization_in, final_view, has_certificate, notarization_at, certification_at, nullification_at, finalization_at, finalizations_at, leader_at, views_seen, latest_seen, faults_of, has_faults}
use Rattle.simplex_recording.specs.Stands.{AtViewOf, CertificatesOf, UnlockedOf, SeenOf, FaultsOf, VotesOf}

none_unless : {A : Type 0} (b : Bool) (x : A) → b ≡ false → (if b then Some x else None) ≡ None
none_unless true x e = cc
none_unless false x e = refl

or_none : {A : Type 0} (o : Option A) → option_or o None ≡ o
or_none None = refl
or_none (Some x) = refl

no_notarization : (view : ℕ) (activity : Activity) → certifies_view view activity ≡ false → notarization_in view activity ≡ None
no_notarization view (activities.Notarization c) e = none_unless _ c e
no_notarization view (activities.Certification c) e = none_unless _ c e
no_notarization view _ e = refl

no_certification : (view : ℕ) (activity : Activity) → certifies_view view activity ≡ false → certification_in view activity ≡ None
no_certification view (activities.Certification c) e = none_unless _ c e
no_certification view _ e = refl

no_nullification : (view : ℕ) (activity : Activity) → certifies_view view activity ≡ false → nullification_in view activity ≡ None
no_nullification view (activities.Nullification c) e = none_unless _ c e
no_nullification view _ e = refl

no_finalization : (view : ℕ) (activity : Activity) → certifies_view view activity ≡ false → finalization_in view activity ≡ None
no_finalization view (activities.Finalization c) e = none_unless _ c e
no_finalization view _ e = refl

no_view : (activity : Activity) → was_verified activity ≡ false → final_view activity ≡ None
no_view (activities.Finalization c) e = cc
no_view _ e = refl

-- a certificate is no vote
no_notarize : (view : ℕ) (payload : List ℕ) (signer : ℕ) (activity : Activity) → was_verified activity ≡ true → is_notarize_at view payload signer activity ≡ false
no_notarize view payload signer (activities.Notarize v) e = cc
no_notarize view payload signer _ e = refl

no_nullify : (view signer : ℕ) (activity : Activity) → was_verified activity ≡ true → is_nullify_at view signer activity ≡ false
no_nullify view signer (activities.Nullify v) e = cc
no_nullify view signer _ e = refl

no_finalize : (view : ℕ) (payload : List ℕ) (signer : ℕ) (activity : Activity) → was_verified activity ≡ true → is_finalize_at view payload signer activity ≡ false
no_finalize view payload signer (activities.Finalize v) e = cc
no_finalize view payload signer _ e = refl

-- nor is evidence
not_notarize : (view : ℕ) (payload : List ℕ) (signer member : ℕ) (activity : Activity) → against activity ≡ Some member → is_notarize_at view payload signer activity ≡ false
not_notarize view payload signer member (activities.Notarize v) e = cc
not_notarize view payload signer member _ e = refl

not_nullify : (view signer member : ℕ) (activity : Activity) → against activity ≡ Some member → is_nullify_at view signer activity ≡ false
not_nullify view signer member (activities.Nullify v) e = cc
not_nullify view signer member _ e = refl

not_finalize : (view : ℕ) (payload : List ℕ) (signer member : ℕ) (activity : Activity) → against activity ≡ Some member → is_finalize_at view payload signer activity ≡ false
not_finalize view payload signer member (activities.Finalize v) e = cc
not_finalize view payload signer member _ e = refl

-- a certificate is against nobody
against_nobody : (activity : Activity) → was_verified activity ≡ true → against activity ≡ None
against_nobody (activities.ConflictingNotarize v) e = cc
against_nobody (activities.ConflictingFinalize v) e = cc
against_nobody (activities.NullifyFinalize v) e = cc
against_nobody _ e = refl

-- a view by what is no certificate of it
pub view_apart : (kept : AtView) (activity : Activity) (all : List Activity) (view : ℕ) → certifies_view view activity ≡ false → AtViewOf kept all view → AtViewOf kept (activity ∷ all) view
unfolding has_certificate notarization_at certification_at nullification_at finalization_at finalizations_at
view_apart kept activity all view e is = record {
  certified_is = grind (arith, common_steps, is.certified_is);
  notarization_is = grind (arith, common_steps, no_notarization view activity e, is.notarization_is);
  certification_is = grind (arith, common_steps, no_certification view activity e, is.certification_is);
  nullification_is = grind (arith, common_steps, no_nullification view activity e, is.nullification_is);
  finalization_is = grind (arith, common_steps, no_finalization view activity e, or_none (finalization_at all view), is.finalization_is);
  count_is = grind (arith, common_steps, no_finalization view activity e, is.count_is);
}

pub certificates_apart : (kept : Certificates) (activity : Activity) (all : List Activity) → was_verified activity ≡ false → CertificatesOf kept all → CertificatesOf kept (activity ∷ all)
certificates_apart kept activity all e are = record { views_are = λ view. view_apart _ activity all view (grind (arith, common_steps)) (are.views_are view) }

pub unlocked_apart : (kept : Unlocked) (made : Made) (activity : Activity) (all : List Activity) → was_verified activity ≡ false → UnlockedOf kept made all → UnlockedOf kept made (activity ∷ all)
unfolding leader_at
unlocked_apart kept made activity all e are = record { leader_is = λ view. grind (arith, common_steps, or_none (leader_at made all view), are.leader_is view) }

pub seen_apart : (kept : Seen) (activity : Activity) (all : List Activity) → was_verified activity ≡ false → SeenOf kept all → SeenOf kept (activity ∷ all)
unfolding views_seen latest_seen
seen_apart kept activity all e are = record {
  views_are = grind (arith, common_steps, no_view activity e, are.views_are);
  latest_is = grind (arith, common_steps, no_view activity e, are.latest_is);
}

pub faults_apart : (kept : Faults) (activity : Activity) (all : List Activity) → against activity ≡ None → FaultsOf kept all → FaultsOf kept (activity ∷ all)
unfolding faults_of has_faults
faults_apart kept activity all e are = record {
  lists_are = λ member view. grind (arith, common_steps, are.lists_are member view);
  any_is = grind (arith, common_steps, are.any_is);
}

pub faults_at_certificate : (kept : Faults) (activity : Activity) (all : List Activity) → was_verified activity ≡ true → FaultsOf kept all → FaultsOf kept (activity ∷ all)
faults_at_certificate kept activity all e = faults_apart kept activity all (against_nobody activity e)

pub votes_at_certificate : (votes : Votes) (activity : Activity) (all : List Activity) → was_verified activity ≡ true → VotesOf votes all → VotesOf votes (activity ∷ all)
votes_at_certificate votes activity all e are = record {
  notarizes_are = λ view payload signer. grind (arith, common_steps, no_notarize view payload signer activity e, are.notarizes_are view payload signer);
  nullifies_are = λ view signer. grind (arith, common_steps, no_nullify view signer activity e, are.nullifies_are view signer);
  finalizes_are = λ view payload signer. grind (arith, common_steps, no_finalize view payload signer activity e, are.finalizes_are view payload signer);
}

pub votes_at_evidence : (votes : Votes) (activity : Activity) (all : List Activity) (member : ℕ) → against activity ≡ Some member → VotesOf votes all → VotesOf votes (activity ∷ all)
votes_at_evidence votes activity all member e are = record {
  notarizes_are = λ view payload signer. grind (arith, common_steps, not_notarize view payload signer member activity e, are.notarizes_are view payload signer);
  nullifies_are = λ view signer. grind (arith, common_steps, not_nullify view signer member activity e, are.nullifies_are view signer);
  finalizes_are = λ view payload signer. grind (arith, common_steps, not_finalize view payload signer member activity e, are.finalizes_are view payload signer);
}
