-- A founded call blames nobody whose votes are in order.
use Rattle.std.proofs.Common.{◌≡◌, ℕ, Bool, true, false, List, ◌∷◌, refl, sym, ◌∙◌}
use Rattle.std.specs.Prelude.{◌==◌, ◌||◌}
use Rattle.std.proofs.lemmas.Bool.{eqb-true}
use Rattle.std.proofs.lemmas.List.Elements.{All-weaker}
use Rattle.simplex_wire.specs.declared.vote.Vote.{Vote}
use Rattle.simplex_wire.specs.declared.vote.Vote.TheVariants as votes
use Rattle.simplex_types.specs.declared.activity.Activity.{Activity}
use Rattle.simplex_types.specs.declared.activity.Activity.TheVariants as activities
use Rattle.simplex_round.specs.Votes.{vote_signer}
use Rattle.simplex_messages.specs.declared.call.Call.{Call}
use Rattle.simplex_messages.specs.declared.call.Call.TheVariants as calls
use Rattle.model_steps.specs.Batcher.{Made, Timed, step_out}
use Rattle.law_member.specs.BatcherVotes.{Accepted, Came}
use Rattle.law_member.specs.Reports.{SignedBoth, IsFounded, IsFoundedCall}
use Rattle.law_member.proofs.Steps.{calls_founded}
use Rattle.law_agreement.specs.World.{Sent}
use Rattle.law_member.specs.Evidence.{names, blames, BlameNot, AreInOrder, IsAuthentic}
use Rattle.law_member.proofs.Conflicts.{none_conflict}

-- of two that are the same neither is the member where the first is not
neither : (a b member : ℕ) → a ≡ b → (a ≡ member → ⊥) → (a == member || b == member) ≡ false
neither a b member same other = at (a == member) (b == member) (λ h. other (eqb-true a member h)) (λ h. other (same ∙ eqb-true b member h))
  where
    at : (x y : Bool) → (x ≡ true → ⊥) → (y ≡ true → ⊥) → (x || y) ≡ false
    at true y first second = absurd (first refl)
    at false true first second = absurd (second refl)
    at false false first second = refl

module _ (accepted : Vote → Type 0) (given : List Timed) (member length : ℕ) (sent : List Sent) (order : AreInOrder length sent) (own : IsAuthentic member given sent) where
  not_its : (first second : Vote) → SignedBoth accepted (Came given) first second → vote_signer first ≡ member → ⊥
  not_its first second both is =
      none_conflict length sent order first second (own first both.came_first is) (own second both.came_second (sym both.signer ∙ is)) both.view both.conflicts

  named : (activity : Activity) → IsFounded accepted (Came given) activity → names activity member ≡ false
  named (activities.Notarize v) h = refl
  named (activities.Notarization c) h = refl
  named (activities.Certification c) h = refl
  named (activities.Nullify v) h = refl
  named (activities.Nullification c) h = refl
  named (activities.Finalize v) h = refl
  named (activities.Finalization c) h = refl
  named (activities.ConflictingNotarize e) h =
      neither e.first.attestation.signer e.second.attestation.signer member h.signer (not_its (votes.Notarize e.first) (votes.Notarize e.second) h)
  named (activities.ConflictingFinalize e) h =
      neither e.first.attestation.signer e.second.attestation.signer member h.signer (not_its (votes.Finalize e.first) (votes.Finalize e.second) h)
  named (activities.NullifyFinalize e) h =
      neither e.nullify.attestation.signer e.finalize.attestation.signer member h.signer (not_its (votes.Nullify e.nullify) (votes.Finalize e.finalize) h)

  blamed : (call : Call) → IsFoundedCall accepted (Came given) call → blames call member ≡ false
  blamed (calls.Report activity) h = named activity h
  blamed (calls.Append section artifact) h = refl
  blamed (calls.Sync section) h = refl
  blamed (calls.Prune least) h = refl
  blamed (calls.Send channel to bytes) h = refl
  blamed (calls.Relay payload plan) h = refl
  blamed (calls.Block who why) h = refl

pub not_blamed : (made : Made) (past : List Timed) (given : Timed) (member length : ℕ) (sent : List Sent) → AreInOrder length sent → IsAuthentic member (given ∷ past) sent
    → BlameNot member (step_out made past given).calls
not_blamed made past given member length sent order own =
    All-weaker (IsFoundedCall (Accepted made (given ∷ past)) (Came (given ∷ past))) (λ (call : Call). blames call member ≡ false)
    (blamed (Accepted made (given ∷ past)) (given ∷ past) member length sent order own) (step_out made past given).calls (calls_founded made past given)
