-- The state behind a proposal that was verified.
use Rattle.std.proofs.Common.{◌≡◌, ℕ, ◌≤◌, ◌==◌, true, List, [], ◌∷◌, ◌++◌, Option, Some, None, refl, ap, ◌∙◌, arith, if◌then◌else◌}
use Rattle.std.proofs.lemmas.Grind.{common_steps}
use Rattle.std.specs.BTreeMap.{BTreeMap}
use Rattle.std.specs.Option.{is_some}
use Rattle.simplex_values.specs.declared.proposal.Proposal.{Proposal}
use Rattle.model_rules.specs.Lists.{first_of}
use Rattle.model_rules.specs.Known.{Made, Fact, Approved, VerifyAsked, view_of}
use Rattle.model_rules.specs.Requests.{verify_asked, verify_in}
use Rattle.model_rules.specs.Calls.{fact_of}
use Rattle.simplex_wire.specs.declared.scheme.Scheme as scheme
use Rattle.simplex_types.specs.declared.elector.Elector as elector
use Rattle.simplex_state.specs.declared.rounds.RoundRecord.{RoundRecord}
use Rattle.simplex_state.specs.declared.state.State.{State}
use Rattle.simplex_state.specs.Rounds.{round_in, round_of, learn_round}
use Rattle.simplex_state.specs.Progress.{progress_of, learn_progress}
use Rattle.simplex_state.specs.Stands.{Keeps}
use Rattle.simplex_state.proofs.Quiet.{keeps_quiet_above}
use Rattle.simplex_state.proofs.Recording.{keeps_same}
use Rattle.simplex_state.proofs.Sound.{sound_approved, timely_step}

-- a proposal that was given to verify is of its view
asked_in : (view : ℕ) (f : Fact) (p : Proposal) → verify_in view f ≡ Some p → view_of p ≡ view
asked_in view (VerifyAsked q) p e = grind (arith, common_steps, e)
asked_in view _ p e = cc

asked_view : (known : List Fact) (view : ℕ) (p : Proposal) → first_of (verify_in view) known ≡ Some p → view_of p ≡ view
unfolding first_of
asked_view [] view p e = cc
asked_view (f ∷ known) view p e = grind (arith, common_steps, e, asked_view known view p, asked_in view f p)

module _ {S L : Type 0} {g : scheme.Ghosts S} {h : elector.Ghosts L} where
  verified_by : (state : State S L g h) (made : Made) (known : List Fact) (view : ℕ) (rounds : BTreeMap ℕ RoundRecord) (asked : Option Proposal)
      → verify_asked known view ≡ asked
      → Keeps state made known
      → ((q : ℕ) → (progress_of made known).pruned ≤ q → round_in rounds q ≡ (if view == q then (if is_some asked then record (round_in state.rounds q) { approved = true } else round_in state.rounds q) else round_in state.rounds q))
      → Keeps (record state { rounds = rounds }) made (fact_of Approved asked ++ known)
  unfolding learn_round learn_progress verify_asked round_of
  verified_by state made known view rounds None e k rounds_are =
      keeps_same state made known rounds state.waiting k
      (λ q low. grind (arith, common_steps, rounds_are q low))
      (λ q some waits. k.waiting q some waits)
  verified_by state made known view rounds (Some p) e k rounds_are = (
      let v = asked_view known view p e in
      keeps_quiet_above state made (Approved p) known rounds state.progress k refl
      (sound_approved known p (ap (verify_asked known) v ∙ e) k.sound)
      (timely_step made (Approved p) known (omega arith) k.timely)
      refl
      (λ q low. grind (arith, common_steps, rounds_are q low, v)))

  -- the proposal that was asked to be verified is approved, where its record is still held
  pub keeps_verified : (state : State S L g h) (made : Made) (known : List Fact) (view : ℕ) (rounds : BTreeMap ℕ RoundRecord)
      → Keeps state made known
      → ((q : ℕ) → (progress_of made known).pruned ≤ q → round_in rounds q ≡ (if view == q then (if is_some (round_in state.rounds view).asked then record (round_in state.rounds q) { approved = true } else round_in state.rounds q) else round_in state.rounds q))
      → Keeps (record state { rounds = rounds }) made (fact_of Approved (verify_asked known view) ++ known)
  unfolding round_of
  keeps_verified state made known view rounds k rounds_are =
      verified_by state made known view rounds (verify_asked known view) refl k
      (λ q low. grind (arith, common_steps, rounds_are q low, k.rounds view))
