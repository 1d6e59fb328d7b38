-- The state behind an expiry.
use Rattle.std.proofs.Common.{◌≡◌, ℕ, ◌+◌, ◌<◌, ◌==◌, Bool, true, false, List, ◌∷◌, ◌++◌, append_assoc, [], Option, Some, None, refl, sym, arith, if◌then◌else◌}
use Rattle.std.proofs.lemmas.Grind.{common_steps}
use Rattle.std.specs.BTreeMap.{BTreeMap}
use Rattle.std.specs.Option.{option_or, option_map}
use Rattle.simplex_values.specs.declared.timeout.TimeoutReason.{TimeoutReason}
use Rattle.simplex_values.specs.declared.timeout.TimeoutReason.TheVariants.{Inactivity, FailedCertification}
use Rattle.model_rules.specs.Lists.{first_of, greatest_of}
use Rattle.model_rules.specs.Known.{Made, Fact, Expired, Failed, Judged, reached, verdict_of, notarization_of, finalization_of, own_notarize, proposal_of}
use Rattle.model_rules.specs.Views.{last_finalized, current_of, entered_at}
use Rattle.model_rules.specs.Slot.{slot_of}
use Rattle.model_rules.specs.Deadline.{expired_in, failed_in, is_inactivity, expires, fails, triggered, may_skip, expiry_of, inactivity_count}
use Rattle.model_rules.specs.Calls.{takes_verdict}
use Rattle.simplex_wire.specs.declared.scheme.Scheme as scheme
use Rattle.simplex_types.specs.declared.elector.Elector as elector
use Rattle.simplex_state.specs.declared.rounds.RoundRecord.{RoundRecord}
use Rattle.simplex_state.specs.declared.progress.Progress.{Progress}
use Rattle.simplex_state.specs.declared.state.State.{State}
use Rattle.simplex_state.specs.Rounds.{round_in, learn_round}
use Rattle.simplex_state.specs.Progress.{progress_of, learn_progress}
use Rattle.simplex_state.specs.Stands.{Keeps}
use Rattle.simplex_state.proofs.Facts.{option_or-none}
use Rattle.simplex_state.proofs.Quiet.{keeps_quiet}
use Rattle.simplex_state.proofs.Sound.{sound_other, timely_step}

-- inactivity counts, and nothing else does
inactivity_learns : (made : Made) (v : ℕ) (reason : TimeoutReason) (now : ℕ) (p : Progress)
    → learn_progress made (Expired v reason now) p ≡ (if is_inactivity reason then record p { skipped = 1 + p.skipped } else p)
unfolding learn_progress
inactivity_learns made v Inactivity now p = refl
inactivity_learns made v _ now p = refl

-- within the budget
pub skips : (made : Made) (known : List Fact) (v : ℕ) (reason : TimeoutReason) → expires made known v reason ≡ true → is_inactivity reason ≡ true
    → (progress_of made known).skipped < made.skip_budget
unfolding expires may_skip progress_of
skips made known v reason e i = grind (arith, common_steps, e, i)

module _ {S L : Type 0} {g : scheme.Ghosts S} {h : elector.Ghosts L} where
  pub keeps_expired : (state : State S L g h) (made : Made) (known : List Fact) (v : ℕ) (reason : TimeoutReason) (now : ℕ) (rounds : BTreeMap ℕ RoundRecord) (progress : Progress)
      → Keeps state made known
      → progress ≡ (if is_inactivity reason then record state.progress { skipped = 1 + state.progress.skipped } else state.progress)
      → ((q : ℕ) → round_in rounds q ≡ (if v == q then record (round_in state.rounds v) { expired = option_or (round_in state.rounds v).expired (Some (now, reason)) } else round_in state.rounds q))
      → Keeps (record state { rounds = rounds; progress = progress }) made (Expired v reason now ∷ known)
  unfolding learn_round
  keeps_expired state made known v reason now rounds progress k p e =
      keeps_quiet state made (Expired v reason now) known rounds progress k refl
      (sound_other (Expired v reason now) known refl k.sound)
      (timely_step made (Expired v reason now) known (omega arith) k.timely)
      (grind (arith, p, inactivity_learns made v reason now state.progress))
      (λ q. grind (arith, common_steps, e q))

  pub keeps_failed : (state : State S L g h) (made : Made) (known : List Fact) (v : ℕ) (reason : TimeoutReason) (rounds : BTreeMap ℕ RoundRecord)
      → Keeps state made known
      → ((q : ℕ) → round_in rounds q ≡ (if v == q then record (round_in state.rounds v) { failed = option_or (round_in state.rounds v).failed (Some reason) } else round_in state.rounds q))
      → Keeps (record state { rounds = rounds }) made (Failed v reason ∷ known)
  unfolding learn_round learn_progress
  keeps_failed state made known v reason rounds k e =
      keeps_quiet state made (Failed v reason) known rounds state.progress k refl
      (sound_other (Failed v reason) known refl k.sound)
      (timely_step made (Failed v reason) known (omega arith) k.timely)
      refl
      (λ q. grind (arith, common_steps, e q))

-- a false verdict changes nothing of whether its view expires
same_current : (made : Made) (known : List Fact) (v now : ℕ) → current_of made (Judged v false now ∷ known) ≡ current_of made known
unfolding current_of greatest_of
same_current made known v now = grind (arith, common_steps)

same_entered : (made : Made) (known : List Fact) (v now : ℕ) → entered_at made (Judged v false now ∷ known) ≡ entered_at made known
unfolding entered_at reached
same_entered made known v now = grind (arith, common_steps, same_current made known v now)

same_moment : (known : List Fact) (v now c entered : ℕ)
    → option_or (first_of (expired_in c) (Judged v false now ∷ known)) (option_map (λ reason. (entered, reason)) (first_of (failed_in c) (Judged v false now ∷ known)))
    ≡ option_or (first_of (expired_in c) known) (option_map (λ reason. (entered, reason)) (first_of (failed_in c) known))
unfolding first_of
same_moment known v now c entered = rw (option_or-none (first_of (expired_in c) known), option_or-none (first_of (failed_in c) known)) refl

same_expiry : (made : Made) (known : List Fact) (v now : ℕ) → expiry_of made (Judged v false now ∷ known) ≡ expiry_of made known
unfolding expiry_of
same_expiry made known v now = rw (same_current made known v now, same_entered made known v now) (same_moment known v now (current_of made known) (entered_at made known))

same_slot : (known : List Fact) (v now view : ℕ) → slot_of (Judged v false now ∷ known) view ≡ slot_of known view
unfolding slot_of notarization_of finalization_of own_notarize proposal_of first_of
same_slot known v now view = grind (arith, common_steps, option_or-none)

same_count : (known : List Fact) (v now : ℕ) → inactivity_count (Judged v false now ∷ known) ≡ inactivity_count known
unfolding inactivity_count last_finalized greatest_of
same_count known v now = grind (arith, common_steps)

same_budget : (made : Made) (known : List Fact) (v now : ℕ) → may_skip made (Judged v false now ∷ known) ≡ may_skip made known
unfolding may_skip
same_budget made known v now = grind (arith, same_current made known v now, same_count known v now, same_slot known v now (current_of made known))

pub triggered_behind : (made : Made) (known : List Fact) (v : ℕ) (now : ℕ) (view : ℕ) (reason : TimeoutReason) (at : ℕ)
    → triggered made (Judged v false now ∷ known) view reason at ≡ triggered made known view reason at
unfolding triggered expires fails
triggered_behind made known v now view reason at = grind (arith, same_current made known v now, same_expiry made known v now, same_budget made known v now)

-- a false verdict, and the failure that it is
pub judged_bad : (P : List Fact → Type 0) (made : Made) (known : List Fact) (v : ℕ) (good : Bool) (now : ℕ) → good ≡ false
    → P (triggered made (Judged v false now ∷ known) v FailedCertification now ++ Judged v false now ∷ known)
    → P ((if good then [] else triggered made known v FailedCertification now) ++ Judged v good now ∷ known)
judged_bad P made known v good now e p = rw (e, sym (triggered_behind made known v now v FailedCertification now)) p

-- facts before one more
pub behind_one : (P : List Fact → Type 0) (facts : List Fact) (f : Fact) (known : List Fact) → P (facts ++ f ∷ known) → P ((facts ++ f ∷ []) ++ known)
behind_one P facts f known p = rw (append_assoc facts (f ∷ []) known) p

pub verdict_none : (known : List Fact) (v : ℕ) → takes_verdict known v ≡ true → verdict_of known v ≡ None
unfolding takes_verdict
verdict_none known v e = grind (arith, common_steps, e)
