-- The state behind a proposal, and behind a call.
use Rattle.std.proofs.Common.{◌≡◌, ℕ, ◌≤◌, ◌==◌, true, List, ◌∷◌, ◌++◌, Option, Some, None, refl, arith, if◌then◌else◌}
use Rattle.std.proofs.lemmas.Grind.{common_steps}
use Rattle.std.specs.BTreeMap.{BTreeMap}
use Rattle.std.specs.Option.{is_none}
use Rattle.simplex_values.specs.declared.proposal.Proposal.{Proposal}
use Rattle.model_rules.specs.Known.{Made, Fact, Taken, Answered, view_of}
use Rattle.model_rules.specs.Views.{least_active, admits_vote, admits_certificate}
use Rattle.model_rules.specs.Slot.{slot_of, records_proposal}
use Rattle.model_rules.specs.Calls.{Call, known_of, facts_of}
use Rattle.simplex_wire.specs.declared.scheme.Scheme as scheme
use Rattle.simplex_types.specs.declared.elector.Elector as elector
use Rattle.simplex_state.specs.declared.rounds.RoundRecord.{RoundRecord}
use Rattle.simplex_state.specs.declared.state.State.{State}
use Rattle.simplex_state.specs.Rounds.{round_in, round_of, learn_round, slot_in}
use Rattle.simplex_state.specs.Progress.{progress_of, learn_progress}
use Rattle.simplex_state.specs.Stands.{Keeps, StandsFor}
use Rattle.simplex_state.proofs.Quiet.{keeps_quiet}
use Rattle.simplex_state.proofs.Sound.{sound_taken, sound_answered, timely_step}

-- the slot is what the record has
pub slot_is : (known : List Fact) (view : ℕ) → slot_of known view ≡ slot_in (round_of known view)
unfolding slot_of slot_in round_of
slot_is known view = refl

none_proposed : (r : RoundRecord) → is_none (slot_in r) ≡ true → r.proposed ≡ None
unfolding slot_in
none_proposed r e = grind (arith, common_steps, e)

pub records_active : (made : Made) (known : List Fact) (p : Proposal) → records_proposal made known p ≡ true
    → (progress_of made known).pruned ≤ least_active made known → (progress_of made known).pruned ≤ view_of p
unfolding records_proposal admits_vote admits_certificate
records_active made known p e a = grind (arith, common_steps, e, a)

pub records_empty : (made : Made) (known : List Fact) (p : Proposal) → records_proposal made known p ≡ true → is_none (slot_in (round_of known (view_of p))) ≡ true
unfolding records_proposal
records_empty made known p e = grind (arith, common_steps, e, slot_is known (view_of p))

module _ {S L : Type 0} {g : scheme.Ghosts S} {h : elector.Ghosts L} where
  pub keeps_taken : (state : State S L g h) (made : Made) (known : List Fact) (p : Proposal) (rounds : BTreeMap ℕ RoundRecord)
      → Keeps state made known
      → (progress_of made known).pruned ≤ view_of p
      → is_none (slot_in (round_of known (view_of p))) ≡ true
      → ((q : ℕ) → round_in rounds q ≡ (if view_of p == q then record (round_in state.rounds (view_of p)) { proposed = Some p } else round_in state.rounds q))
      → Keeps (record state { rounds = rounds }) made (Taken p ∷ known)
  unfolding learn_round learn_progress
  keeps_taken state made known p rounds k active none e =
      keeps_quiet state made (Taken p) known rounds state.progress k refl
      (sound_taken known p (none_proposed _ none) k.sound)
      (timely_step made (Taken p) known (omega arith) k.timely)
      refl
      (λ q. grind (arith, common_steps, e q, k.rounds (view_of p) active, none_proposed (round_of known (view_of p)) none))

  pub keeps_answered : (state : State S L g h) (made : Made) (known : List Fact) (p : Proposal) (rounds : BTreeMap ℕ RoundRecord)
      → Keeps state made known
      → (progress_of made known).pruned ≤ view_of p
      → is_none (slot_in (round_of known (view_of p))) ≡ true
      → ((q : ℕ) → round_in rounds q ≡ (if view_of p == q then record (round_in state.rounds (view_of p)) { proposed = Some p; answered = true } else round_in state.rounds q))
      → Keeps (record state { rounds = rounds }) made (Answered p ∷ known)
  unfolding learn_round learn_progress
  keeps_answered state made known p rounds k active none e =
      keeps_quiet state made (Answered p) known rounds state.progress k refl
      (sound_answered known p (none_proposed _ none) k.sound)
      (timely_step made (Answered p) known (omega arith) k.timely)
      refl
      (λ q. grind (arith, common_steps, e q, k.rounds (view_of p) active, none_proposed (round_of known (view_of p)) none))

  -- a call that adds these facts
  pub takes_facts : (state : State S L g h) (made : Made) (calls : List Call) (call : Call) (facts : List Fact)
      → facts_of made (known_of made calls) call ≡ facts
      → Keeps state made (facts ++ known_of made calls)
      → StandsFor state made (call ∷ calls)
  unfolding StandsFor known_of
  takes_facts state made calls call facts e k = rw e k
