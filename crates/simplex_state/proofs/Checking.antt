-- Whether the slot is checked, and whether it is the member's own, by the record of its view.
use Rattle.std.proofs.Common.{◌≡◌, ℕ, ◌<◌, ◌&&◌, ◌||◌, not, Bool, true, false, List, Option, Some, None, refl, sym, arith, if◌then◌else◌}
use Rattle.std.proofs.lemmas.Grind.{common_steps}
use Rattle.std.specs.Option.{option_map, is_none, is_some}
use Rattle.simplex_values.specs.declared.proposal.Proposal.{Proposal}
use Rattle.simplex_values.specs.declared.proposal.Subject.{Subject}
use Rattle.simplex_values.specs.declared.proposal.Subject.TheVariants as subjects
use Rattle.simplex_wire.specs.declared.attestation.Attestation.{Attestation}
use Rattle.simplex_wire.specs.declared.vote.Notarize.{Notarize}
use Rattle.model_rules.specs.Known.{Made, Fact, view_of, has_nullified}
use Rattle.model_rules.specs.Slot.{slot_of, is_own_slot}
use Rattle.model_rules.specs.Ancestry.{has_ancestry}
use Rattle.model_rules.specs.Votes.{is_checked, is_vouched, is_unopposed, is_votable, notarizes, notarize_at, signed_notarize}
use Rattle.model_rules.specs.Best.{forwardable_at}
use Rattle.model_rules.proofs.Soundness.{slot_view, notarize_parts, votable_above}
use Rattle.model_rules.specs.Views.{current_of}
use Rattle.simplex_state.specs.Rounds.{round_of, slot_in, is_checked_in, is_vouched_in, own_slot_in, is_named}
use Rattle.simplex_state.specs.Stands.{IsSound}
use Rattle.simplex_state.proofs.Proposing.{slot_is}

vouched_is : (known : List Fact) (p : Proposal) → IsSound known → is_vouched known p ≡ is_vouched_in (round_of known (view_of p)) p
unfolding is_vouched is_vouched_in round_of
vouched_is known p s = grind (arith, common_steps, s.answers p, s.approvals p)

unopposed_is : (known : List Fact) (p : Proposal)
    → is_unopposed known p ≡ ((is_none (round_of known (view_of p)).notarized || is_named (round_of known (view_of p)).notarized p)
    && (is_none (round_of known (view_of p)).finalized || is_named (round_of known (view_of p)).finalized p))
unfolding is_unopposed round_of
unopposed_is known p = grind (arith, common_steps)

checked_by : (known : List Fact) (view : ℕ) (slot : Option Proposal) → slot_of known view ≡ slot → IsSound known → is_checked known view ≡ is_checked_in (round_of known view)
unfolding is_checked is_checked_in
checked_by known view None e s = grind (arith, common_steps, e, slot_is known view)
checked_by known view (Some p) e s =
    (let v = slot_view known view p e in
    grind (arith, common_steps, e, v, slot_is known view, vouched_is known p s, unopposed_is known p))

pub checked_is : (known : List Fact) (view : ℕ) → IsSound known → is_checked known view ≡ is_checked_in (round_of known view)
checked_is known view s = checked_by known view _ refl s

own_by : (known : List Fact) (view : ℕ) (slot : Option Proposal) → slot_of known view ≡ slot → IsSound known → is_own_slot known view ≡ own_slot_in (round_of known view)
unfolding is_own_slot own_slot_in
own_by known view None e s = grind (arith, common_steps, e, slot_is known view)
own_by known view (Some p) e s =
    (let v = slot_view known view p e in
    grind (arith, common_steps, e, v, slot_is known view, s.answers p))

pub own_slot_is : (known : List Fact) (view : ℕ) → IsSound known → is_own_slot known view ≡ own_slot_in (round_of known view)
own_slot_is known view s = own_by known view _ refl s

unvotable_by : (made : Made) (known : List Fact) (view : ℕ) (b : Bool) → 0 < made.term_length → view < current_of made known → is_votable made known view ≡ b → b ≡ false
unvotable_by made known view false some past e = refl
unvotable_by made known view true some past e = absurd (omega (arith, past, votable_above made known view some e))

-- a past view gets no vote
pub unvotable : (made : Made) (known : List Fact) (view : ℕ) → 0 < made.term_length → view < current_of made known → is_votable made known view ≡ false
unvotable made known view some past = unvotable_by made known view _ some past refl

-- the member's vote, by the record of the view
pub signed : (made : Made) (known : List Fact) (view : ℕ) (p : Proposal) → IsSound known → slot_of known view ≡ Some p
    → notarize_at made known view
    ≡ (if is_votable made known view && is_checked_in (round_of known view) && has_ancestry made known p.parent view && is_none (round_of known view).voted && not (has_nullified known view)
    then signed_notarize made p else None)
unfolding notarize_at notarizes round_of
signed made known view p s e =
    (let v = slot_view known view p e in
    grind (arith, common_steps, e, v, checked_is known view s))

pub slotless : (made : Made) (known : List Fact) (view : ℕ) → slot_of known view ≡ None → notarize_at made known view ≡ None
unfolding notarize_at
slotless made known view e = grind (arith, common_steps, e)

pub early : (made : Made) (known : List Fact) (view : ℕ) (slot : Option Proposal) → slot_of known view ≡ slot → is_votable made known view ≡ false → notarize_at made known view ≡ None
unfolding notarize_at notarizes
early made known view None e votable = grind (arith, common_steps, e)
early made known view (Some p) e votable =
    (let v = slot_view known view p e in grind (arith, common_steps, e, v, votable))

pub forwardable_is : (known : List Fact) (view : ℕ) → IsSound known
    → forwardable_at known view ≡ (if is_some (round_of known view).notarized && is_checked_in (round_of known view) then slot_in (round_of known view) else None)
unfolding forwardable_at round_of
forwardable_is known view s = grind (arith, common_steps, checked_is known view s, slot_is known view)

pub notarize_view : (made : Made) (known : List Fact) (view : ℕ) (n : Notarize) → notarize_at made known view ≡ Some n → view_of n.proposal ≡ view
notarize_view made known view n e = slot_view known view n.proposal (notarize_parts made known view n e).0

pub signed_is : (made : Made) (p : Proposal) (signs : Subject → Option Attestation) (vote : Option Notarize) → signs ≡ made.signs
    → vote ≡ option_map (λ a. record { proposal = p; attestation = a }) (signs (subjects.Notarize p)) → vote ≡ signed_notarize made p
unfolding signed_notarize
signed_is made p signs vote e v = rw (sym e) v
