-- When a member votes.
use Rattle.std.specs.Prelude.{ℕ, ◌==◌, ◌&&◌, ◌||◌, nat_lt, not, Bool, true, false, List, Option, None, if◌then◌else◌}
use Rattle.std.specs.List.{list_any}
use Rattle.std.specs.Option.{option_map, option_map_or, option_and_then, is_none}
use Rattle.simplex_values.specs.declared.proposal.Proposal.{Proposal}
use Rattle.simplex_values.specs.declared.round.Round.{Round}
use Rattle.simplex_wire.specs.declared.vote.Notarize.{Notarize}
use Rattle.simplex_wire.specs.declared.vote.Nullify.{Nullify}
use Rattle.simplex_wire.specs.declared.vote.Finalize.{Finalize}
use Rattle.simplex_values.specs.declared.proposal.Subject.TheVariants as subjects
use Rattle.simplex_wire.specs.declared.vote.Vote.TheVariants as votes
use Rattle.simplex_values.specs.Terms.{next_term_start}
use Rattle.simplex_values.specs.Covers.{covers}
use Rattle.simplex_values.specs.Proposal.{is_same_proposal}
use Rattle.model_rules.specs.Known.{Made, Fact, Voted, view_of, notarization_of, finalization_of, own_notarize, has_nullified, has_finalized, was_answered, was_approved}
use Rattle.model_rules.specs.Views.{last_finalized, current_of, is_ahead}
use Rattle.model_rules.specs.Slot.{slot_of, is_own_slot}
use Rattle.model_rules.specs.Ancestry.{has_ancestry, has_true_verdict}

-- whether the member vouches for the proposal: it voted for it, made it, or the application verified it
unfoldable pub is_vouched : List Fact → Proposal → Bool
is_vouched known proposal =
    option_map_or (λ v. is_same_proposal v.proposal proposal) (own_notarize known (view_of proposal)) false
    || was_answered known proposal || was_approved known proposal

-- whether no known certificate of its view names another proposal
unfoldable pub is_unopposed : List Fact → Proposal → Bool
is_unopposed known proposal =
    option_map_or (λ n. is_same_proposal n.proposal proposal) (notarization_of known (view_of proposal)) true
    && option_map_or (λ f. is_same_proposal f.proposal proposal) (finalization_of known (view_of proposal)) true

-- whether the slot's proposal is checked
unfoldable pub is_checked : List Fact → ℕ → Bool
is_checked known view = option_map_or (λ p. is_vouched known p && is_unopposed known p) (slot_of known view) false

-- whether the member votes in the view now: the current one, one ahead of it, or its own first of the next term
unfoldable pub is_votable : Made → List Fact → ℕ → Bool
is_votable made known view =
    view == current_of made known || is_ahead made known view
    || (view == next_term_start made.term_length (current_of made known) && is_own_slot known view)

-- whether a proposal that stands in the slot of its view gets the member's vote
unfoldable pub notarizes : Made → List Fact → Proposal → Bool
notarizes made known proposal =
    is_votable made known (view_of proposal) && is_checked known (view_of proposal)
    && has_ancestry made known proposal.parent (view_of proposal)
    && is_none (own_notarize known (view_of proposal)) && not (has_nullified known (view_of proposal))

-- a view that the member gave up after the last final one, and that covers this view
abbrev pub is_gate_in : ℕ → ℕ → ℕ → Fact → Bool
is_gate_in length finalized view (Voted (votes.Nullify n)) =
    nat_lt finalized n.round.view && covers length n.round.view view
is_gate_in length finalized view _ = false

-- whether the member gave up a view that finality of this one would have to skip
unfoldable pub is_gated : Made → List Fact → ℕ → Bool
is_gated made known view = list_any (is_gate_in made.term_length (last_finalized known) view) known

-- whether the member votes for the finality of the view's slot
unfoldable pub finalizes : Made → List Fact → ℕ → Bool
finalizes made known view =
    has_true_verdict known view && nat_lt (last_finalized known) view
    && not (has_finalized known view) && not (is_gated made known view)

-- ---- the votes, with the member's attestation where its scheme gives one

unfoldable pub signed_notarize : Made → Proposal → Option Notarize
signed_notarize made proposal =
    option_map (λ a. record { proposal = proposal; attestation = a }) (made.signs (subjects.Notarize proposal))

unfoldable pub signed_nullify : Made → Round → Option Nullify
signed_nullify made round =
    option_map (λ a. record { round = round; attestation = a }) (made.signs (subjects.Nullify round))

unfoldable pub signed_finalize : Made → Proposal → Option Finalize
signed_finalize made proposal =
    option_map (λ a. record { proposal = proposal; attestation = a }) (made.signs (subjects.Finalize proposal))

unfoldable pub notarize_at : Made → List Fact → ℕ → Option Notarize
notarize_at made known view =
    option_and_then (λ p. if notarizes made known p then signed_notarize made p else None) (slot_of known view)

unfoldable pub finalize_at : Made → List Fact → ℕ → Option Finalize
finalize_at made known view =
    if finalizes made known view then option_and_then (signed_finalize made) (slot_of known view) else None

-- the nullify of the current view, first or repeated
unfoldable pub nullify_at : Made → ℕ → Option Nullify
nullify_at made view = signed_nullify made (record { epoch = made.epoch; view = view })
