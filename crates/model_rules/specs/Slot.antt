-- The proposal that a member takes for a view's.
use Rattle.std.specs.Prelude.{ℕ, ◌&&◌, nat_lt, nat_le, not, Bool, false, List, Option}
use Rattle.std.specs.Option.{option_or, option_map, option_map_or, is_none}
use Rattle.simplex_values.specs.declared.proposal.Proposal.{Proposal}
use Rattle.simplex_values.specs.Proposal.{is_same_proposal}
use Rattle.model_rules.specs.Known.{Made, Fact, view_of, notarization_of, finalization_of, own_notarize, proposal_of, was_answered, has_nullified}
use Rattle.model_rules.specs.Views.{last_finalized, current_of, admits_vote}

-- the notarized proposal, else the finalized one, else the own vote's, else the first taken or answered
unfoldable pub slot_of : List Fact → ℕ → Option Proposal
slot_of known view =
    option_or (option_map (λ n. n.proposal) (notarization_of known view))
    (option_or (option_map (λ f. f.proposal) (finalization_of known view))
    (option_or (option_map (λ v. v.proposal) (own_notarize known view))
    (proposal_of known view)))

-- whether the slot is the application's own answer
unfoldable pub is_own_slot : List Fact → ℕ → Bool
is_own_slot known view = option_map_or (was_answered known) (slot_of known view) false

-- whether the slot of the proposal's view has another proposal
unfoldable pub is_contradicted : List Fact → Proposal → Bool
is_contradicted known proposal =
    option_map_or (λ p. not (is_same_proposal p proposal)) (slot_of known (view_of proposal)) false

-- whether a proposal from the batcher is recorded
unfoldable pub records_proposal : Made → List Fact → Proposal → Bool
records_proposal made known proposal =
    admits_vote made known (view_of proposal) && nat_lt (last_finalized known) (view_of proposal)
    && is_none (slot_of known (view_of proposal))

-- whether the application's answer for a view is recorded
unfoldable pub records_answer : Made → List Fact → ℕ → Bool
records_answer made known view =
    nat_le (current_of made known) view && is_none (slot_of known view) && not (has_nullified known view)
