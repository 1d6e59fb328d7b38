-- Names for what a clause unfolds to compute a sample: an attribute cites one of them, and each cites those below it.
use Rattle.std.specs.Prelude.{⊤}
use Rattle.model_rules.specs.Ancestry.{gap_between, greatest_parent, has_ancestry, has_false_verdict, has_true_verdict, is_certified as ancestry_is_certified, is_covered, is_met, payload_at}
use Rattle.model_rules.specs.Best.{best_certificate, forwardable_at, opening_nullification}
use Rattle.model_rules.specs.Calls.{add_finalization_answer, add_notarization_answer, adds_finalization, adds_notarization, adds_nullification, certified_answer, construct_nullify_answer, contradicted_leader, facts_of, judged, known_of, prune_answer, takes_verdict, unsent_finalization, unsent_notarization, unsent_nullification}
use Rattle.model_rules.specs.Deadline.{deadline_of, expires, expiry_of, fails, first_deadline, inactivity_count, may_skip, own_moment, published_at, stall_moment, triggered}
use Rattle.model_rules.specs.Known.{finalization_of, has_finalized, has_nullified, notarization_of, nullification_of, own_notarize, proposal_of, reached, verdict_of, was_answered, was_approved, was_broadcast}
use Rattle.model_rules.specs.Lists.{first_of, greatest_below, greatest_of, last_of}
use Rattle.model_rules.specs.Pending.{abandon_handoff, certifying, drop_certify, drop_proposal, drop_verify, end_waiting, iterated, open_proposal, open_verify, put_number, reconciled}
use Rattle.model_rules.specs.Repair.{covering_nullification, effects_of, fetched_by, final_view, finalization_held, finalized_by, gaps_of, is_failed, is_final, is_first_above, is_gap, is_good, is_key_settled, is_nullified, is_settled, is_uncertifiable, notarization_held, nullification_held, produced, raised_by, repair_floor, settled_by, top_of}
use Rattle.model_rules.specs.Requests.{admitted_views, certify_requests, context_at, is_abandoned, is_founded, is_superseded, is_unjudged, lacks_parent, leader_of, may_certify, may_propose, missing_below, missing_verify, needs_handoff, notarizations_of, parent_fetches, proposal_request, proposal_view, put_notarization, ready_verify, request_at, request_on, resolve_of, verify_asked, verify_of, verify_request, wants_verify, was_proposal_asked}
use Rattle.model_rules.specs.Slot.{is_contradicted, is_own_slot, records_answer, records_proposal, slot_of}
use Rattle.model_rules.specs.Views.{admits_certificate, admits_vote, current_of, entered_at, finalized_at, is_ahead, last_finalized, least_active, term_entered_at}
use Rattle.model_rules.specs.Votes.{finalize_at, finalizes, is_checked, is_gated, is_unopposed, is_votable, is_vouched, notarize_at, notarizes, nullify_at, signed_finalize, signed_notarize, signed_nullify}
use Rattle.simplex_values.specs.Covers.{covers}
use Rattle.simplex_values.specs.Terms.{admission_limit, admits, is_in_window, next_of, next_term_start, term_end, term_index, term_start}
use Rattle.simplex_wire.specs.Artifact.{artifact, certification, flag}
use Rattle.simplex_wire.specs.Certified.{is_certified as certified_is_certified}
use Rattle.simplex_wire.specs.Message.{attestation, attestation_from, attestations_from, certificate, finalization, finalize, notarization, notarize, nullification, nullify, proposal, round, signatures, vote}
use Rattle.simplex_wire.specs.Number.{number_from, varint_by}
use Rattle.simplex_wire.specs.ResolverMessage.{body, resolver_message}

-- what computes plain values
unfoldable pub values : ⊤
unfolding covers admission_limit admits is_in_window next_of next_term_start term_end term_index term_start
values = tt

-- what computes the bytes of messages, and who signed them
unfoldable pub wire : ⊤
unfolding artifact certification flag certified_is_certified attestation attestation_from attestations_from certificate
    finalization finalize notarization notarize nullification nullify proposal round signatures vote number_from
    varint_by body resolver_message
wire = tt

-- what computes which certificates a member lacks
unfoldable pub repairs : ⊤
unfolding values first_of greatest_below greatest_of last_of covering_nullification effects_of fetched_by final_view
    finalization_held finalized_by gaps_of is_failed is_final is_first_above is_gap is_good is_key_settled is_nullified
    is_settled is_uncertifiable notarization_held nullification_held produced raised_by repair_floor settled_by top_of
repairs = tt

-- what computes all rules of a member
unfoldable pub rules : ⊤
unfolding repairs gap_between greatest_parent has_ancestry has_false_verdict has_true_verdict ancestry_is_certified
    is_covered is_met payload_at best_certificate forwardable_at opening_nullification add_finalization_answer
    add_notarization_answer adds_finalization adds_notarization adds_nullification certified_answer
    construct_nullify_answer contradicted_leader facts_of judged known_of prune_answer takes_verdict unsent_finalization
    unsent_notarization unsent_nullification deadline_of expires expiry_of fails first_deadline inactivity_count
    may_skip own_moment published_at stall_moment triggered finalization_of has_finalized has_nullified notarization_of
    nullification_of own_notarize proposal_of reached verdict_of was_answered was_approved was_broadcast abandon_handoff
    certifying drop_certify drop_proposal drop_verify end_waiting iterated open_proposal open_verify put_number
    reconciled admitted_views certify_requests context_at is_abandoned is_founded is_superseded is_unjudged lacks_parent
    leader_of may_certify may_propose missing_below missing_verify needs_handoff notarizations_of parent_fetches
    proposal_request proposal_view put_notarization ready_verify request_at request_on resolve_of verify_asked verify_of
    verify_request wants_verify was_proposal_asked is_contradicted is_own_slot records_answer records_proposal slot_of
    admits_certificate admits_vote current_of entered_at finalized_at is_ahead last_finalized least_active
    term_entered_at finalize_at finalizes is_checked is_gated is_unopposed is_votable is_vouched notarize_at notarizes
    nullify_at signed_finalize signed_notarize signed_nullify
rules = tt
