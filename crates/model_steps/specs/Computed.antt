-- Names for what a clause unfolds to compute a sample: an attribute cites one of them, and each cites those below it.
use Rattle.std.specs.Prelude.{⊤}
use Rattle.model_resolver.specs.Computed.{resolver}
use Rattle.model_rules.specs.Computed.{rules, values, wire}
use Rattle.model_steps.specs.Batcher.{acted as batcher_acted, active_after, admits_view, at_first, constructing, constructing_times, dropped, finished as batcher_finished, forwarded, forwarding, heard_certificate, heard_vote, hinted_at_update, hinted_at_vote, holds_kind, is_active, kept_certificate, leader_nullified, led, new_round, required_active, retains_view, round_for, seen_now, standing_after, step, step_out, targets_of, took_certificate, took_constructed, took_update, took_vote, was_seen, window_views, with_heard, with_leader, worked, worked_all}
use Rattle.model_steps.specs.Engine.{batcher_mail, batcher_past, begun, blocked_in, by_batcher, by_resolver, heard as engine_heard, let_in, resolver_mail, resolver_past, runs, sections_of, started_at, stepped as engine_stepped, takes_reply, voter_mail, voter_past}
use Rattle.model_steps.specs.Performed.{after_calls, journal_place, performed, stop_place}
use Rattle.model_steps.specs.Voter.{act_on_certificate, act_on_certify, act_on_deadline, act_on_mail, act_on_proposal, act_on_verify, acted as voter_acted, answered, begin_iteration, end_of_step, finished as voter_finished, first_answered, give_up, open_requests, propose, prune, publish_finalization, publish_notarization, publish_nullification, publish_nullify, publish_verdict, replay_all, replay_record, stage, started, stepped as voter_stepped, takes_answer, update_batcher, vote_finalize, vote_notarize}
use Rattle.model_steps.specs.VoterLife.{place_of, start_given, start_performed, step_given}
use Rattle.simplex_messages.specs.Turns.{waits_after}
use Rattle.simplex_round.specs.Acceptance.{accused, has_nullify, heard as acceptance_heard, heard_beside, heard_from, placed, with_accepted}
use Rattle.simplex_round.specs.Assembly.{after_work, assembled_on, checked, constructed, first_work, is_candidate, is_unchecked, is_valid, subject_of, valid_on, work_if_any, work_of, work_on}
use Rattle.simplex_round.specs.Ballots.{marked}
use Rattle.simplex_round.specs.Calls.{after_call, known_after}
use Rattle.simplex_round.specs.Forwarding.{forwarded_to_voter, gives_proposal, is_missing_voter, leader_proposal, missing_voters, proposal_of}
use Rattle.simplex_round.specs.Known.{ballot_of}

-- what computes the steps of a resolver, and what an engine holds for it
unfoldable pub resolver_steps : ⊤
unfolding resolver batcher_mail batcher_past begun blocked_in by_batcher by_resolver engine_heard let_in resolver_mail
    resolver_past runs sections_of started_at engine_stepped takes_reply voter_mail voter_past waits_after
resolver_steps = tt

-- what computes the steps of a voter
unfoldable pub voter_steps : ⊤
unfolding rules wire after_calls journal_place performed stop_place act_on_certificate act_on_certify act_on_deadline
    act_on_mail act_on_proposal act_on_verify voter_acted answered begin_iteration end_of_step voter_finished
    first_answered give_up open_requests propose prune publish_finalization publish_notarization publish_nullification
    publish_nullify publish_verdict replay_all replay_record stage started voter_stepped takes_answer update_batcher
    vote_finalize vote_notarize
voter_steps = tt

-- what computes the steps of a batcher
unfoldable pub batcher_steps : ⊤
unfolding values wire batcher_acted active_after admits_view at_first constructing constructing_times dropped
    batcher_finished forwarded forwarding heard_certificate heard_vote hinted_at_update hinted_at_vote holds_kind
    is_active kept_certificate leader_nullified led new_round required_active retains_view round_for seen_now
    standing_after step step_out targets_of took_certificate took_constructed took_update took_vote was_seen
    window_views with_heard with_leader worked worked_all accused has_nullify acceptance_heard heard_beside heard_from
    placed with_accepted after_work assembled_on checked constructed first_work is_candidate is_unchecked is_valid
    subject_of valid_on work_if_any work_of work_on marked after_call known_after forwarded_to_voter gives_proposal
    is_missing_voter leader_proposal missing_voters proposal_of ballot_of
batcher_steps = tt

-- what computes the steps of a whole engine
unfoldable pub steps : ⊤
unfolding rules resolver voter_steps batcher_steps batcher_mail batcher_past begun blocked_in by_batcher by_resolver
    engine_heard let_in resolver_mail resolver_past runs sections_of started_at engine_stepped takes_reply voter_mail
    voter_past place_of start_given start_performed step_given
steps = tt
