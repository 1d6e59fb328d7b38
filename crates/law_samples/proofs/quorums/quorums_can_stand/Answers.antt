use Rattle.std.proofs.Common.{◌≡◌, true, Option, Some, None, unwrap_or, refl}
use Rattle.std.specs.Option.{is_some}
use Rattle.simplex_round.specs.Acceptance.{placed, with_accepted, accused, heard_beside, heard, heard_from}
use Rattle.simplex_round.specs.Assembly.{subject_of, is_candidate, is_unchecked, is_valid, checked, valid_on, assembled_on, work_on, work_if_any, work_of, first_work, constructed, after_work}
use Rattle.simplex_round.specs.Calls.{after_call, known_after}
use Rattle.simplex_round.specs.Forwarding.{leader_proposal, proposal_of, forwarded_to_voter}
use Rattle.simplex_round.specs.Known.{ballot_of}
use Rattle.model_steps.specs.Batcher.{at_first, seen_now, retains_view, admits_view, led, new_round, round_for, leader_nullified, hinted_at_vote, hinted_at_update, with_heard, with_leader, window_views, forwarding, took_vote, took_update, forwarded, constructing, constructing_times, worked, worked_all, dropped, heard_vote, acted, finished, step, standing_after}
use Rattle.simplex_values.specs.Terms.{next_of, term_index, term_start, term_end, next_term_start, admission_limit, is_in_window, admits}
use Rattle.simplex_wire.specs.Message.{round, proposal, attestation, notarize, nullify, finalize, vote}
use Rattle.simplex_wire.specs.Number.{varint_by, number_from}
use Rattle.law_member.specs.Quorums.{taken}
use Rattle.law_samples.specs.Quorums.{batcher, two_votes, third_vote}
use Rattle.law_samples.proofs.quorums.quorums_can_stand.Goals as goal

-- what is there is what is taken from it
it_is : {A : Type 0} (o : Option A) (otherwise : A) → is_some o ≡ true → o ≡ Some (unwrap_or o otherwise)
it_is (Some it) otherwise there = refl
it_is None otherwise there = cc

is_there : is_some ((taken batcher two_votes third_vote).standing.rounds 1) ≡ true
unfolding placed with_accepted accused heard_beside heard heard_from subject_of is_candidate is_unchecked is_valid checked valid_on assembled_on work_on work_if_any work_of first_work constructed after_work after_call known_after leader_proposal proposal_of forwarded_to_voter ballot_of at_first seen_now retains_view admits_view led new_round round_for leader_nullified hinted_at_vote hinted_at_update with_heard with_leader window_views forwarding took_vote took_update forwarded constructing constructing_times worked worked_all dropped heard_vote acted finished step standing_after next_of term_index term_start term_end next_term_start admission_limit is_in_window admits round proposal attestation notarize nullify finalize vote varint_by number_from
is_there = refl

pub returns-clause-round : goal.returns-clause-round
returns-clause-round c = it_is _ _ is_there
