-- A name for what a clause unfolds to compute a sample.
use Rattle.std.specs.Prelude.{⊤}
use Rattle.simplex_round.specs.Acceptance.{accused, has_nullify, heard, heard_beside, heard_from, placed, with_accepted}
use Rattle.simplex_round.specs.Assembly.{after_work, assembled_on, checked, constructed, first_work, is_candidate, is_unchecked, is_valid, subject_of, valid_on, work_if_any, work_of, work_on}
use Rattle.simplex_round.specs.Calls.{after_call, known_after}
use Rattle.simplex_round.specs.Forwarding.{forwarded_to_voter, gives_proposal, is_missing_voter, leader_proposal, missing_voters, proposal_of}
use Rattle.simplex_round.specs.Known.{ballot_of}

-- what comes of the calls of a round
unfoldable pub rounds : ⊤
unfolding ballot_of placed with_accepted accused heard_beside heard heard_from has_nullify leader_proposal proposal_of
    gives_proposal forwarded_to_voter is_missing_voter missing_voters subject_of is_candidate is_unchecked is_valid
    checked valid_on assembled_on work_on work_if_any work_of first_work constructed after_work after_call known_after
rounds = tt
