use Rattle.std.proofs.Common.{◌≡◌, ℕ, Bool, true, false, [], ◌∷◌, refl}
use Rattle.simplex_wire.specs.declared.vote.Vote.{Vote}
use Rattle.model_steps.specs.Batcher.{at_first, seen_now, retains_view, admits_view, led, new_round, round_for, leader_nullified, hinted_at_vote, with_heard, took_vote, forwarded, constructing, constructing_times, worked, worked_all, dropped, heard_vote, acted, finished, step, standing_after, step_out}
use Rattle.simplex_round.specs.Acceptance.{placed, with_accepted, accused, heard_beside, heard, heard_from}
use Rattle.simplex_round.specs.Assembly.{subject_of, is_candidate, is_unchecked, is_valid, checked, valid_on, assembled_on, work_on, work_if_any, work_of, first_work, constructed, after_work}
use Rattle.simplex_round.specs.Calls.{after_call, known_after}
use Rattle.simplex_round.specs.Forwarding.{leader_proposal, proposal_of, forwarded_to_voter}
use Rattle.simplex_round.specs.Known.{ballot_of}
use Rattle.simplex_values.specs.Terms.{next_of, term_index, term_start, term_end, next_term_start, admission_limit, is_in_window, admits}
use Rattle.simplex_wire.specs.Message.{round, proposal, attestation, notarize, nullify, finalize, vote}
use Rattle.simplex_wire.specs.Number.{varint_by, number_from}
use Rattle.law_agreement.specs.WorldExamples.{first, rival, round_of}
use Rattle.law_member.specs.EvidenceSamples as sample
use Rattle.law_member.specs.EvidenceSamples.{four, arrived, blame}
use Rattle.law_member.proofs.evidence_samples.conflicting_votes_are_reported.Goals as goal

-- whether the step that takes the second vote behind the first names the member
abbrev named : Vote → Vote → ℕ → Bool
named one other member = blame (step_out four (arrived one ∷ []) (arrived other)).calls member

computed : (named (sample.notarize first) (sample.notarize rival) 1 ≡ true) × (named (sample.finalize first) (sample.finalize rival) 1 ≡ true)
    × (named (sample.nullify (round_of 1)) (sample.finalize first) 1 ≡ true) × (named (sample.finalize first) (sample.nullify (round_of 1)) 1 ≡ true)
    × (named (sample.notarize first) (sample.notarize rival) 2 ≡ false)
unfolding at_first seen_now retains_view admits_view led new_round round_for leader_nullified hinted_at_vote with_heard took_vote forwarded constructing constructing_times worked worked_all dropped heard_vote acted finished step standing_after step_out placed with_accepted accused heard_beside heard heard_from subject_of is_candidate is_unchecked is_valid checked valid_on assembled_on work_on work_if_any work_of first_work constructed after_work after_call known_after leader_proposal proposal_of forwarded_to_voter ballot_of next_of term_index term_start term_end next_term_start admission_limit is_in_window admits round proposal attestation notarize nullify finalize vote varint_by number_from
computed = (refl, refl, refl, refl, refl)

pub returns-clause-notarizes : goal.returns-clause-notarizes
returns-clause-notarizes c = computed.0

pub returns-clause-finalizes : goal.returns-clause-finalizes
returns-clause-finalizes c = computed.1

pub returns-clause-nullified : goal.returns-clause-nullified
returns-clause-nullified c = computed.2

pub returns-clause-finalized : goal.returns-clause-finalized
returns-clause-finalized c = computed.3

pub returns-clause-no_other : goal.returns-clause-no_other
returns-clause-no_other c = computed.4
