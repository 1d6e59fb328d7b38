-- The batcher: where its inputs leave it, and what a step gives.
use Rattle.std.specs.Prelude.{ℕ, zero, suc, ◌+◌, ◌-◌, ◌==◌, nat_lt, nat_le, Bool, true, false, not, ◌&&◌, ◌||◌, if◌then◌else◌, List, [], ◌∷◌, ◌++◌, length, map, filter, Option, Some, None, unwrap_or, option_to_list, Result, Ok, Err}
use Rattle.std.specs.List.{range_with_len}
use Rattle.std.specs.Option.{is_some, option_map, option_map_or}
use Rattle.simplex_values.specs.declared.proposal.Proposal.{Proposal}
use Rattle.simplex_values.specs.declared.terms.Lookahead.{Lookahead}
use Rattle.simplex_values.specs.declared.policy.SkipPolicy.{SkipPolicy}
use Rattle.simplex_values.specs.declared.policy.SkipPolicy.TheVariants as skip
use Rattle.simplex_values.specs.declared.policy.ForwardPolicy.{ForwardPolicy}
use Rattle.simplex_values.specs.declared.policy.ForwardPolicy.TheVariants as forward
use Rattle.simplex_values.specs.declared.timeout.TimeoutReason.{TimeoutReason}
use Rattle.simplex_values.specs.declared.timeout.TimeoutReason.TheVariants.{Inactivity, LeaderNullify}
use Rattle.simplex_values.specs.declared.plan.Plan.TheVariants as plan
use Rattle.simplex_values.specs.declared.plan.Recipients.TheVariants as recipients
use Rattle.simplex_values.specs.Terms.{admission_limit, is_in_window, admits}
use Rattle.simplex_values.specs.Quorum.{quorum_of}
use Rattle.simplex_wire.specs.declared.error.DecodeError.{DecodeError}
use Rattle.simplex_wire.specs.declared.vote.Vote.{Vote}
use Rattle.simplex_wire.specs.declared.certificate.Certificate.{Certificate}
use Rattle.simplex_wire.specs.Format.{whole}
use Rattle.simplex_wire.specs.Message as format
use Rattle.simplex_wire.specs.Certified.{is_certified}
use Rattle.simplex_wire.specs.Fields.{vote_subject, certificate_subject, certificate_signatures, certificate_kind, subject_round}
use Rattle.simplex_types.specs.declared.cause.BlockCause.{BlockCause}
use Rattle.simplex_types.specs.declared.cause.BlockCause.TheVariants.{Undecodable, WrongEpoch, InvalidCertificate, InvalidSignature}
use Rattle.simplex_round.specs.declared.batch.Batch.{Batch}
use Rattle.simplex_round.specs.Known as known
use Rattle.simplex_round.specs.Acceptance as votes
use Rattle.simplex_round.specs.Assembly as assembly
use Rattle.simplex_round.specs.Forwarding as proposals
use Rattle.simplex_round.specs.Calls as rounds
use Rattle.simplex_messages.specs.declared.batcher.BatcherInput.{BatcherInput}
use Rattle.simplex_messages.specs.declared.batcher.BatcherInput.TheVariants as input
use Rattle.simplex_messages.specs.declared.batcher.Message.TheVariants as batcher
use Rattle.simplex_messages.specs.declared.voter.Message.{Message}
use Rattle.simplex_messages.specs.declared.voter.Message.TheVariants as voter
use Rattle.simplex_messages.specs.declared.handed.Handed.{Handed}
use Rattle.simplex_messages.specs.declared.handed.Handed.TheVariants as handed
use Rattle.simplex_messages.specs.declared.call.Call.{Call}
use Rattle.simplex_messages.specs.declared.call.Call.TheVariants as call
use Rattle.simplex_messages.specs.declared.step.StepOut.{StepOut}
use Rattle.simplex_messages.specs.Step.{block_call}

-- whether there is one, and it passes
abbrev pub some_passes : {A : Type 0} → (A → Bool) → Option A → Bool
some_passes test it = option_map_or test it false

abbrev pub vote_view : Vote → ℕ
vote_view vote = (subject_round (vote_subject vote)).view

abbrev pub vote_epoch : Vote → ℕ
vote_epoch vote = (subject_round (vote_subject vote)).epoch

abbrev pub certificate_view : Certificate → ℕ
certificate_view certificate = (subject_round (certificate_subject certificate)).view

abbrev pub certificate_epoch : Certificate → ℕ
certificate_epoch certificate = (subject_round (certificate_subject certificate)).epoch

-- what a batcher was made with
pub record Made : Type 0 where
  pub scheme : assembly.Scheme
  pub me : Option ℕ
  pub members : ℕ
  pub epoch : ℕ
  pub floor : ℕ
  pub retention : ℕ
  pub lookahead : Lookahead
  pub track : Bool
  pub skip : SkipPolicy
  pub forward : ForwardPolicy

-- an input and its clock. A history is a list of these, the newest first
pub record Timed : Type 0 where
  pub input : BatcherInput
  pub now : ℕ

-- a round and the calls on it
pub record RoundHistory : Type 0 where
  pub made : known.Made
  pub calls : List rounds.Call

abbrev pub known_in : RoundHistory → known.Known
known_in round = rounds.known_after round.made round.calls

abbrev pub called : rounds.Call → RoundHistory → RoundHistory
called c round = record round { calls = c ∷ round.calls }

-- where a batcher is between two steps
pub record Standing : Type 0 where
  pub current : ℕ
  pub leader : Option ℕ
  pub finalized : ℕ
  -- whether a LeaderNullify was handed on since the last update
  pub hinted : Bool
  -- when a member was seen last
  pub seen : ℕ → Option ℕ
  -- the round of a view, if there is one
  pub rounds : ℕ → Option RoundHistory

unfoldable pub at_first : Made → Standing
at_first made =
    record { current = 0; leader = None; finalized = made.floor; hinted = false; seen = λ _. None; rounds = λ _. None }

-- what a step has done so far
pub record Doing : Type 0 where
  pub standing : Standing
  -- the views to be worked, in the order marked
  pub dirty : List ℕ
  pub handed : List Handed
  pub calls : List Call

abbrev pub begun : Standing → Doing
begun standing = record { standing = standing; dirty = []; handed = []; calls = [] }

abbrev pub and_blocked : ℕ → BlockCause → Doing → Doing
and_blocked member cause doing = record doing { calls = doing.calls ++ call.Block member cause ∷ [] }

abbrev pub and_handed : Message → Doing → Doing
and_handed message doing = record doing { handed = doing.handed ++ handed.Voter message ∷ [] }

abbrev pub and_marked : Bool → ℕ → Doing → Doing
and_marked is_marked view doing = record doing { dirty = if is_marked then doing.dirty ++ view ∷ [] else doing.dirty }

-- ---- activity

unfoldable pub was_seen : Standing → ℕ → ℕ → Bool
was_seen standing since member = some_passes (nat_le since) (standing.seen member)

-- a quorum, less this member where it is one
unfoldable pub required_active : Made → ℕ
required_active made = if is_some made.me then quorum_of made.members - 1 else quorum_of made.members

unfoldable pub is_active : Made → Standing → ℕ → ℕ → ℕ → Bool
is_active made standing member timeout now =
    let since = now - timeout in
    nat_lt (length (filter (was_seen standing since) (range_with_len 0 made.members))) (required_active made)
    || was_seen standing since member

unfoldable pub seen_now : ℕ → ℕ → Standing → Standing
seen_now sender now standing =
    record standing { seen = λ member. if member == sender then Some now else standing.seen member }

-- ---- rounds

unfoldable pub retains_view : Made → Standing → ℕ → Bool
retains_view made standing view = nat_le (standing.finalized - made.retention) view

unfoldable pub admits_view : Made → Standing → ℕ → Bool
admits_view made standing view = admits made.lookahead.length made.lookahead.views standing.current view

-- the round of a view with the leader, where the view is current or in the admission window
unfoldable pub led : Made → Standing → ℕ → RoundHistory → RoundHistory
led made standing view round =
    if view == standing.current || is_in_window made.lookahead.length made.lookahead.views standing.current view
    then option_map_or (λ leader. called (rounds.SetLeader leader) round) standing.leader round
    else round

-- the round of a view, as it is made: a skipped one never assembles, and has no quorum
abbrev pub round_made : Made → ℕ → Bool → known.Made
round_made made view skipped =
    record {
      round = record { epoch = made.epoch; view = view };
      members = made.members;
      quorum = if skipped then 0 else quorum_of made.members;
      skipped = skipped;
    }

-- a new round is skipped where its view is below current and votes are not tracked
unfoldable pub new_round : Made → Standing → ℕ → RoundHistory
new_round made standing view =
    record { made = round_made made view (nat_lt view standing.current && not made.track); calls = [] }

-- the round of a view, made where there is none
unfoldable pub round_for : Made → Standing → ℕ → RoundHistory
round_for made standing view = led made standing view (unwrap_or (standing.rounds view) (new_round made standing view))

abbrev pub with_round : ℕ → RoundHistory → Doing → Doing
with_round view round doing =
    record doing {
      standing = record doing.standing { rounds = λ v. if v == view then Some round else doing.standing.rounds v };
    }

-- ---- hints

-- whether the leader's nullify of current is accepted
unfoldable pub leader_nullified : Standing → Bool
leader_nullified standing =
    some_passes (λ leader. some_passes (λ round. votes.has_nullify (known_in round) leader)
    (standing.rounds standing.current)) standing.leader

abbrev pub hinting : Made → TimeoutReason → Doing → Doing
hinting made reason doing =
    and_handed (voter.Timeout (record { epoch = made.epoch; view = doing.standing.current }) reason) doing

abbrev pub hinting_nullify : Made → Doing → Doing
hinting_nullify made doing =
    hinting made LeaderNullify (record doing { standing = record doing.standing { hinted = true } })

abbrev pub has_skipping : SkipPolicy → Bool
has_skipping skip.Disabled = false
has_skipping (skip.Enabled timeout budget) = true

-- for a vote that was accepted from the network
unfoldable pub hinted_at_vote : Made → Bool → Doing → Doing
hinted_at_vote made accepted doing =
    if accepted && has_skipping made.skip && not doing.standing.hinted && leader_nullified doing.standing
    then hinting_nullify made doing else doing

abbrev pub is_me : Made → ℕ → Bool
is_me made member = some_passes (λ me. me == member) made.me

-- for an update
unfoldable pub hinted_at_update : Made → SkipPolicy → ℕ → ℕ → Doing → Doing
hinted_at_update made skip.Disabled leader now doing = doing
hinted_at_update made (skip.Enabled timeout budget) leader now doing =
    if leader_nullified doing.standing then hinting_nullify made doing
    else if is_me made leader || is_active made doing.standing leader timeout now then doing
    else hinting made Inactivity doing

-- ---- forwarding

-- whom a proposal of the view of a round is forwarded to
unfoldable pub targets_of : Made → ForwardPolicy → ℕ → Proposal → RoundHistory → List ℕ
targets_of made forward.Disabled leader proposal round = []
targets_of made forward.SilentVoters leader proposal round =
    filter (λ member. not (is_me made member)) (proposals.missing_voters round.made (known_in round) proposal)
targets_of made forward.SilentLeader leader proposal round =
    filter (λ member. not (is_me made member) && proposals.is_missing_voter round.made (known_in round) proposal member)
    (leader ∷ [])

abbrev pub relayed : Proposal → List ℕ → List Call
relayed proposal [] = []
relayed proposal (member ∷ others) =
    call.Relay proposal.payload (plan.Forward proposal.round (recipients.Some (member ∷ others))) ∷ []

-- where the view of the proposal has a round
unfoldable pub forwarding : Made → ℕ → Option Proposal → Doing → Doing
forwarding made leader None doing = doing
forwarding made leader (Some proposal) doing =
    record doing {
      calls = doing.calls
          ++ option_map_or (λ round. relayed proposal (targets_of made made.forward leader proposal round))
          (doing.standing.rounds proposal.round.view) [];
    }

-- ---- votes

unfoldable pub with_heard : ℕ → RoundHistory → votes.Heard → Doing → Doing
with_heard view round heard doing =
    and_marked heard.accepted view
    (with_round view round
    (record doing { calls = doing.calls ++ map call.Report heard.reports ++ map block_call heard.blocks }))

-- from the network, where the viewport admits a vote of its view
unfoldable pub took_vote : Made → ℕ → Vote → Doing → Doing
took_vote made sender vote doing =
    let view = vote_view vote in
    let round = round_for made doing.standing view in
    let heard = votes.heard_from (known_in round) sender vote in
    if retains_view made doing.standing view && admits_view made doing.standing view
    then hinted_at_vote made heard.accepted (with_heard view (called (rounds.AddNetwork sender vote) round) heard doing)
    else doing

-- an own vote, where its view is retained
unfoldable pub took_constructed : Made → Vote → Doing → Doing
took_constructed made vote doing =
    let view = vote_view vote in
    let round = round_for made doing.standing view in
    if retains_view made doing.standing view
    then with_heard view (called (rounds.AcceptVote vote) round) (votes.heard (known_in round) vote) doing
    else doing

-- ---- certificates

unfoldable pub holds_kind : Standing → Certificate → Bool
holds_kind standing certificate =
    some_passes (λ round. proposals.is_held (known_in round) (certificate_kind certificate))
    (standing.rounds (certificate_view certificate))

unfoldable pub kept_certificate : Made → Certificate → Doing → Doing
kept_certificate made certificate doing =
    let view = certificate_view certificate in
    let round = round_for made doing.standing view in
    and_handed (voter.Verified certificate)
    (and_marked (proposals.gives_proposal (known_in round) certificate) view
    (with_round view (called (rounds.RecordCertificate certificate) round) doing))

-- one of a view that is not retained, or of a kind that is held for its view, is ignored
unfoldable pub took_certificate : Made → ℕ → Certificate → Doing → Doing
took_certificate made sender certificate doing =
    if not (retains_view made doing.standing (certificate_view certificate))
    || holds_kind doing.standing certificate then doing
    else if is_certified (made.scheme.verifies (certificate_subject certificate)) made.members
    (certificate_signatures certificate)
    then kept_certificate made certificate doing
    else and_blocked sender InvalidCertificate doing

-- ---- updates

-- the views of the admission window that have a round, in rising order
unfoldable pub window_views : Made → Standing → List ℕ
window_views made standing =
    filter (λ view. is_some (standing.rounds view))
    (range_with_len (standing.current + 1)
    (admission_limit made.lookahead.length made.lookahead.views standing.current - standing.current))

-- the current view has a round, and it and those of the window have the leader
unfoldable pub with_leader : Made → Standing → Standing
with_leader made standing = record standing {
  rounds = λ view.
      if view == standing.current then Some (round_for made standing view)
      else option_map (led made standing view) (standing.rounds view);
}

unfoldable pub took_update : Made → ℕ → ℕ → ℕ → Option Proposal → ℕ → Doing → Doing
took_update made current leader finalized proposal now doing =
    let standing = with_leader made (record doing.standing {
      current = current;
      leader = Some leader;
      finalized = finalized;
      hinted = false;
    }) in
    forwarding made leader proposal
    (hinted_at_update made made.skip leader now
    (record doing { standing = standing; dirty = current ∷ window_views made standing }))

-- ---- work

-- the number by which a round knows this member: one that no member has, where it is none
abbrev pub number_of : Made → ℕ
number_of made = unwrap_or made.me made.members

unfoldable pub forwarded : Made → ℕ → RoundHistory → Doing → Doing
forwarded made view round doing =
    let given = option_to_list (proposals.forwarded_to_voter (known_in round) (number_of made)) in
    with_round view (called (rounds.TryForward (number_of made)) round)
    (record doing { handed = doing.handed ++ map (λ proposal. handed.Voter (voter.Proposal proposal)) given })

abbrev pub with_batch : Option Batch → Doing → Doing
with_batch None doing = doing
with_batch (Some batch) doing = record doing {
  calls = doing.calls ++ map (λ signer. call.Block signer InvalidSignature) batch.invalid;
  handed =
      doing.handed ++ map (λ certificate. handed.Voter (voter.Verified certificate)) (option_to_list batch.certificate);
}

unfoldable pub constructing : Made → ℕ → RoundHistory → Doing → Doing
constructing made view round doing =
    with_round view (called (rounds.TryConstruct made.scheme) round)
    (with_batch (assembly.constructed round.made made.scheme (known_in round)) doing)

-- so often, on the round of a view, if there is one
unfoldable pub constructing_times : ℕ → Made → ℕ → Doing → Doing
constructing_times zero made view doing = doing
constructing_times (suc n) made view doing =
    constructing_times n made view
    (option_map_or (λ round. constructing made view round doing) (doing.standing.rounds view) doing)

-- First the round hands on its proposal. Then, where current admits the view, the kinds notarize, nullify and
-- finalize follow: each call does what there is to be done of the first kind that has anything.
unfoldable pub worked : Made → ℕ → Doing → Doing
worked made view doing =
    if nat_le view doing.standing.finalized then doing
    else
    let handing = option_map_or (λ round. forwarded made view round doing) (doing.standing.rounds view) doing in
    if admits_view made doing.standing view then constructing_times 3 made view handing else handing

unfoldable pub worked_all : Made → List ℕ → Doing → Doing
worked_all made [] doing = doing
worked_all made (view ∷ views) doing = worked_all made views (worked made view doing)

-- rounds that are not retained are dropped
unfoldable pub dropped : Made → Doing → Doing
dropped made doing =
    record doing {
      standing = record doing.standing {
        rounds = λ view. if retains_view made doing.standing view then doing.standing.rounds view else None;
      };
    }

-- ---- steps

-- bytes that do not decode, or of another epoch, block the sender
unfoldable pub heard_vote : Made → ℕ → Result Vote DecodeError → ℕ → Doing → Doing
heard_vote made sender (Err fault) now doing = and_blocked sender Undecodable doing
heard_vote made sender (Ok vote) now doing =
    if vote_epoch vote == made.epoch
    then took_vote made sender vote (record doing { standing = seen_now sender now doing.standing })
    else and_blocked sender WrongEpoch doing

unfoldable pub heard_certificate : Made → ℕ → Result Certificate DecodeError → ℕ → Doing → Doing
heard_certificate made sender (Err fault) now doing = and_blocked sender Undecodable doing
heard_certificate made sender (Ok certificate) now doing =
    if certificate_epoch certificate == made.epoch
    then took_certificate made sender certificate (record doing { standing = seen_now sender now doing.standing })
    else and_blocked sender WrongEpoch doing

unfoldable pub acted : Made → BatcherInput → ℕ → Doing → Doing
acted made (input.Mail (batcher.Update current leader finalized proposal)) now doing =
    took_update made current leader finalized proposal now doing
acted made (input.Mail (batcher.Constructed vote)) now doing = took_constructed made vote doing
acted made (input.Vote sender bytes) now doing = heard_vote made sender (whole format.vote bytes) now doing
acted made (input.Certificate sender bytes) now doing =
    heard_certificate made sender (whole format.certificate bytes) now doing

unfoldable pub finished : Made → Doing → Doing
finished made doing = dropped made (worked_all made doing.dirty doing)

unfoldable pub step : Made → Standing → Timed → Doing
step made standing given = finished made (acted made given.input given.now (begun standing))

-- where the inputs since `new` leave the batcher
unfoldable pub standing_after : Made → List Timed → Standing
standing_after made [] = at_first made
standing_after made (given ∷ before) = (step made (standing_after made before) given).standing

-- what the step with this input gives behind those
unfoldable pub step_out : Made → List Timed → Timed → StepOut
step_out made before given =
    let doing = step made (standing_after made before) given in
    record { added = []; asked = []; dropped = []; handed = doing.handed; calls = doing.calls }

-- and what `is_active` answers behind them
unfoldable pub active_after : Made → List Timed → ℕ → ℕ → ℕ → Bool
active_after made before member timeout now = is_active made (standing_after made before) member timeout now
