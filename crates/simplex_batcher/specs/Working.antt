-- The parts of a step's definitions, each as what one call does.
use Rattle.std.specs.Prelude.{ℕ, ◌==◌, ◌||◌, false, List, fold, Option, Some, None, Ok, unwrap_or, if◌then◌else◌}
use Rattle.std.specs.Option.{option_map, option_map_or}
use Rattle.simplex_values.specs.Terms.{is_in_window}
use Rattle.simplex_wire.specs.declared.vote.Vote.{Vote}
use Rattle.simplex_wire.specs.declared.certificate.Certificate.{Certificate}
use Rattle.simplex_round.specs.Acceptance as votes
use Rattle.simplex_round.specs.Calls as rounds
use Rattle.simplex_round.specs.Forwarding.{gives_proposal}
use Rattle.model_steps.specs.Batcher.{Made, Standing, Doing, RoundHistory, called, known_in, led, round_for, new_round, with_heard, with_round, and_marked, vote_view, certificate_view, forwarded, constructing, constructing_times, heard_vote, heard_certificate}

-- the view has this round
abbrev pub put : ℕ → RoundHistory → Standing → Standing
put view round standing = record standing { rounds = λ q. if q == view then Some round else standing.rounds q }

-- the leader that a round of the view is given
unfoldable pub lead_of : Made → Standing → ℕ → Option ℕ
lead_of made standing view =
    if view == standing.current || is_in_window made.lookahead.length made.lookahead.views standing.current view then standing.leader else None

-- the round of the view, if there is one, is given the leader
abbrev pub with_lead : Made → ℕ → Standing → Standing
with_lead made view standing =
    record standing { rounds = λ q. if q == view then option_map (led made standing view) (standing.rounds view) else standing.rounds q }

-- the round of the view, made where there is none, before it is given the leader
abbrev pub bare_round : Made → Standing → ℕ → RoundHistory
bare_round made standing view = unwrap_or (standing.rounds view) (new_round made standing view)

-- a vote from the network, by the round of its view
unfoldable pub heard_at : Made → ℕ → Vote → Doing → Doing
heard_at made sender vote doing =
    let round = round_for made doing.standing (vote_view vote) in
    with_heard (vote_view vote) (called (rounds.AddNetwork sender vote) round) (votes.heard_from (known_in round) sender vote) doing

-- an own vote, by the round of its view
unfoldable pub own_heard_at : Made → Vote → Doing → Doing
own_heard_at made vote doing =
    let round = round_for made doing.standing (vote_view vote) in
    with_heard (vote_view vote) (called (rounds.AcceptVote vote) round) (votes.heard (known_in round) vote) doing

-- the rounds of these views are given the leader
abbrev pub with_leads : Made → List ℕ → Standing → Standing
with_leads made views standing = fold (λ s view. with_lead made view s) standing views

-- every round of the admission window is given the leader
unfoldable pub with_window : Made → Standing → Standing
with_window made standing =
    record standing { rounds = λ q. if q == standing.current then standing.rounds q else option_map (led made standing q) (standing.rounds q) }

-- the round of the view, if there is one, hands on its proposal
unfoldable pub forwarded_at : Made → ℕ → Doing → Doing
forwarded_at made view doing = option_map_or (λ round. forwarded made view round doing) (doing.standing.rounds view) doing

-- the round of the view, if there is one, checks and assembles
unfoldable pub constructing_at : Made → ℕ → Doing → Doing
constructing_at made view doing = option_map_or (λ round. constructing made view round doing) (doing.standing.rounds view) doing

-- the three kinds follow each other
abbrev pub constructing_thrice : Made → ℕ → Doing → Doing
constructing_thrice made view doing = constructing_at made view (constructing_at made view (constructing_at made view doing))

-- the round of the view, if there is one, hands on its proposal, and then the three kinds follow each other
unfoldable pub worked_near : Made → ℕ → Doing → Doing
worked_near made view doing = constructing_times 3 made view (forwarded_at made view doing)

-- a certificate, by the round of its view
unfoldable pub recorded_at : Made → Certificate → Doing → Doing
recorded_at made certificate doing =
    let view = certificate_view certificate in
    let round = round_for made doing.standing view in
    and_marked (gives_proposal (known_in round) certificate) view
    (with_round view (called (rounds.RecordCertificate certificate) round) doing)

-- where an update leads, before its rounds are made
abbrev pub entered : ℕ → ℕ → ℕ → Standing → Standing
entered current leader finalized standing = record standing { current = current; leader = Some leader; finalized = finalized; hinted = false }

-- a vote that decoded
unfoldable pub decoded_vote : Made → ℕ → Vote → ℕ → Doing → Doing
decoded_vote made sender vote now doing = heard_vote made sender (Ok vote) now doing

-- a certificate that decoded
unfoldable pub decoded_certificate : Made → ℕ → Certificate → ℕ → Doing → Doing
decoded_certificate made sender certificate now doing = heard_certificate made sender (Ok certificate) now doing
