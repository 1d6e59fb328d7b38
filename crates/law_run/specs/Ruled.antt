-- That the votes of a node are those that the rules give.
use Rattle.std.specs.Prelude.{◌≡◌, true, List, [], ◌∷◌, map, Option, Some}
use Rattle.simplex_wire.specs.declared.vote.Vote.{Vote}
use Rattle.simplex_transcript.specs.declared.node.Node.{Node}
use Rattle.model_steps.specs.VoterLife.{Given, Stepped, place_of}
use Rattle.model_steps.specs.Engine.{EngineMade, Did, voter_in, voter_past, given_to_voter, is_whole}
use Rattle.model_run.specs.Setting.{Setting}
use Rattle.model_run.specs.Life.{Noted, Life, Running, is_of, life_in}
use Rattle.law_member.specs.VoterVotes.{vote_packets, packet_of, votes_by_rule}

-- the votes that the rules give for what an engine's voter knew and then took; none where it took nothing
abbrev pub votes_for : EngineMade → List Did → Option Given → List Vote
votes_for made past (Some (Stepped input now stop)) =
    votes_by_rule (voter_in made past).rules now (place_of (voter_in made past) (voter_past past)).standing input
votes_for made past _ = []

-- the same of what a node did, which was where it was
abbrev pub votes_due : Life → Option Did → List Vote
votes_due (Running made past) (Some did) = votes_for made past (given_to_voter did)
votes_due _ _ = []

-- In each event of the node that no stop broke, what went out on the vote channel are the votes that the rules give
-- for what its voter knew and took in the event, in this order and each to all; where its voter took nothing, none
unfoldable pub AreByRule : Setting → Node → List Noted → Type 0
AreByRule setting node [] = Unit {0}
AreByRule setting node (noted ∷ before) =
    (is_of node noted.event ≡ true → is_whole noted.entry.outcome ≡ true
    → vote_packets noted.entry.calls ≡ map packet_of (votes_due (life_in setting before node) noted.did))
    × AreByRule setting node before
