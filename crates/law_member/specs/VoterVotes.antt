-- Which votes a step sends.
use Rattle.std.specs.Prelude.{ℕ, Bool, true, false, List, [], ◌++◌, map, filter, filter_map, option_to_list, Option, Some, None}
use Rattle.std.specs.Option.{option_map, option_map_or}
use Rattle.simplex_values.specs.declared.plan.Channel.TheVariants as channels
use Rattle.simplex_values.specs.declared.plan.Recipients.TheVariants as recipients
use Rattle.simplex_wire.specs.declared.vote.Vote.{Vote}
use Rattle.simplex_wire.specs.declared.vote.Vote.TheVariants as votes
use Rattle.simplex_wire.specs.Message as format
use Rattle.simplex_messages.specs.declared.call.Call.{Call}
use Rattle.simplex_messages.specs.declared.call.Call.TheVariants as calls
use Rattle.simplex_messages.specs.declared.handed.Handed.{Handed}
use Rattle.simplex_messages.specs.declared.handed.Handed.TheVariants as handed
use Rattle.simplex_messages.specs.declared.batcher.Message.TheVariants as batcher
use Rattle.simplex_messages.specs.declared.voter.VoterInput.{VoterInput}
use Rattle.simplex_messages.specs.declared.voter.VoterInput.TheVariants as inputs
use Rattle.model_rules.specs.Known.{Made, Fact, Voted}
use Rattle.model_rules.specs.Views.{current_of}
use Rattle.model_rules.specs.Votes.{notarize_at, nullify_at, finalize_at}
use Rattle.model_steps.specs.Desk.{Doing}
use Rattle.model_steps.specs.Voter.{Standing, acted}

-- ---- what goes out

abbrev pub is_vote_packet : Call → Bool
is_vote_packet (calls.Send channels.Vote to bytes) = true
is_vote_packet _ = false

-- all that a step sends on the vote channel, in order
abbrev pub vote_packets : List Call → List Call
vote_packets made = filter is_vote_packet made

-- the packet by which a vote goes to all
abbrev pub packet_of : Vote → Call
packet_of vote = calls.Send channels.Vote recipients.All (format.vote.spelling vote)

abbrev pub constructed_vote : Handed → Option Vote
constructed_vote (handed.Batcher (batcher.Constructed vote)) = Some vote
constructed_vote _ = None

-- the votes that a step hands to the batcher as own ones, in order
abbrev pub constructed_votes : List Handed → List Vote
constructed_votes messages = filter_map constructed_vote messages

abbrev pub is_nullify : Vote → Bool
is_nullify (votes.Nullify v) = true
is_nullify _ = false

-- ---- what the rules give

-- a vote of this kind, where the rule gives one
abbrev pub votes_of : {A : Type 0} → (A → Vote) → Option A → List Vote
votes_of kind given = option_to_list (option_map kind given)

-- the notarize of a view that the rule gives, and then the finalize that it gives where that notarize already counts
unfoldable pub votes_on : Made → List Fact → ℕ → List Vote
votes_on made known view =
    let notarizes = votes_of votes.Notarize (notarize_at made known view) in
    notarizes ++ votes_of votes.Finalize (finalize_at made (map Voted notarizes ++ known) view)

-- in a timer step, and in no other, the nullify of the current view
abbrev pub nullifies : Made → List Fact → VoterInput → List Vote
nullifies made known inputs.Timer = votes_of votes.Nullify (nullify_at made (current_of made known))
nullifies made known _ = []

-- the votes on the view that a step touched, by what was known once it had acted; none where it touched none
abbrev pub votes_at_end : Made → Doing × Option ℕ → List Vote
votes_at_end made (after, None) = []
votes_at_end made (after, Some view) = votes_on made after.desk.known view

-- the votes of a step: the nullify first, and then those on the touched view
unfoldable pub votes_by_rule : Made → ℕ → Standing → VoterInput → List Vote
votes_by_rule made now standing input =
    option_map_or (λ outcome. nullifies made standing.desk.known input ++ votes_at_end made outcome)
    (acted made now standing input) []
