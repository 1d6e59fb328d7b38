-- What holds of a voter's turns.
use Rattle.std.specs.Prelude.{◌≡◌, ℕ, true, List, [], ◌∷◌, ◌++◌, map, Contains, Some, None}
use Rattle.simplex_values.specs.declared.plan.Channel.{Channel}
use Rattle.simplex_values.specs.declared.plan.Recipients.{Recipients}
use Rattle.simplex_wire.specs.declared.artifact.Artifact.TheVariants as artifacts
use Rattle.simplex_wire.specs.declared.vote.Nullify.{Nullify}
use Rattle.simplex_wire.specs.declared.vote.Vote.TheVariants as votes
use Rattle.simplex_journal.specs.Journal.{Section, replayed}
use Rattle.simplex_journal.specs.Contents.{kept}
use Rattle.simplex_messages.specs.declared.call.Call.{Call}
use Rattle.simplex_messages.specs.declared.call.Call.TheVariants as calls
use Rattle.simplex_messages.specs.declared.step.StepOut.{StepOut}
use Rattle.model_rules.specs.Known.{Made}
use Rattle.model_rules.specs.Views.{current_of}
use Rattle.model_steps.specs.VoterLife.{VoterMade, Given, Started, Stepped, Answered, place_of, start_given, step_given}
use Rattle.model_steps.specs.Engine.{EngineMade, Did, is_whole, voter_in, voter_past}
use Rattle.law_agreement.specs.Member as life
use Rattle.law_agreement.specs.Member.{newborn, run, IsLegal}
use Rattle.law_member.specs.Life.{IsFloor, IsStopped}
use Rattle.law_member.specs.Storing.{IsSigned, IsOwn, AreStoredFirst}
use Rattle.law_member.specs.Syncs.{unsynced}
use Rattle.law_member.specs.VoterVotes.{vote_packets, packet_of, votes_by_rule}
use Rattle.simplex_turns.specs.Turns.{after}
use Rattle.simplex_turns.specs.Voting.{VoterPlace, Found, Turn, finds, voter_turn, turn_outcome}

-- where something is sent, nothing that was appended before it stands unsynced
abbrev pub SendsWhatIsSynced : List Call → Type 0
SendsWhatIsSynced made =
    (before behind : List Call) (channel : Channel) (to : Recipients) (bytes : List ℕ)
    → made ≡ before ++ calls.Send channel to bytes ∷ behind → unsynced before ≡ []

-- the votes that are sent are those that the rules give for what a turn found
abbrev pub VotesByRule : VoterMade → Found → StepOut → Type 0
VotesByRule made (place, None) out = vote_packets out.calls ≡ []
VotesByRule made (place, Some input) out =
    vote_packets out.calls ≡ map packet_of
    (votes_by_rule made.rules place.now (place_of made place.past).standing input)

-- this holds of each of the turns, one after another
unfoldable pub AllSendWhatIsSynced : VoterMade → VoterPlace → List Turn → Type 0
AllSendWhatIsSynced made place [] = Unit {0}
AllSendWhatIsSynced made place (turn ∷ rest) =
    SendsWhatIsSynced (voter_turn made place turn).1.calls
    × AllSendWhatIsSynced made (voter_turn made place turn).0 rest

-- and this of each that no stop broke off
unfoldable pub AllVoteByRule : VoterMade → VoterPlace → List Turn → Type 0
AllVoteByRule made place [] = Unit {0}
AllVoteByRule made place (turn ∷ rest) =
    (is_whole (turn_outcome made place turn) ≡ true
    → VotesByRule made (finds made place turn.0) (voter_turn made place turn).1)
    × AllVoteByRule made (voter_turn made place turn).0 rest

-- ---- votes are stored before they go out

-- A journal before a start: a member has it that made legal calls since it never ran, and does not run. The own nullifies in it
-- are those that the scheme signs
pub record IsOfLife (made : Made) (sections : List Section) : Type 0 where
  pub calls : List life.Call
  pub legal : IsLegal made.term_length newborn calls
  pub stopped : IsStopped made sections (run newborn calls)
  pub signed : (v : Nullify) → Contains (replayed sections) (artifacts.Nullify v) → IsSigned made (votes.Nullify v)

-- What a voter was given since a start over such a journal, the newest first: neither the start nor a step was broken off
unfoldable pub HasLived : VoterMade → List Given → Type 0
HasLived made [] = ⊥
HasLived made (Started now stop ∷ past) =
    (past ≡ []) × IsFloor made.floor × IsOfLife made.rules made.sections
    × (is_whole (start_given made past now stop).outcome ≡ true)
HasLived made (Stepped input now stop ∷ past) =
    HasLived made past × (is_whole (step_given made past input now stop).outcome ≡ true)
HasLived made (Answered number answer ∷ past) = HasLived made past

-- so it is of the voter of an engine
abbrev pub VoterHasLived : EngineMade → List Did → Type 0
VoterHasLived made past = HasLived (voter_in made past) (voter_past past)

-- what a voter was given behind these turns
abbrev pub past_behind : VoterMade → VoterPlace → List Turn → List Given
past_behind made place did = (after (voter_turn made) place did).past

-- the view that a voter is in that was given this, and behind these turns
abbrev pub view_at : VoterMade → List Given → ℕ
view_at made past = current_of made.rules (place_of made past).standing.desk.known

abbrev pub view_behind : VoterMade → VoterPlace → List Turn → ℕ
view_behind made place did = view_at made (past_behind made place did)

-- the record of the nullify stands in the journal, synced
abbrev pub IsHeld : List Section → Nullify → Type 0
IsHeld sections v = Contains (kept sections) (artifacts.Nullify v)

-- In each of the turns whatever goes out on the vote channel is an own vote of the member, which was appended and synced before
-- it in that turn, or a nullify again, whose record stood in the journal, synced, before the turn
unfoldable pub AllStoreFirst : VoterMade → VoterPlace → List Turn → Type 0
AllStoreFirst made place [] = Unit {0}
AllStoreFirst made place (turn ∷ rest) =
    AreStoredFirst (IsHeld (place_of made place.past).sections) (IsOwn made.rules) (voter_turn made place turn).1.calls
    × AllStoreFirst made (voter_turn made place turn).0 rest
