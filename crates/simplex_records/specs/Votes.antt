-- The votes that are kept of each honest member.
use Rattle.std.specs.Prelude.{◌≡◌, ℕ, Bool, true, false, List, [], length, Option, Some, None, if◌then◌else◌}
use Rattle.std.specs.List.{slice_get, list_any}
use Rattle.std.specs.Option.{unwrap_or, option_map_or}
use Rattle.std.specs.Ordering.{nat_cmp}
use Rattle.std.specs.BTreeMap as tree
use Rattle.std.specs.Result.{result_ok}
use Rattle.simplex_values.specs.declared.proposal.Subject.{Subject}
use Rattle.simplex_wire.specs.declared.vote.Vote.{Vote}
use Rattle.simplex_wire.specs.Format.{whole}
use Rattle.simplex_wire.specs.Message as format
use Rattle.simplex_wire.specs.Fields.{subject_round, vote_subject}
use Rattle.simplex_round.specs.Votes.{is_same_subject}
use Rattle.simplex_transcript.specs.declared.entry.Packet.{Packet}
use Rattle.simplex_transcript.specs.declared.setup.Setup.{Setup}
use Rattle.model_run.specs.Kinds.{members_of, is_honest, are_honest}
use Rattle.model_run.specs.Life.{Noted}
use Rattle.model_run.specs.SentVotes.{is_for_votes, has_sent}
use Rattle.simplex_records.specs.declared.subjects.Subjects.{Subjects}
use Rattle.simplex_records.specs.declared.sent_votes.SentVotes.{SentVotes}

-- the vote that the packet is, whoever sent it
abbrev pub vote_in : Packet → Option Vote
vote_in packet = if is_for_votes packet.channel then result_ok (whole format.vote packet.bytes) else None

abbrev pub subject_view : Subject → ℕ
subject_view subject = (subject_round subject).view

-- whether the vote is on the subject
abbrev pub is_on : Subject → Vote → Bool
is_on subject vote = is_same_subject (vote_subject vote) subject

-- the subjects of the view
unfoldable pub at_view : Subjects → ℕ → List Subject
at_view subjects view = unwrap_or (tree.get nat_cmp subjects.by_view view) []

unfoldable pub has_subject : Subjects → Subject → Bool
has_subject subjects subject =
    list_any (λ other. is_same_subject other subject) (at_view subjects (subject_view subject))

-- whether the member has the subject
unfoldable pub has_vote : List Subjects → ℕ → Subject → Bool
has_vote members member subject =
    option_map_or (λ subjects. has_subject subjects subject) (slice_get members member) false

-- of each honest member the subjects are kept on which it sent a vote
pub record IndexStands (votes : SentVotes) (setup : Setup) (before : List Noted) : Type 0 where
  pub base : votes.scheme.key_base ≡ setup.key_base
  pub members : votes.scheme.participants ≡ members_of setup
  pub count : length votes.members.items ≡ members_of setup
  pub sent : (member : ℕ) (subject : Subject) → is_honest setup member ≡ true
      → has_vote votes.members.items member subject ≡ has_sent before member subject

-- where no member is faulty, nobody asks for a vote, and none is kept
unfoldable pub VotesStand : Option SentVotes → Setup → List Noted → Type 0
VotesStand None setup before = are_honest setup ≡ true
VotesStand (Some votes) setup before = IndexStands votes setup before
