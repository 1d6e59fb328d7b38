-- Which votes an honest member sends, and in which order.
use Rattle.std.specs.Prelude.{ℕ, ◌≡◌, ◌<◌, ◌⊎◌, List, [], ◌∷◌, map, All, Contains}
use Rattle.simplex_wire.specs.Fields.{vote_subject}
use Rattle.simplex_transcript.specs.declared.node.Node.{Node}
use Rattle.simplex_transcript.specs.declared.setup.Setup.{Setup}
use Rattle.model_run.specs.Life.{Noted}
use Rattle.model_run.specs.Members.{members_of}
use Rattle.model_run.specs.Entries.{node_of}
use Rattle.law_agreement.specs.World as agreement
use Rattle.law_agreement.specs.World.{Sent, MayStand}
use Rattle.law_member.specs.Life.{taken}
use Rattle.law_member.specs.Evidence.{subjects_of, AreInOrder}
use Rattle.law_run.specs.Faulty.{faulty_of}
use Rattle.law_run.specs.Histories.{calls_of, floors_of}
use Rattle.law_run.specs.Voting.{sent_votes}

-- the certificate came to the node: the node appended it, or was started at it
abbrev pub Came : List Noted → Node → agreement.Certificate → Type 0
Came noted node c = Contains (taken (calls_of node noted)) c ⊎ Contains (floors_of node noted) c

-- The votes that the member sent, each with the certificates that the member knew at it, which had come to its node:
-- each may stand by itself, and each may follow all that were sent before it
pub record AreWellSent (setup : Setup) (noted : List Noted) (member : ℕ) : Type 0 where
  pub votes : List Sent
  pub same : subjects_of votes ≡ map vote_subject (sent_votes noted member)
  pub came : All (λ (s : Sent). All (Came noted (node_of member)) s.known) votes
  pub alone : All (λ (s : Sent). MayStand setup.term s.subject s.known) votes
  pub order : AreInOrder setup.term votes

-- so it is of each member that is not faulty
abbrev pub EachWellSent : Setup → List Noted → Type 0
EachWellSent setup noted = (member : ℕ) → member < members_of setup
    → ¬ (Contains (faulty_of setup) member) → AreWellSent setup noted member

-- and behind each entry: so what a member knew at a vote had come to its node in the entry that sends the vote, or before
unfoldable pub AllWellSent : Setup → List Noted → Type 0
AllWellSent setup [] = Unit {0}
AllWellSent setup (noted ∷ before) = EachWellSent setup (noted ∷ before) × AllWellSent setup before
