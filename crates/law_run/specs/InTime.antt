-- That what a member knew at a vote had come to its node by then, told of all its votes in one list.
use Rattle.std.specs.Prelude.{ℕ, ◌≡◌, ◌++◌, List, [], ◌∷◌, map, All}
use Rattle.std.specs.List.{flat_map}
use Rattle.simplex_wire.specs.Fields.{vote_subject}
use Rattle.simplex_transcript.specs.declared.setup.Setup.{Setup}
use Rattle.model_run.specs.Life.{Noted}
use Rattle.model_run.specs.Entries.{node_of}
use Rattle.law_agreement.specs.World.{Sent, MayStand}
use Rattle.law_member.specs.Evidence.{subjects_of, AreInOrder}
use Rattle.law_run.specs.Voting.{vote_in}
use Rattle.law_run.specs.WellSent.{Came}

-- entry by entry these are the votes that the member sent, and what it knew at each had come in its entry, or before
unfoldable pub AreInTime : List Noted → ℕ → List Sent → Type 0
AreInTime [] member votes = votes ≡ []
AreInTime (noted ∷ before) member votes =
    (old : List Sent) × (now : List Sent) × (votes ≡ old ++ now)
    × (subjects_of now ≡ map vote_subject (flat_map (vote_in member) noted.entry.packets))
    × All (λ (s : Sent). All (Came (noted ∷ before) (node_of member)) s.known) now × AreInTime before member old

-- the votes of the member, each of which may stand by itself and may follow all before it, by what it knew in time
pub record AreSentInTime (setup : Setup) (noted : List Noted) (member : ℕ) : Type 0 where
  pub votes : List Sent
  pub times : AreInTime noted member votes
  pub alone : All (λ (s : Sent). MayStand setup.term s.subject s.known) votes
  pub order : AreInOrder setup.term votes
