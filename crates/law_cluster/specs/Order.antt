-- That a member keeps to what it sent, over all its lives.
use Rattle.std.specs.Prelude.{List, All}
use Rattle.law_agreement.specs.World.{Sent, MayStand}
use Rattle.law_member.specs.Evidence.{subjects_of, AreInOrder}
use Rattle.law_member.specs.Life.{AreSent}
use Rattle.law_cluster.specs.Lives.{Group, Life}
use Rattle.law_cluster.specs.Signatures.{calls_of}

-- What went out on the vote channel are these votes, each with the certificates that the member knew at it: each may stand by
-- itself, and each may follow all that were sent before it
pub record IsWellSent (group : Group) (lives : List Life) : Type 0 where
  pub votes : List Sent
  pub sent : AreSent (calls_of lives) (subjects_of votes)
  pub alone : All (λ (s : Sent). MayStand group.term s.subject s.known) votes
  pub order : AreInOrder group.term votes
