-- Whom evidence in a cluster does not name.
use Rattle.std.specs.Prelude.{ℕ, ◌≡◌, List, Contains, Ok}
use Rattle.simplex_values.specs.declared.plan.Channel.TheVariants as channels
use Rattle.simplex_wire.specs.declared.vote.Vote.{Vote}
use Rattle.simplex_wire.specs.Fields.{vote_subject, vote_signer}
use Rattle.simplex_wire.specs.Format.{whole}
use Rattle.simplex_wire.specs.Message as format
use Rattle.model_steps.specs.Engine.{Did, Heard}
use Rattle.law_member.specs.Evidence.{BlameNot}
use Rattle.law_cluster.specs.Lives.{Life}
use Rattle.law_cluster.specs.Signatures.{calls_of, HasVoted}
use Rattle.law_cluster.specs.Cluster.{Cluster, IsHonest}

-- a packet of the member is this vote, with its sender for the signer
pub record IsVoteFrom (lives : List Life) (sender : ℕ) (v : Vote) : Type 0 where
  pub life : Life
  pub lived : Contains lives life
  pub did : Did
  pub done : Contains life.past did
  pub bytes : List ℕ
  pub taken : did.taken ≡ Heard sender channels.Vote bytes
  pub read : whole format.vote bytes ≡ Ok v
  pub own : sender ≡ vote_signer v

-- what comes to an honest member under the name of another one is what this sent
abbrev pub IsAuthentic : Cluster → Type 0
IsAuthentic c = (member sender : ℕ) (v : Vote) → IsHonest c member → IsHonest c sender
    → IsVoteFrom (c.lives member) sender v → HasVoted (c.lives sender) (vote_subject v)

-- no evidence that an honest member reports names an honest one
abbrev pub IsBlameless : Cluster → Type 0
IsBlameless c = (member other : ℕ) → IsHonest c member → IsHonest c other → BlameNot other (calls_of (c.lives member))
