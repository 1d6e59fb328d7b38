-- Members that run by themselves. No clock, no list of events and no network is common to them.
use Rattle.std.specs.Prelude.{ℕ, ◌≡◌, ◌<◌, ◌≤◌, ◌^◌, true, List, length, Contains}
use Rattle.simplex_values.specs.declared.proposal.Subject.{Subject}
use Rattle.simplex_values.specs.Quorum.{max_faulty}
use Rattle.simplex_wire.specs.declared.attestation.Attestation.{Attestation}
use Rattle.law_cluster.specs.Lives.{Group, Life, AreLives}
use Rattle.law_cluster.specs.Signatures.{Came, HasVoted}

-- what all members know, which of them are faulty, and the lives of each, the newest first
pub record Cluster : Type 0 where
  pub group : Group
  pub faulty : List ℕ
  pub lives : ℕ → List Life

-- it is one of the members, and not faulty
abbrev pub IsHonest : Cluster → ℕ → Type 0
IsHonest c member = (member < c.group.members) × ¬ (Contains c.faulty member)

-- no signature of an honest member that came to another one, or to itself, verifies on what it never sent
abbrev pub IsUnforged : Cluster → Type 0
IsUnforged c = (member : ℕ) (subject : Subject) (a : Attestation) → IsHonest c member → IsHonest c a.signer
    → Came (c.lives member) subject a → c.group.verifies subject a ≡ true → HasVoted (c.lives a.signer) subject

-- there are members, of whom few are faulty; the others live such lives, whatever comes to them; and no signature is forged
pub record IsMostlyHonest (c : Cluster) : Type 0 where
  pub some : 0 < c.group.members
  pub term : 0 < c.group.term
  pub epoch : c.group.epoch < 2 ^ 64
  pub few : length c.faulty ≤ max_faulty c.group.members
  pub lives : (member : ℕ) → IsHonest c member → AreLives c.group member (c.lives member)
  pub unforged : IsUnforged c
