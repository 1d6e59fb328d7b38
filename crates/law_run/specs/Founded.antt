-- Which proposals a member that is not faulty notarized.
use Rattle.std.specs.Prelude.{ℕ, ◌≡◌, ◌<◌, ◌⊎◌, List, Contains}
use Rattle.simplex_values.specs.declared.proposal.Proposal.{Proposal}
use Rattle.simplex_values.specs.declared.proposal.Subject.{Subject}
use Rattle.simplex_values.specs.declared.proposal.Subject.TheVariants as subjects
use Rattle.simplex_transcript.specs.declared.setup.Setup.{Setup}
use Rattle.model_run.specs.Life.{Noted}
use Rattle.model_run.specs.Members.{members_of}
use Rattle.model_run.specs.Entries.{node_of}
use Rattle.law_member.specs.Life.{voted}
use Rattle.law_run.specs.Faulty.{faulty_of}
use Rattle.law_run.specs.Histories.{calls_of}
use Rattle.law_run.specs.Voting.{HasVoted}

-- it notarizes the proposal, or makes it final
abbrev pub IsOn : Subject → Proposal → Type 0
IsOn s p = (s ≡ subjects.Notarize p) ⊎ (s ≡ subjects.Finalize p)

-- a member that is not faulty appended its own notarize of the proposal, and sent it
pub record IsNotarized (setup : Setup) (noted : List Noted) (p : Proposal) : Type 0 where
  pub member : ℕ
  pub below : member < members_of setup
  pub honest : ¬ (Contains (faulty_of setup) member)
  pub appended : Contains (voted (calls_of (node_of member) noted)) (subjects.Notarize p)
  pub sent : HasVoted noted member (subjects.Notarize p)
