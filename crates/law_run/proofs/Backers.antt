-- A run, and whose votes count in it.
use Rattle.std.proofs.Common.{ℕ, List, All, Contains, ◌⊎◌, inl, inr, refl}
use Rattle.simplex_values.specs.declared.proposal.Subject.{Subject}
use Rattle.simplex_wire.specs.declared.certificate.Certificate.{Certificate}
use Rattle.model_run.specs.Setting.{Setting}
use Rattle.model_run.specs.Life.{Noted}
use Rattle.simplex_wire.specs.declared.attestation.Attestation.{Attestation}
use Rattle.simplex_wire.specs.declared.vote.Vote.{Vote}
use Rattle.simplex_wire.specs.Fields.{vote_subject, certificate_subject, certificate_signatures}
use Rattle.law_run.specs.Faulty.{faulty_of}
use Rattle.law_run.specs.Voting.{sent_votes, HasVoted}

-- the votes of all of a run
pub record Backers : Type 0 where
  pub setting : Setting
  pub noted : List Noted

-- the member is faulty, or sent a vote on the subject
abbrev pub Counts : Backers → ℕ → Subject → Type 0
Counts backers member subject = Contains (faulty_of backers.setting.setup) member ⊎ HasVoted backers.noted member subject

-- the member is faulty, or sent this very vote
abbrev pub Spoke : Backers → ℕ → Vote → Type 0
Spoke backers member v = Contains (faulty_of backers.setting.setup) member ⊎ Contains (sent_votes backers.noted member) v

pub spoke_counts : (backers : Backers) (member : ℕ) (v : Vote) → Spoke backers member v → Counts backers member (vote_subject v)
spoke_counts backers member v (inl f) = inl f
spoke_counts backers member v (inr k) = inr (v, k, refl)

-- each signer counts
abbrev pub IsBackedIn : Backers → Certificate → Type 0
IsBackedIn backers c = All (λ (a : Attestation). Counts backers a.signer (certificate_subject c)) (certificate_signatures c)
