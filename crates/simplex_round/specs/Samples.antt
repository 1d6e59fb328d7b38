-- Values for samples: four members, whose signatures are easy to read.
use Rattle.std.specs.Prelude.{ℕ, true, false, List, map, replicate}
use Rattle.std.specs.Str.{bytes_eq}
use Rattle.simplex_values.specs.declared.round.Round.{Round}
use Rattle.simplex_values.specs.declared.proposal.Proposal.{Proposal}
use Rattle.simplex_values.specs.declared.proposal.Subject.TheVariants as subjects
use Rattle.simplex_wire.specs.declared.attestation.Attestation.{Attestation}
use Rattle.simplex_wire.specs.declared.vote.Vote.{Vote}
use Rattle.simplex_wire.specs.declared.vote.Vote.TheVariants as votes
use Rattle.simplex_wire.specs.declared.certificate.Certificate.{Certificate}
use Rattle.simplex_round.specs.Votes.{certificate_on}
use Rattle.simplex_round.specs.Known.{Made}
use Rattle.simplex_round.specs.Assembly.{Scheme}

abbrev pub view_one : Round
view_one = record { epoch = 0; view = 1 }

-- a proposal of view 1 on genesis
abbrev pub block : ℕ → Proposal
block payload = record { round = view_one; parent = 0; payload = replicate 32 payload }

abbrev pub signed : ℕ → Attestation
signed member = record { signer = member; signature = replicate 32 member }

-- a signature that does not verify
abbrev pub forged : ℕ → Attestation
forged member = record { signer = member; signature = replicate 32 99 }

abbrev pub scheme : Scheme
scheme = record { verifies = λ subject a. bytes_eq a.signature (replicate 32 a.signer); recovers = true; members = 4 }

abbrev pub made : Made
made = record { round = view_one; members = 4; quorum = 3; skipped = false }

abbrev pub notarize : Proposal → Attestation → Vote
notarize p a = votes.Notarize (record { proposal = p; attestation = a })

abbrev pub nullify : Attestation → Vote
nullify a = votes.Nullify (record { round = view_one; attestation = a })

abbrev pub finalize : Proposal → Attestation → Vote
finalize p a = votes.Finalize (record { proposal = p; attestation = a })

abbrev pub notarization : Proposal → List ℕ → Certificate
notarization p members = certificate_on (subjects.Notarize p) (map signed members)

abbrev pub nullification : List ℕ → Certificate
nullification members = certificate_on (subjects.Nullify view_one) (map signed members)
