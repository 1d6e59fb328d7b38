-- Small messages to try the policies on.
use Rattle.std.specs.Prelude.{ℕ, false, List, [], ◌∷◌, fold}
use Rattle.simplex_values.specs.declared.round.Round.{Round}
use Rattle.simplex_values.specs.declared.proposal.Proposal.{Proposal}
use Rattle.simplex_wire.specs.declared.certificate.Certificate.{Certificate}
use Rattle.simplex_wire.specs.declared.certificate.Certificate.TheVariants as certificates
use Rattle.simplex_wire.specs.declared.vote.Vote.{Vote}
use Rattle.simplex_wire.specs.declared.vote.Vote.TheVariants as votes
use Rattle.simplex_wire.specs.declared.attestation.Attestation.{Attestation}
use Rattle.simplex_mailbox.specs.Waiting.{Waiting, nothing, in_turn}

abbrev pub round : ℕ → Round
round view = record { epoch = 0; view = view }

-- the proposal of a view, on the view before
abbrev pub proposal : ℕ → ℕ → Proposal
proposal view parent = record { round = round view; parent = parent; payload = view ∷ [] }

abbrev pub own : Attestation
own = record { signer = 0; signature = [] }

abbrev pub nullify : ℕ → Vote
nullify view = votes.Nullify (record { round = round view; attestation = own })

abbrev pub finalize : Proposal → Vote
finalize p = votes.Finalize (record { proposal = p; attestation = own })

abbrev pub nullification : ℕ → Certificate
nullification view = certificates.Nullification (record { round = round view; certificate = [] })

abbrev pub finalization : Proposal → Certificate
finalization p = certificates.Finalization (record { proposal = p; certificate = [] })

-- what waits when these came and there was no room
abbrev pub waits : {M : Type 0} → (handle : Waiting M → M → Waiting M) → List M → Waiting M
waits handle messages = fold handle nothing messages

-- and in which order it goes
abbrev pub goes : {M : Type 0} → (handle : Waiting M → M → Waiting M) → List M → List M
goes handle messages = in_turn (λ _. false) (waits handle messages)
