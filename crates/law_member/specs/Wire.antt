-- When channels are authentic: what comes under a member's name is what the member sent.
use Rattle.std.specs.Prelude.{ℕ, ◌≡◌, List, All, Contains}
use Rattle.simplex_values.specs.declared.plan.Channel.TheVariants as channels
use Rattle.simplex_values.specs.declared.plan.Recipients.{Recipients}
use Rattle.simplex_values.specs.declared.proposal.Subject.{Subject}
use Rattle.simplex_values.specs.declared.proposal.Subject.TheVariants as subjects
use Rattle.simplex_wire.specs.Fits.{FitsRound, FitsProposal}
use Rattle.simplex_round.specs.Votes.{vote_signer}
use Rattle.simplex_messages.specs.declared.batcher.BatcherInput.{BatcherInput}
use Rattle.simplex_messages.specs.declared.batcher.BatcherInput.TheVariants as input
use Rattle.simplex_messages.specs.declared.batcher.Message.TheVariants as batcher
use Rattle.simplex_messages.specs.declared.call.Call.{Call}
use Rattle.simplex_messages.specs.declared.call.Call.TheVariants as calls
use Rattle.simplex_messages.specs.declared.handed.Handed.{Handed}
use Rattle.simplex_messages.specs.declared.handed.Handed.TheVariants as handed
use Rattle.model_steps.specs.Batcher.{Timed}

-- its numbers keep to their types, and a payload has 32 bytes
abbrev pub Fits : Subject → Type 0
Fits (subjects.Notarize p) = FitsProposal p
Fits (subjects.Nullify r) = FitsRound r
Fits (subjects.Finalize p) = FitsProposal p

-- one of these calls sent the bytes on the vote channel
abbrev pub WentOut : List Call → List ℕ → Type 0
WentOut made bytes = (to : Recipients) × Contains made (calls.Send channels.Vote to bytes)

-- A packet of the member on the vote channel is one that these calls of it sent, and an own vote with the member as its
-- signer is one that the member's voter handed on. Of other inputs nothing is asked.
abbrev pub IsItsOwn : ℕ → List Call → List Handed → BatcherInput → Type 0
IsItsOwn member made given (input.Vote sender bytes) = sender ≡ member → WentOut made bytes
IsItsOwn member made given (input.Mail (batcher.Constructed own)) =
    vote_signer own ≡ member → Contains given (handed.Batcher (batcher.Constructed own))
IsItsOwn member made given _ = Unit {0}

-- each of these inputs is such
abbrev pub AreItsOwn : ℕ → List Call → List Handed → List Timed → Type 0
AreItsOwn member made given inputs = All (λ (timed : Timed). IsItsOwn member made given timed.input) inputs
