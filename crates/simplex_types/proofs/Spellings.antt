-- The spellings that are signed, part by part.
use Rattle.std.proofs.Common.{◌≡◌, ◌++◌, refl}
use Rattle.simplex_values.specs.declared.round.Round.{Round}
use Rattle.simplex_values.specs.declared.proposal.Proposal.{Proposal}
use Rattle.simplex_wire.specs.Number.{varint}
use Rattle.simplex_wire.specs.Message.{round, proposal}

pub round_spelling : (r : Round) → round.spelling r ≡ varint r.epoch ++ varint r.view
unfolding round
round_spelling r = refl

pub proposal_spelling : (p : Proposal) → proposal.spelling p ≡ round.spelling p.round ++ (varint p.parent ++ p.payload)
unfolding proposal
proposal_spelling p = refl
