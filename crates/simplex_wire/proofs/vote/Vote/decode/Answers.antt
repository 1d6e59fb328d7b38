use Rattle.std.proofs.Common.{ap, ◌∙◌, arith}
use Rattle.simplex_wire.specs.Fits.{FitsVote}
use Rattle.simplex_wire.specs.Format.{whole}
use Rattle.simplex_wire.specs.Message.{vote}
use Rattle.simplex_wire.proofs.Formats.{is_found, whole_again}
use Rattle.simplex_wire.proofs.Messages.{vote_is}
use Rattle.simplex_wire.proofs.vote.Vote.decode.Goals as goal

pub returns-clause-found : goal.returns-clause-found
returns-clause-found c = is_found vote FitsVote vote_is c.args.bytes.now c.whole_vote.result (λ i. omega (arith, c.type_inv.bytes i)) c.whole_vote.ensures

pub returns-clause-only : goal.returns-clause-only
returns-clause-only c = λ v fits e. c.whole_vote.ensures ∙ ap (whole vote) e ∙ whole_again vote FitsVote vote_is v fits
