use Rattle.simplex_wire.specs.Fits.{FitsVote}
use Rattle.simplex_wire.specs.Message.{vote}
use Rattle.simplex_wire.proofs.Formats.{alone}
use Rattle.simplex_wire.proofs.Messages.{vote_is}
use Rattle.simplex_wire.proofs.codec.no_vote_begins_another.Goals as goal

pub returns : goal.returns
returns c = λ v w more fv fw e. alone vote FitsVote vote_is v w more fv fw e
