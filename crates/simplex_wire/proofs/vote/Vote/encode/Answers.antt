use Rattle.std.proofs.Common.{ap, ◌∙◌}
use Rattle.simplex_wire.specs.Fits.{FitsVote}
use Rattle.simplex_wire.specs.Format.{whole}
use Rattle.simplex_wire.specs.Message.{vote}
use Rattle.simplex_wire.proofs.Formats.{whole_again}
use Rattle.simplex_wire.proofs.Messages.{vote_is}
use Rattle.simplex_wire.proofs.vote.Vote.encode.Goals as goal

pub returns-clause-again : goal.returns-clause-again
returns-clause-again c = ap (whole vote) (rw c.in_ok-out.ensures.items at c.in_ok-push.ensures.spelled) ∙ whole_again vote FitsVote vote_is c.args.self.now c.in_ok-push.ensures.fits
