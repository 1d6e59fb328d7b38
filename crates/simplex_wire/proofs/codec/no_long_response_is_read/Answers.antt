use Rattle.simplex_wire.proofs.Resolvers.{response_long}
use Rattle.simplex_wire.proofs.codec.no_long_response_is_read.Goals as goal

pub returns : goal.returns
returns c = response_long
