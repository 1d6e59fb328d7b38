use Rattle.std.proofs.Common.{ap, subst, ◌∙◌, arith}
use Rattle.simplex_wire.specs.Format.{whole, IsUnlessMemory}
use Rattle.simplex_wire.proofs.Formats.{is_found_unless, whole_again}
use Rattle.model_ledger.specs.Blocks.{block}
use Rattle.simplex_ledger.specs.Fits.{FitsBlock}
use Rattle.simplex_ledger.proofs.Reading.{block_is}
use Rattle.simplex_ledger.proofs.block.decode_block.Goals as goal

pub returns-clause-found : goal.returns-clause-found
returns-clause-found c = is_found_unless block FitsBlock block_is c.args.bytes.now c.whole_block.result (λ i. omega (arith, c.type_inv.bytes i)) c.whole_block.ensures

pub returns-clause-only : goal.returns-clause-only
returns-clause-only c = λ transfers fits e. subst (λ read. IsUnlessMemory c.whole_block.result read) (ap (whole block) e ∙ whole_again block FitsBlock block_is transfers fits) c.whole_block.ensures
