use Rattle.std.proofs.Common.{rules, ◌≡◌, ap, ◌∙◌}
use Rattle.simplex_wire.specs.Format.{whole}
use Rattle.simplex_wire.proofs.Formats.{whole_again}
use Rattle.model_ledger.specs.Blocks.{block}
use Rattle.simplex_ledger.specs.Fits.{FitsBlock}
use Rattle.simplex_ledger.proofs.Reading.{block_is}
use Rattle.simplex_ledger.proofs.block.encode_block.Goals as goal

pub returns-clause-again : goal.returns-clause-again
unfolding block
returns-clause-again c = λ few.
    let spelled : c.from_vec.result ≡ block.spelling c.args.transfers.now = search rules in
    ap (whole block) spelled ∙ whole_again block FitsBlock block_is c.args.transfers.now (few, c.in_ok-push_transfers.ensures.fits)
