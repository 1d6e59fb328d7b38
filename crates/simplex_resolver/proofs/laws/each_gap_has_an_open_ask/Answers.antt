use Rattle.simplex_resolver.proofs.Gaps.{each-gap-asked}
use Rattle.simplex_resolver.proofs.laws.each_gap_has_an_open_ask.Goals as goal

pub returns : goal.returns
returns c = λ made past view handled gap. each-gap-asked made past view handled gap
