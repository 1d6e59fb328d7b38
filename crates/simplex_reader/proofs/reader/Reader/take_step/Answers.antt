use Rattle.std.proofs.Common.{sym, ◌∙◌}
use Rattle.simplex_reader.proofs.Listing.{if-ok}
use Rattle.simplex_reader.proofs.reader.Reader.take_step.Goals as goal

pub returns-then-is_failed : goal.returns-then-is_failed
returns-then-is_failed g c = if-ok c.take_failed.result (λ due takes. takes (sym c.is_failed.ensures ∙ c.if-is_failed.true)) c.take_failed.ensures

pub returns-else-is_failed : goal.returns-else-is_failed
returns-else-is_failed g c = if-ok c.take_made.result (λ due takes. takes (sym c.is_failed.ensures ∙ c.if-is_failed.false)) c.take_made.ensures
