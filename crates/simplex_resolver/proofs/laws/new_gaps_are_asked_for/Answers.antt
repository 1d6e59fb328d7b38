use Rattle.simplex_resolver.proofs.Opening.{gap-asked}
use Rattle.simplex_resolver.proofs.laws.new_gaps_are_asked_for.Goals as goal

pub returns : goal.returns
returns c = λ length held call now doing view is was. gap-asked length held call now doing view is was
