use Rattle.simplex_report.proofs.Combined.{worse-order, worse-grouping, worse-ok, worse-same}
use Rattle.simplex_report.proofs.laws.order_of_answers_does_not_matter.Goals as goal

pub returns-clause-order : goal.returns-clause-order
returns-clause-order c = worse-order

pub returns-clause-grouping : goal.returns-clause-grouping
returns-clause-grouping c = worse-grouping

pub returns-clause-same : goal.returns-clause-same
returns-clause-same c = worse-same

pub returns-clause-least : goal.returns-clause-least
returns-clause-least c = worse-ok
