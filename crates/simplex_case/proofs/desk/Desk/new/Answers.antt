use Rattle.simplex_case.proofs.Desks.{desk-new}
use Rattle.simplex_case.proofs.desk.Desk.new.Goals as goal

pub returns : goal.returns
returns c = λ node. desk-new c.new.result c.empty_map.result node c.new.ensures.places c.new.ensures.numbers c.empty_map.ensures
