use Rattle.std.proofs.Common.{arith}
use Rattle.std.proofs.lemmas.Grind.{common_steps}
use Rattle.simplex_values.specs.Maps.{found}
use Rattle.simplex_repair.specs.Taken.{is_taken}
use Rattle.simplex_repair.proofs.Spans.{joined}
use Rattle.simplex_repair.proofs.taken.Taken.add.Goals as goal

pub returns : goal.returns
unfolding is_taken
returns c = λ q.
    joined (found c.args.self.now.lasts) (found c.put.new.values) c.first_to-first.result c.args.view c.end_from-last.result c.cut_behind.result
    (record {
      open_at = grind (arith, common_steps, c.contains.ensures, c.if-contains.false);
      bound = c.first_to-first.ensures.bound;
      free = c.first_to-first.ensures.free;
      before = c.first_to-first.ensures.before;
      cut_is = λ e is. grind (arith, common_steps, is, c.cut_behind.ensures.last);
      last_is = c.end_from-last.ensures;
      new_is = λ t. grind (arith, common_steps, c.in_ok-put.ensures.ok t, c.cut_behind.ensures.cut t);
    })
    q
