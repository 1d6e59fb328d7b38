use Rattle.std.proofs.Common.{sym, subst}
use Rattle.simplex_shared.specs.Passes.{calls_of}
use Rattle.simplex_turns.specs.Handing.{PutsBehind}
use Rattle.simplex_turns.proofs.Drained.{none-left}
use Rattle.simplex_turns.proofs.Handed.{puts-nothing, puts-next, same-still}
use Rattle.simplex_turns.proofs.handing.put_all.Goals as goal

pub loop-message-preserved : goal.loop-message-preserved
loop-message-preserved g c = record {
  own = same-still c.args.pass.now c.loop-message.pass c.enqueue.new.pass c.loop-message.invariant.own c.enqueue.ensures.own;
  put = λ after puts.
      c.loop-message.invariant.put after (subst (λ l. PutsBehind l (calls_of c.loop-message.pass) after) (sym c.in-Some.ensures.items)
      (puts-next c.in-Some.message c.in-Ok.field-0 c.pop_front.new.self.items c.loop-message.pass c.enqueue.new.pass after c.enqueue.ensures.own c.in-Ok.ensures.ok puts));
}

pub returns-clause-put : goal.returns-clause-put
returns-clause-put g c =
    let pass = c.loop-message.pass in
    let none = none-left c.loop-message.messages.items c.pop_front.new.self.items c.in_default.ensures.items c.in_default.ensures.rest in
    c.loop-message.invariant.put (calls_of pass) (subst (λ l. PutsBehind l (calls_of pass) (calls_of pass)) (sym none) (puts-nothing (calls_of pass)))
