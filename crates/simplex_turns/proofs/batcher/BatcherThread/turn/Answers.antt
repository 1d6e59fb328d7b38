use Rattle.std.proofs.Common.{◌∙◌, refl, ap, subst}
use Rattle.std.specs.List.{filter_map}
use Rattle.simplex_messages.specs.Handing.{for_voter}
use Rattle.simplex_messages.specs.declared.voter.Message as voter_message
use Rattle.simplex_messages.specs.declared.batcher.Message as batcher_message
use Rattle.simplex_shared.specs.declared.op.Op.TheVariants.{Took}
use Rattle.simplex_shared.specs.Passes.{Viewer, calls_of}
use Rattle.simplex_turns.specs.Handing.{PutsBehind}
use Rattle.simplex_turns.proofs.Handed.{calls-grow, puts-idle}
use Rattle.simplex_turns.proofs.BatcherTurned.{turned-idle, turned-step}
use Rattle.simplex_turns.proofs.batcher.BatcherThread.turn.Goals as goal

pub returns-in-None-clause-turns : goal.returns-in-None-clause-turns
returns-in-None-clause-turns g c =
    let old = c.args.self.now in
    let taken = c.in_ok-taken.taken in record {
      taken = taken;
      took = ap (λ (p : Viewer batcher_message.Message). calls_of p) c.find.ensures.passes.0 ∙ calls-grow old.own c.recv.new.pass (Took old.own.number taken) c.recv.ensures.own refl c.in_ok-taken.ensures.ok;
      put = puts-idle for_voter c.new.result (calls_of old.voter) (calls_of c.find.new.self.voter) c.new.ensures (ap (λ (p : Viewer voter_message.Message). calls_of p) c.find.ensures.passes.1);
      gives = turned-idle old c.find.new.self taken c.find.new.self.feed.items c.new.result c.in-None.ensures.found refl c.find.ensures.same.0 c.find.ensures.blocked c.new.ensures;
    }

pub returns-in_ok-out-in-Some-clause-turns : goal.returns-in_ok-out-in-Some-clause-turns
returns-in_ok-out-in-Some-clause-turns g c =
    let old = c.args.self.now in
    let taken = c.in_ok-taken.taken in
    let stepped = c.in_ok-out-in-Some.ensures in record {
      taken = taken;
      took = ap (λ (p : Viewer batcher_message.Message). calls_of p) (stepped.same.0 ∙ c.find.ensures.passes.0) ∙ calls-grow old.own c.recv.new.pass (Took old.own.number taken) c.recv.ensures.own refl c.in_ok-taken.ensures.ok;
      put = subst (λ (p : Viewer voter_message.Message). PutsBehind (filter_map for_voter c.in_ok-out-in-Some.out.handed) (calls_of p) (calls_of c.step.new.self.voter)) c.find.ensures.passes.1 stepped.put;
      gives = turned-step old c.step.new.self c.find.new.self.actor c.find.new.self.now c.find.new.self.blocked taken c.in-Some.input c.find.new.self.feed.items c.in_ok-out-in-Some.out c.in-Some.ensures.found stepped.same.2 c.find.ensures.same.0 c.find.ensures.same.1 c.find.ensures.blocked stepped.stands stepped.out stepped.blocked;
    }
