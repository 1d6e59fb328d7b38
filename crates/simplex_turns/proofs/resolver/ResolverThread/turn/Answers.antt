use Rattle.std.proofs.Common.{◌∙◌, refl, ap, subst}
use Rattle.std.specs.List.{filter_map}
use Rattle.simplex_messages.specs.Handing.{for_voter}
use Rattle.simplex_messages.specs.declared.voter.Message as voter_message
use Rattle.simplex_messages.specs.declared.resolver.MailboxMessage.{MailboxMessage}
use Rattle.simplex_shared.specs.declared.op.Op.TheVariants.{Took}
use Rattle.simplex_shared.specs.Passes.{Viewer, calls_of}
use Rattle.simplex_turns.specs.Handing.{PutsBehind}
use Rattle.simplex_turns.proofs.Handed.{calls-grow, puts-idle}
use Rattle.simplex_turns.proofs.ResolverTurned.{turned-idle, turned-step}
use Rattle.simplex_turns.proofs.resolver.ResolverThread.turn.Goals as goal

pub returns-in-None-clause-turns : goal.returns-in-None-clause-turns
returns-in-None-clause-turns g c =
    let old = c.args.self.now in
    let taken = c.in_ok-taken.taken in record {
      taken = taken;
      took = ap (λ (p : Viewer MailboxMessage). calls_of p) c.find.ensures.same.0 ∙ calls-grow old.own c.recv.new.pass (Took old.own.number taken) c.recv.ensures.own refl c.in_ok-taken.ensures.ok;
      put = puts-idle for_voter c.new.result (calls_of old.voter) (calls_of c.find.new.self.voter) c.new.ensures (ap (λ (p : Viewer voter_message.Message). calls_of p) c.find.ensures.same.1);
      gives = λ made place at.
          let found = c.in-None.ensures.finds made place (record { stands = at.stands; feed = at.feed }) in
          turned-idle c.find.new.self made old.now old.now place found.0 taken c.new.result refl found.1 found.2 c.new.ensures;
    }

pub returns-in_ok-out-in-Some-clause-turns : goal.returns-in_ok-out-in-Some-clause-turns
returns-in_ok-out-in-Some-clause-turns g c =
    let old = c.args.self.now in
    let taken = c.in_ok-taken.taken in
    let stepped = c.in_ok-out-in-Some.ensures in record {
      taken = taken;
      took = ap (λ (p : Viewer MailboxMessage). calls_of p) (stepped.same.0 ∙ c.find.ensures.same.0) ∙ calls-grow old.own c.recv.new.pass (Took old.own.number taken) c.recv.ensures.own refl c.in_ok-taken.ensures.ok;
      put = subst (λ (p : Viewer voter_message.Message). PutsBehind (filter_map for_voter c.in_ok-out-in-Some.out.handed) (calls_of p) (calls_of c.step.new.self.voter)) c.find.ensures.same.1 stepped.put;
      gives = λ made place at.
          let found = c.in-Some.ensures.finds made place (record { stands = at.stands; feed = at.feed }) in
          turned-step c.find.new.self c.step.new.self made old.now old.now place found.0 taken c.in-Some.input c.in_ok-out-in-Some.out refl c.find.ensures.same.2 found.1 found.2 stepped.same.2 stepped.stands stepped.out;
    }
