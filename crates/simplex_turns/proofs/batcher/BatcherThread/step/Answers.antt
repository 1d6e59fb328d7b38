use Rattle.std.proofs.Common.{◌∙◌, subst}
use Rattle.simplex_mailbox.proofs.Holding.{held-posted}
use Rattle.simplex_shared.specs.Passes.{calls_of}
use Rattle.simplex_turns.specs.Handing.{PutsBehind}
use Rattle.simplex_turns.proofs.batcher.BatcherThread.step.Goals as goal

pub returns-clause-put : goal.returns-clause-put
returns-clause-put g c =
    let held = rw c.new-held.ensures at (held-posted _ _ _ c.in_ok-step.ensures.voter) in
    subst (λ l. PutsBehind l (calls_of c.args.self.now.voter) (calls_of c.put_all.new.pass)) (c.into_messages.ensures ∙ held) c.in_ok-put_all.ensures.put
