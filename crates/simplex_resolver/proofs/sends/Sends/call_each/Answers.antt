use Rattle.std.proofs.Common.{◌≡◌, [], rules, arith}
use Rattle.std.proofs.lemmas.Grind.{common_steps}
use Rattle.std.proofs.lemmas.List.{nil_from_length}
use Rattle.model_resolver.specs.Sends.{send_calls}
use Rattle.simplex_resolver.proofs.Sending.{sends-last}
use Rattle.simplex_resolver.proofs.sends.Sends.call_each.Goals as goal

pub loop-sent-preserved : goal.loop-sent-preserved
loop-sent-preserved c =
    let last = sends-last c.pop_back.new.self.items c.in-Some.sent in
    grind (arith, common_steps, last, c.in-Some.ensures.items, c.in_ok-push.ensures.ok, c.into_call.ensures, c.loop-sent.invariant)

pub returns : goal.returns
unfolding send_calls
returns c =
    let none : c.loop-sent.items.items ≡ [] = nil_from_length c.loop-sent.items.items (search rules) in
    grind (arith, common_steps, none, c.loop-sent.invariant)
