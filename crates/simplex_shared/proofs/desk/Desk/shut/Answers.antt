use Rattle.std.proofs.Common.{◌∷◌, ◌++◌, [], ap, ◌∙◌}
use Rattle.simplex_mailbox.specs.Mail.{Mail}
use Rattle.simplex_shared.specs.declared.op.Op.TheVariants.{Shut}
use Rattle.simplex_shared.specs.History.{Replays}
use Rattle.simplex_shared.proofs.Replaying.{replays-more}
use Rattle.simplex_shared.proofs.desk.Desk.shut.Goals as goal

goes_on : (g : _) (c : goal.After-push_reserved g) → Replays g.M.Policy.handle g.M.Requested.is_skipped c.close.new.self.capacity c.push_reserved.new.self.items c.close.new.self
goes_on g c =
    let pushed = c.push_reserved.ensures.items ∙ ap (λ l. l ++ Shut c.args.caller ∷ []) c.in_ok-reserve.ensures.items in
    replays-more g.M.Policy.handle g.M.Requested.is_skipped c.self.inside.mailbox c.close.new.self c.self.inside.log.items _ (Shut c.args.caller) c.self.invariant pushed (ap (λ (m : Mail g.row.M.Denot). m.capacity) c.close.ensures) c.close.ensures

pub invariant_of-self-2 : goal.invariant_of-self-2
invariant_of-self-2 = goes_on

pub returns-clause-legal : goal.returns-clause-legal
returns-clause-legal g c = (c.close.new.self, goes_on g c)
