use Rattle.std.proofs.Common.{◌≡◌, ◌∷◌, ◌++◌, [], ap, ◌∙◌}
use Rattle.simplex_mailbox.specs.Mail.{Mail}
use Rattle.simplex_shared.specs.declared.op.Op.TheVariants.{Took}
use Rattle.simplex_shared.specs.History.{Replays}
use Rattle.simplex_shared.proofs.Replaying.{replays-more, frame-received}
use Rattle.simplex_shared.proofs.desk.Desk.take.Goals as goal

same_capacity : (g : _) (c : goal.After-push_reserved g) → c.recv-got.new.self.capacity ≡ c.self.inside.mailbox.capacity
same_capacity g c = ap (λ (m : Mail g.row.M.Denot). m.capacity) c.recv-got.ensures.after ∙ (frame-received g.M.Requested.is_skipped c.self.inside.mailbox).0

goes_on : (g : _) (c : goal.After-push_reserved g) → Replays g.M.Policy.handle g.M.Requested.is_skipped c.recv-got.new.self.capacity c.push_reserved.new.self.items c.recv-got.new.self
goes_on g c =
    let pushed = c.push_reserved.ensures.items ∙ ap (λ l. l ++ Took c.args.caller c.in_ok-copy.copy ∷ []) c.in_ok-reserve.ensures.items in
    replays-more g.M.Policy.handle g.M.Requested.is_skipped c.self.inside.mailbox c.recv-got.new.self c.self.inside.log.items _ (Took c.args.caller c.in_ok-copy.copy) c.self.invariant pushed (same_capacity g c) (c.in_ok-copy.ensures, c.recv-got.ensures.after)

pub invariant_of-self-2 : goal.invariant_of-self-2
invariant_of-self-2 = goes_on

pub returns-clause-legal : goal.returns-clause-legal
returns-clause-legal g c = (c.recv-got.new.self, goes_on g c)

pub returns-clause-capacity : goal.returns-clause-capacity
returns-clause-capacity g c = same_capacity g c ∙ ap (λ (m : Mail g.row.M.Denot). m.capacity) (ap (λ r. r.mail) c.self.view_is)
