use Rattle.std.proofs.Common.{◌≡◌, ◌∷◌, ◌++◌, [], false, ap, ◌∙◌, sym}
use Rattle.simplex_mailbox.specs.Mail.{Mail, enqueued}
use Rattle.simplex_shared.specs.declared.op.Op.TheVariants.{Put}
use Rattle.simplex_shared.specs.Desk.{Recorded}
use Rattle.simplex_shared.specs.History.{Replays}
use Rattle.simplex_shared.proofs.Replaying.{replays-more, frame-enqueued, open-feedback}
use Rattle.simplex_shared.proofs.desk.Desk.put.Goals as goal

not_closed : (g : _) (c : goal.After-push_reserved g) → c.self.inside.mailbox.closed ≡ false
not_closed g c = ap (λ (d : Recorded g.row.M.Denot). d.mail.closed) c.self.view_is ∙ c.requires

taken_in : (g : _) (c : goal.After-push_reserved g) → c.enqueue.new.self ≡ enqueued g.M.Policy.handle c.self.inside.mailbox c.args.message
taken_in g c = c.in-Ok-enqueue.ensures.ok ∙ ap (enqueued g.M.Policy.handle c.self.inside.mailbox) c.in-Ok.ensures

same_capacity : (g : _) (c : goal.After-push_reserved g) → c.enqueue.new.self.capacity ≡ c.self.inside.mailbox.capacity
same_capacity g c = ap (λ (m : Mail g.row.M.Denot). m.capacity) (taken_in g c) ∙ (frame-enqueued g.M.Policy.handle c.self.inside.mailbox c.args.message).0

goes_on : (g : _) (c : goal.After-push_reserved g) → Replays g.M.Policy.handle g.M.Requested.is_skipped c.enqueue.new.self.capacity c.push_reserved.new.self.items c.enqueue.new.self
goes_on g c =
    let call = Put c.args.caller c.args.message c.in-Ok-enqueue.feedback in
    let pushed = c.push_reserved.ensures.items ∙ ap (λ l. l ++ call ∷ []) c.reserve.ensures.items in
    replays-more g.M.Policy.handle g.M.Requested.is_skipped c.self.inside.mailbox c.enqueue.new.self c.self.inside.log.items _ call c.self.invariant pushed (same_capacity g c) (not_closed g c, c.in-Ok-enqueue.ensures.feedback, taken_in g c)

pub invariant_of-self-2 : goal.invariant_of-self-2
invariant_of-self-2 = goes_on

pub returns-clause-open : goal.returns-clause-open
returns-clause-open g c is = open-feedback c.self.inside.mailbox (not_closed g c) (sym c.in-Ok-enqueue.ensures.feedback ∙ is)

pub returns-clause-legal : goal.returns-clause-legal
returns-clause-legal g c = (c.enqueue.new.self, goes_on g c)

pub returns-clause-capacity : goal.returns-clause-capacity
returns-clause-capacity g c = same_capacity g c ∙ ap (λ (d : Recorded g.row.M.Denot). d.mail.capacity) c.self.view_is
