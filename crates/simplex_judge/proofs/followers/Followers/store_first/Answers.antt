use Rattle.std.proofs.Common.{sym, ◌∙◌}
use Rattle.std.proofs.lemmas.Result.{IfOk-weaker}
use Rattle.simplex_judge.proofs.Seats.{stored-unfollowed, stored-followed}
use Rattle.simplex_judge.proofs.followers.Followers.store_first.Goals as goal

pub returns-in-None : goal.returns-in-None
returns-in-None c =
    stored-unfollowed c.args.self.now.seats.items c.args.setup.now c.args.event.now c.args.entry.now c.in-Some.node (sym c.node_named.ensures ∙ c.in-Some.is)
    (sym c.is_honest.ensures ∙ c.if-not-is_honest.false) (sym (rw c.in-None.is at c.get.ensures))

pub returns-in-Some-get : goal.returns-in-Some-get
returns-in-Some-get c =
    IfOk-weaker c.stores_first.result _ _
    (λ stored tells. stored-followed c.args.self.now.seats.items c.args.setup.now c.args.event.now c.args.entry.now c.in-Some.node _ stored (sym c.node_named.ensures ∙ c.in-Some.is)
    (sym c.is_honest.ensures ∙ c.if-not-is_honest.false) (sym (rw c.in-Some-get.is at c.get.ensures)) tells)
    c.stores_first.ensures
