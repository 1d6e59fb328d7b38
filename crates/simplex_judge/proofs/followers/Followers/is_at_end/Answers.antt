use Rattle.std.proofs.Common.{sym, ◌∙◌}
use Rattle.simplex_judge.proofs.Seats.{end-unfollowed, end-followed}
use Rattle.simplex_judge.proofs.followers.Followers.is_at_end.Goals as goal

pub returns-in-None : goal.returns-in-None
returns-in-None c =
    end-unfollowed c.args.self.now.seats.items c.args.setup.now c.args.event.now c.in-Some.node (sym c.node_named.ensures ∙ c.in-Some.is) (sym (rw c.in-None.is at c.get.ensures))

pub returns-in-Some-get : goal.returns-in-Some-get
returns-in-Some-get c =
    end-followed c.args.self.now.seats.items c.args.setup.now c.args.event.now c.in-Some.node _ _ (sym c.node_named.ensures ∙ c.in-Some.is) (sym (rw c.in-Some-get.is at c.get.ensures))
    (λ setting before followed runs. c.is_at_end.ensures setting before c.in-Some.node followed.follows runs)
