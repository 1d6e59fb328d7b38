use Rattle.std.proofs.Common.{refl, sym, ◌∙◌, length, arith}
use Rattle.std.proofs.lemmas.Result.{IfOk-weaker}
use Rattle.simplex_judge.proofs.Seats.{at-followed, at-kept, at-nowhere, at-seat_found}
use Rattle.simplex_judge.proofs.followers.Followers.follow_at.Goals as goal

pub returns-then-not-is_node : goal.returns-then-not-is_node
returns-then-not-is_node c =
    at-nowhere c.args.self.now.seats.items c.args.setup.now c.args.node c.args.prior.now c.args.event.now c.args.entry.now (sym c.is_node.ensures ∙ c.if-not-is_node.true)

pub returns-in-None : goal.returns-in-None
returns-in-None c =
    at-kept c.args.self.now.seats.items c.args.setup.now c.args.node c.args.prior.now c.args.event.now c.args.entry.now c.seat_of-place.result (length c.args.self.now.seats.items) c.index_mut.result.now
    (sym c.is_node.ensures ∙ c.if-not-is_node.false) c.seat_of-place.ensures refl (omega (arith, c.if-place-len.false, c.len.ensures)) c.index_mut.ensures.value c.in-None.is

pub returns-in-Some : goal.returns-in-Some
returns-in-Some c =
    IfOk-weaker c.follow.result _ _
    (λ due goes. at-followed c.args.self.now.seats.items c.args.setup.now c.args.node c.args.prior.now c.args.event.now c.args.entry.now c.seat_of-place.result c.in-Some.follower
    c.follow.new.self due (sym c.is_node.ensures ∙ c.if-not-is_node.false) c.seat_of-place.ensures
    (at-seat_found c.args.self.now.seats.items c.seat_of-place.result (length c.args.self.now.seats.items) c.index_mut.result.now _ refl (omega (arith, c.if-place-len.false, c.len.ensures)) c.index_mut.ensures.value c.in-Some.is) goes)
    c.follow.ensures
