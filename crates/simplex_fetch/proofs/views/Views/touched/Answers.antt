use Rattle.std.proofs.Common.{sym, ◌∙◌}
use Rattle.std.proofs.lemmas.Result.{IfOk-weaker}
use Rattle.simplex_values.specs.declared.ask.Until.TheVariants as until
use Rattle.model_resolver.specs.Asks.{same_kind, same_until}
use Rattle.simplex_fetch.specs.Holders.{of_kind}
use Rattle.simplex_fetch.proofs.Holding.{held_kind}
use Rattle.simplex_fetch.proofs.Touched.{touches_kind, touches_all, touches_floor, touched-held, touched-all, touched-none}
use Rattle.simplex_fetch.proofs.views.Views.touched.Goals as goal

pub returns-then-last-first : goal.returns-then-last-first
returns-then-last-first c =
    c.new.ensures.items ∙ sym (touched-none c.args.retire.now c.reach-first.result.0 c.reach-first.result.1 c.reach-first.ensures c.args.self.now c.if-last-first.true)

pub returns-in-Settled : goal.returns-in-Settled
returns-in-Settled c =
    let held = held_kind c.in-Settled.kind c.self.inside.entries.entries c.self.inside.holders c.self.invariant.1 in
    rw (← c.self.view_is) (IfOk-weaker c.within.result _ _ (λ found made. rw c.of_kind.ensures at made ∙ touched-held c.args.retire.now c.reach-first.result.0 c.reach-first.result.1 c.reach-first.ensures c.self.inside.entries.entries
    (λ ask. same_kind ask.kind c.in-Settled.kind) (touches_kind _ _ _ _ c.in-Settled.is) (of_kind c.in-Settled.kind c.self.inside.holders)
    c.self.invariant.0.rising (rw c.of_kind.ensures at c.within.ensures.rising) held) c.within.ensures.items)

pub returns-in-Floor : goal.returns-in-Floor
returns-in-Floor c =
    rw (← c.self.view_is) (IfOk-weaker c.within-in-Floor.result _ _ (λ found made. made ∙ touched-held c.args.retire.now c.reach-first.result.0 c.reach-first.result.1 c.reach-first.ensures c.self.inside.entries.entries
    (λ ask. same_until ask.until until.Floor) (touches_floor _ _ c.in-Floor.is) c.self.inside.holders.floors.keys
    c.self.invariant.0.rising c.within-in-Floor.ensures.rising c.self.invariant.1.floors) c.within-in-Floor.ensures.items)

pub returns-in-Finalized : goal.returns-in-Finalized
returns-in-Finalized c =
    rw (← c.self.view_is) (IfOk-weaker c.keys_between.result _ _ (λ found made. made ∙ touched-all c.args.retire.now c.reach-first.result.0 c.reach-first.result.1 c.reach-first.ensures c.self.inside.entries.entries
    (touches_all _ _ c.in-Finalized.is)) c.keys_between.ensures)
