use Rattle.std.proofs.Common.{◌≡◌, ◌<◌, ◌++◌, [], ◌∷◌, Some, ◌∙◌, sym, ap, subst, inr}
use Rattle.std.proofs.lemmas.List.Elements.{All-pop, All-push}
use Rattle.std.specs.List.{All}
use Rattle.simplex_shared.specs.declared.op.Op.{Op}
use Rattle.simplex_shared.specs.Desk.{Recorded}
use Rattle.simplex_shared.specs.History.{caller_of, IsLegal}
use Rattle.simplex_shared.specs.Lock.{Sat}
use Rattle.simplex_shared.specs.Passes.{SharedMailbox, Viewer, GoesOn}
use Rattle.simplex_shared.proofs.Called.{goes_on}
use Rattle.simplex_shared.proofs.Listed.{all_below}
use Rattle.simplex_shared.proofs.mailbox.RecordedMailbox.finish.Goals as goal

pub returns-clause-whole : goal.returns-clause-whole
returns-clause-whole g c =
    let p = c.last.inside in
    let ready = c.last.invariant.0 in
    let turn = c.take_turn-desk.ensures in
    let log = c.into_log.result.items in
    let is_in = λ (pass : Viewer g.row.M.Denot). GoesOn pass log in
    let items : c.args.passes.items ≡ c.pop.new.self.items ++ c.in-Some.last ∷ [] = c.in-Some.ensures.items in
    let same = ap (λ (m : Sat (Recorded g.row.M.Denot) (Op g.row.M.Denot)). m.0.seen) turn.held ∙ sym c.into_log.ensures in
    let others = subst (λ l. All (λ (pass : Viewer g.row.M.Denot). GoesOn pass l) c.pop.new.self.items) same c.check_all.ensures.checked in
    let mine = subst (GoesOn c.in-Some.last) (sym c.into_log.ensures) (subst (λ (b : Viewer g.row.M.Denot). GoesOn b c.take_turn-desk.result.log) c.last.view_is (goes_on p.seat.table_id p.seat.me.0 p.number c.take_turn-desk.result.log ready.1 turn.goes_on.0 (turn.goes_on.2 ready.0))) in
    subst (All is_in) (sym items) (All-push is_in c.pop.new.self.items c.in-Some.last others mine)

pub returns-clause-legal : goal.returns-clause-legal
returns-clause-legal g c =
    let p = c.last.inside in
    let items : c.args.passes.items ≡ c.pop.new.self.items ++ c.in-Some.last ∷ [] = c.in-Some.ensures.items in
    let legal = (c.take_turn-desk.ensures.goes_on.3 (inr c.last.invariant.0.0)).0 in
    let own = (All-pop (λ (pass : Viewer g.row.M.Denot). pass.mailbox ≡ c.args.self) c.args.passes.items c.pop.new.self.items (Some c.in-Some.last) items c.requires.own).1 in
    let capacity = ap (λ (v : Viewer g.row.M.Denot). v.mailbox.terms.capacity) c.last.view_is ∙ ap (λ (m : SharedMailbox). m.terms.capacity) own in
    subst (λ n. IsLegal g.M.Policy.handle g.M.Requested.is_skipped n c.into_log.result.items) capacity
    (subst (IsLegal g.M.Policy.handle g.M.Requested.is_skipped p.seat.me.0.terms.capacity) (sym c.into_log.ensures) legal)

pub returns-clause-callers : goal.returns-clause-callers
returns-clause-callers g c =
    let p = c.last.inside in
    let items : c.args.passes.items ≡ c.pop.new.self.items ++ c.in-Some.last ∷ [] = c.in-Some.ensures.items in
    let none = (c.take_turn-desk.ensures.goes_on.3 (inr c.last.invariant.0.0)).1 in
    let own = (All-pop (λ (pass : Viewer g.row.M.Denot). pass.mailbox ≡ c.args.self) c.args.passes.items c.pop.new.self.items (Some c.in-Some.last) items c.requires.own).1 in
    let passes = ap (λ (v : Viewer g.row.M.Denot). v.mailbox.terms.passes) c.last.view_is ∙ ap (λ (m : SharedMailbox). m.terms.passes) own in
    subst (λ n. All (λ (call : Op g.row.M.Denot). caller_of call < n) c.into_log.result.items) passes
    (subst (All (λ (call : Op g.row.M.Denot). caller_of call < p.seat.me.0.terms.passes)) (sym c.into_log.ensures) (all_below caller_of p.seat.me.0.terms.passes c.take_turn-desk.result.log none))
