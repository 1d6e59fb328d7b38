use Rattle.std.proofs.Common.{◌≡◌, ◌++◌, [], ◌∷◌, Some, ◌∙◌, sym, ap, subst, arith}
use Rattle.std.proofs.lemmas.Grind.{common_steps}
use Rattle.std.proofs.lemmas.List.Elements.{All-pop}
use Rattle.std.specs.List.{All}
use Rattle.simplex_shared.specs.Passes.{Viewer, GoesOn}
use Rattle.simplex_shared.proofs.Listed.{all_cons, all_before}
use Rattle.simplex_shared.proofs.finish.check_all.Goals as goal

pub loop-pass-preserved : goal.loop-pass-preserved
loop-pass-preserved g c =
    let i = c.loop-pass.invariant in
    let pass = c.in-Some.pass in
    let log = c.args.holder.me.0.seen in
    let items : c.loop-pass.passes.items ≡ c.pop.new.self.items ++ pass ∷ [] = c.in-Some.ensures.items in
    let both = All-pop (λ (p : Viewer g.row.M.Denot). p.mailbox.table ≡ c.args.lock.now.table.shared.table_id) c.loop-pass.passes.items c.pop.new.self.items (Some pass) items i.left in
    let is_in = λ (p : Viewer g.row.M.Denot). GoesOn p log in
    record {
      own = c.check.ensures.own ∙ i.own;
      left = both.0;
      holds = c.check.ensures.same.0;
      seen = c.check.ensures.same.1 ∙ i.seen;
      done = (
        pass ∷ i.done.0,
        all_before is_in pass c.args.passes.items c.loop-pass.passes.items i.done.0 c.pop.new.self.items i.done.1 items,
        all_cons is_in pass i.done.0 (subst (GoesOn pass) i.seen c.check.ensures.checked) i.done.2,
      );
    }

pub returns : goal.returns
returns g c =
    let i = c.loop-pass.invariant in
    let empty : c.loop-pass.passes.items ≡ [] = grind (arith, common_steps) in
    let all : c.args.passes.items ≡ i.done.0 = i.done.1 ∙ ap (λ l. l ++ i.done.0) empty in
    record { checked = subst (All (λ (p : Viewer g.row.M.Denot). GoesOn p c.args.holder.me.0.seen)) (sym all) i.done.2 }
