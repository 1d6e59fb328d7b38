use Rattle.std.proofs.Common.{sym, ◌∙◌}
use Rattle.simplex_par.proofs.Stepping.{take-first}
use Rattle.simplex_par.proofs.lanes.next_of.Goals as goal

pub returns : goal.returns
returns c =
    take-first _ _ _ _ c.index_mut.result.now _ (c.len.ensures ∙ c.args.lanes.now.ok.0) c.requires c.index_mut.ensures.value c.pop_front.ensures.items
    (λ e. sym c.index_mut.result.now.dealt.ok.0 ∙ (rw e at c.pop_front.ensures.cases).0)
