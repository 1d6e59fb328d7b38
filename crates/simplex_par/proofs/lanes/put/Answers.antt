use Rattle.std.proofs.Common.{◌∙◌}
use Rattle.simplex_par.proofs.Stepping.{put-last}
use Rattle.simplex_par.proofs.lanes.put.Goals as goal

pub returns : goal.returns
returns c = put-last _ _ _ _ c.index_mut.result.now _ (c.len.ensures ∙ c.args.lanes.now.ok.0) c.requires c.index_mut.ensures.value c.in_ok-push_back.ensures.items
