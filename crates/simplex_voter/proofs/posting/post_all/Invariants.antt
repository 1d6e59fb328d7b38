use Rattle.model_steps.specs.Engine.{for_batcher, for_resolver}
use Rattle.simplex_voter.proofs.Posts.{Posting}
use Rattle.simplex_voter.proofs.posting.post_all.Given as goal

abbrev pub invariant-loop-message : goal.invariant-loop-message
invariant-loop-message g l = record {
  batcher : Posting g.B.Post.puts for_batcher l.fn.batcher l.handed l.message-index l.batcher;
  resolver : Posting g.R.Post.puts for_resolver l.fn.resolver l.handed l.message-index l.resolver;
}
