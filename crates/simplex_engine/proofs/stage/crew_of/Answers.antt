use Rattle.simplex_engine.proofs.Voters.{either-new}
use Rattle.simplex_engine.proofs.stage.crew_of.Goals as goal

pub returns-clause-fresh : goal.returns-clause-fresh
returns-clause-fresh g c = λ told made waits. record {
  voter = either-new told _ c.args.unstarted made c.args.now waits c.in_ok-voter.ensures.stands c.in_ok-voter.ensures.over;
  batcher = waits.batcher;
  resolver = waits.resolver;
  boxes = waits.boxes;
  blocked = c.new-2.ensures.empty;
}
