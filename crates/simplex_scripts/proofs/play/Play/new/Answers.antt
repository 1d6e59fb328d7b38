use Rattle.std.proofs.Common.{refl}
use Rattle.simplex_scripts.proofs.Asking.{asks_none}
use Rattle.simplex_scripts.proofs.Whole.{opens}
use Rattle.simplex_scripts.proofs.play.Play.new.Goals as goal

pub returns-clause-opens : goal.returns-clause-opens
returns-clause-opens c =
    opens
    (record {
      alloc = c.args.alloc;
      setup = c.in_ok-keep.field-0;
      network = c.in_ok-network.network;
      nodes = c.in_ok-nodes.nodes;
      post = c.new-2.result;
      requests = c.new-3.result;
      clock = 0;
      events = c.new-4.result;
      lines = c.new-5.result;
    })
    c.args.setup.now c.in_ok-keep.ensures c.in_ok-network.ensures.stands c.in_ok-nodes.ensures c.new-2.ensures.waiting c.new-2.ensures.delivered
    (asks_none c.new-3.result c.new-3.ensures.«open» c.new-3.ensures.counts) refl c.new-4.ensures c.new-5.ensures
