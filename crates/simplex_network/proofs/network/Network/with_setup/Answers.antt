use Rattle.std.proofs.Common.{refl, arith}
use Rattle.simplex_members.proofs.Good.{good-few}
use Rattle.simplex_network.proofs.Networks.{network-new}
use Rattle.model_run.specs.Setting.{setting_of}
use Rattle.simplex_network.proofs.network.Network.with_setup.Goals as goal

pub new-requires-2 : goal.new-requires-2
new-requires-2 c = let few = good-few c.args.setup.now c.requires in omega (arith, few)

pub returns : goal.returns
returns c = network-new _ (setting_of c.args.setup.now c.args.genesis) c.in_ok-keep.ensures refl refl refl c.in_ok-new.ensures.stands c.in_ok-new-2.ensures.stands
