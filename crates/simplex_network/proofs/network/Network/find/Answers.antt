use Rattle.std.proofs.Common.{sym, ◌∙◌}
use Rattle.simplex_network.specs.Parts.{part_in}
use Rattle.simplex_network.specs.Lending.{without}
use Rattle.simplex_network.proofs.Found.{part-goes, found-is, found-not}
use Rattle.simplex_network.proofs.Lending.{status-among}
use Rattle.simplex_network.proofs.network.Network.find.Goals as goal

pub returns-then-is_node-clause-found : goal.returns-then-is_node-clause-found
returns-then-is_node-clause-found c =
    λ setting before s. found-is setting.setup c.args.node (part_in setting before c.args.node) _ (rw s.given at (sym c.is_node.ensures ∙ c.if-is_node.true))
    (c.status.ensures setting.setup (part_in setting before) (rw s.given at s.hosts) (part-goes setting before c.args.node))

pub returns-else-is_node-clause-found : goal.returns-else-is_node-clause-found
returns-else-is_node-clause-found c =
    λ setting before s. found-not setting.setup c.args.node (part_in setting before c.args.node) (rw s.given at (sym c.is_node.ensures ∙ c.if-is_node.false))

pub returns-then-is_node-clause-among : goal.returns-then-is_node-clause-among
returns-then-is_node-clause-among c =
    λ setting before lent free s. found-is setting.setup c.args.node (part_in setting before c.args.node) _ (rw s.remembers.given at (sym c.is_node.ensures ∙ c.if-is_node.true))
    (status-among setting before c.args.node lent _ free (c.status.ensures setting.setup (without lent (part_in setting before)) (rw s.remembers.given at s.hosts)))

pub returns-else-is_node-clause-among : goal.returns-else-is_node-clause-among
returns-else-is_node-clause-among c =
    λ setting before lent free s. found-not setting.setup c.args.node (part_in setting before c.args.node) (rw s.remembers.given at (sym c.is_node.ensures ∙ c.if-is_node.false))
