use Rattle.std.proofs.Common.{◌≡◌, Some, None, sym, ◌∙◌}
use Rattle.simplex_values.specs.Maps.{found}
use Rattle.simplex_log.proofs.Linking.{same_end, ends_here}
use Rattle.simplex_log.proofs.links.Links.end_from.Goals as goal

pub loop-link-preserved : goal.loop-link-preserved
loop-link-preserved c = λ links stands.
    let there : found c.args.self.now.views c.loop-link.«end» ≡ Some c.in-Some.link = sym (c.in-Some.ensures.held links stands) in
    same_end c.args.self.now links c.loop-link.«end» c.in-Some.link stands there ∙ c.loop-link.invariant links stands

pub returns : goal.returns
returns c = λ links stands.
    let there : found c.args.self.now.views c.loop-link.«end» ≡ None = sym (c.in_default.ensures.held links stands) in
    sym (ends_here c.args.self.now links c.loop-link.«end» stands there) ∙ c.loop-link.invariant links stands
