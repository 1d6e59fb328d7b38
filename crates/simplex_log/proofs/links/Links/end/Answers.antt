use Rattle.std.proofs.Common.{◌≡◌, Some, sym, ◌∙◌}
use Rattle.simplex_values.specs.Maps.{found}
use Rattle.simplex_log.proofs.Linking.{same_end}
use Rattle.simplex_log.proofs.links.Links.end.Goals as goal

pub loop-link-preserved : goal.loop-link-preserved
loop-link-preserved c = λ links before.
    let now = c.loop-link.invariant links before in
    let there : found c.loop-link.self.views c.loop-link.from ≡ Some c.in-Some.link = sym (c.in-Some.ensures.held links now.0) in
    (c.shorten.ensures links now.0 now.1, now.1 ∙ sym (same_end c.loop-link.self links c.loop-link.from c.in-Some.link now.0 there))

pub returns-clause-same : goal.returns-clause-same
returns-clause-same c = λ links before. (c.loop-link.invariant links before).0
