use Rattle.std.proofs.Common.{◌≡◌, Some, sym, ◌∙◌, rules}
use Rattle.simplex_values.specs.Maps.{found}
use Rattle.simplex_log.proofs.Linking.{none_stays}
use Rattle.simplex_log.proofs.links.Links.below.Goals as goal

pub returns-else-falls-clause-held : goal.returns-else-falls-clause-held
unfolding found
returns-else-falls-clause-held c = λ links stands.
    let there : found c.args.self.now.views c.args.view ≡ Some c.in_ok-link.link = search rules in
    absurd (none_stays c.args.self.now links c.args.view c.in_ok-link.link (sym c.falls.ensures ∙ c.if-falls.false) stands there)
