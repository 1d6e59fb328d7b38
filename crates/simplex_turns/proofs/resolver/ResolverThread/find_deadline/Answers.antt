use Rattle.std.proofs.Common.{◌∙◌, sym, ap, if◌then◌else◌, Some, None}
use Rattle.simplex_messages.specs.declared.resolver.ResolverInput.TheVariants as inputs
use Rattle.model_resolver.specs.Views.{is_reached}
use Rattle.simplex_turns.proofs.resolver.ResolverThread.find_deadline.Goals as goal

pub returns-then-is_reached : goal.returns-then-is_reached
returns-then-is_reached g c = λ made past s.
    let now = c.args.self.now.now in
    let e = sym c.if-is_reached.true ∙ c.is_reached.ensures ∙ ap (is_reached now) (c.next_deadline.ensures made past s) in
    ap (λ b. if b then Some inputs.Timer else None) e

pub returns-else-is_reached : goal.returns-else-is_reached
returns-else-is_reached g c = λ made past s.
    let now = c.args.self.now.now in
    let e = sym c.if-is_reached.false ∙ c.is_reached.ensures ∙ ap (is_reached now) (c.next_deadline.ensures made past s) in
    ap (λ b. if b then Some inputs.Timer else None) e
