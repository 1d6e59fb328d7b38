use Rattle.std.proofs.Common.{◌∙◌, sym, ap, if◌then◌else◌, None}
use Rattle.simplex_turns.specs.Resolving.{answered_on}
use Rattle.simplex_turns.proofs.resolver.ResolverThread.heard.Goals as goal

pub returns-then-is_blocked : goal.returns-then-is_blocked
returns-then-is_blocked g c = λ made past s.
    let d = c.args.delivery in
    ap (λ b. if b then None else answered_on d.channel d.sender d.bytes) (sym c.if-is_blocked.true ∙ c.is_blocked.ensures made past s)

pub returns : goal.returns
returns g c = λ made past s.
    let d = c.args.delivery in
    c.input_of.ensures ∙ ap (λ b. if b then None else answered_on d.channel d.sender d.bytes) (sym c.if-is_blocked.false ∙ c.is_blocked.ensures made past s)
