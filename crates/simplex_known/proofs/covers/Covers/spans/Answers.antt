use Rattle.std.proofs.Common.{◌≡◌, arith, rules, sym, ap, ◌∙◌, ◌+◌}
use Rattle.std.proofs.lemmas.Grind.{common_steps}
use Rattle.simplex_known.proofs.Spanning.{is_spanned, spans_nothing, spans_alike, whole_are, next_is}
use Rattle.simplex_known.proofs.covers.Covers.spans.Goals as goal

pub returns-then-le : goal.returns-then-le
returns-then-le c = λ covered stands. sym (spans_nothing covered (c.args.lower + 1) c.args.upper (grind (arith, common_steps, c.le.ensures, c.if-le.true)))

pub returns : goal.returns
returns c = λ covered stands. (
    let e : c.next.result ≡ c.args.lower + 1 = next_is c.args.lower c.next.result c.args.upper c.next.ensures
    (grind (arith, common_steps, c.le.ensures, c.if-le.false))
    (search rules) in
    c.covers_from.ensures (whole_are c.args.self.now covered stands c.next.result)
    ∙ spans_alike c.args.self.now covered stands c.next.result c.args.upper
    ∙ ap (λ at. is_spanned covered at c.args.upper) e)
