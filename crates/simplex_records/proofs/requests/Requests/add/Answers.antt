use Rattle.std.proofs.Common.{◌≡◌, ap, arith, length, ◌∙◌}
use Rattle.simplex_records.proofs.Asked.{numbers-put, length-places}
use Rattle.simplex_records.proofs.requests.Requests.add.Goals as goal

pub returns-clause-numbers : goal.returns-clause-numbers
returns-clause-numbers c =
    let first : c.len-first.result ≡ length c.args.self.now.places.items = omega arith in
    let end : c.len-end.result ≡ length c.push_places.new.places.items = omega arith in
    numbers-put c.args.self.now _ c.args.event c.args.count c.len-first.result c.len-end.result c.if-count-eq0.false first
    (end ∙ ap (λ ps. length ps) c.in_ok-push_places.ensures ∙ length-places c.args.self.now.places.items c.args.event c.args.count)
    c.in_ok-put_span.ensures
