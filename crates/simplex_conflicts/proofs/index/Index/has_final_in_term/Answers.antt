use Rattle.std.proofs.Common.{◌≡◌, ◌∙◌, arith}
use Rattle.std.specs.List.{list_any}
use Rattle.simplex_values.specs.Covers.{covers}
use Rattle.simplex_values.specs.Maps.{has}
use Rattle.simplex_conflicts.specs.Indexes.{is_final_in_term}
use Rattle.simplex_conflicts.proofs.Asking.{in_term_none, in_term_some}
use Rattle.simplex_conflicts.proofs.index.Index.has_final_in_term.Goals as goal

pub returns-in-None : goal.returns-in-None
returns-in-None c = λ known knows.
    in_term_none (λ view. has c.args.self.now.finals view) known knows.finals_are c.args.self.now.length c.args.view
    (λ q le. c.in-None.ensures.none q (omega arith))

pub returns-in-Some : goal.returns-in-Some
returns-in-Some c = λ known knows. (
    let tells : covers c.args.self.now.length c.args.view c.in-Some.first ≡ list_any (is_final_in_term c.args.self.now.length c.args.view) known =
    in_term_some (λ view. has c.args.self.now.finals view) known knows.finals_are c.args.self.now.length c.args.view c.in-Some.first knows.some_length
    c.in-Some.ensures.member (omega (arith, c.in-Some.ensures.bound)) (λ q le lt. c.in-Some.ensures.least q (omega arith) lt) in
    c.covers.ensures ∙ tells)
