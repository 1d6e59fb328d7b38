use Rattle.std.proofs.Common.{◌≡◌, ◌∙◌, arith}
use Rattle.std.specs.List.{list_any}
use Rattle.simplex_values.specs.Covers.{covers}
use Rattle.simplex_values.specs.Maps.{has}
use Rattle.simplex_conflicts.specs.Indexes.{is_given_up_by}
use Rattle.simplex_conflicts.proofs.Asking.{given_none, given_some}
use Rattle.simplex_conflicts.proofs.index.Index.is_given_up.Goals as goal

pub returns-in-None : goal.returns-in-None
returns-in-None c = λ known knows.
    given_none (λ view. has c.args.self.now.nullified view) known knows.nullified_are c.args.self.now.length c.args.view
    (λ q le. c.in-None.ensures.none q (omega arith))

pub returns-in-Some : goal.returns-in-Some
returns-in-Some c = λ known knows. (
    let tells : covers c.args.self.now.length c.in-Some.last c.args.view ≡ list_any (is_given_up_by c.args.self.now.length c.args.view) known =
    given_some (λ view. has c.args.self.now.nullified view) known knows.nullified_are c.args.self.now.length c.args.view c.in-Some.last knows.some_length
    c.in-Some.ensures.member (omega (arith, c.in-Some.ensures.bound)) (λ q le member. c.in-Some.ensures.greatest q (omega arith) member) in
    c.covers.ensures ∙ tells)
