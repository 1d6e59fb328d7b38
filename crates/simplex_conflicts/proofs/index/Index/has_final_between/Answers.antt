use Rattle.std.proofs.Common.{◌≡◌, ◌+◌, ap, nat_lt, arith, ◌∙◌, refl, sym}
use Rattle.std.specs.List.{list_any}
use Rattle.simplex_values.specs.Maps.{has}
use Rattle.simplex_values.specs.declared.proposal.Proposal.{Proposal}
use Rattle.law_agreement.specs.World.{view_of}
use Rattle.simplex_conflicts.specs.Indexes.{is_final_between}
use Rattle.simplex_conflicts.proofs.Asking.{between_first, between_none, between_some}
use Rattle.simplex_conflicts.proofs.index.Index.has_final_between.Goals as goal

pub returns-in_default : goal.returns-in_default
returns-in_default c = λ known knows.
    between_first (λ view. has c.args.self.now.finals view) known knows.finals_are c.args.p.now (sym c.view.ensures ∙ c.in_default.ensures.none.0 refl)

pub returns-in-None : goal.returns-in-None
returns-in-None c = λ known knows. (
    let next : c.in-Some.before + 1 ≡ view_of c.args.p.now = c.in-Some.ensures.before ∙ c.view.ensures in
    between_none (λ view. has c.args.self.now.finals view) known knows.finals_are c.args.p.now c.in-Some.before next
    (λ q le. c.in-None.ensures.none q (omega arith)))

pub returns-in-Some-last_up_to : goal.returns-in-Some-last_up_to
returns-in-Some-last_up_to c = λ known knows. (
    let next : c.in-Some.before + 1 ≡ view_of c.args.p.now = c.in-Some.ensures.before ∙ c.view.ensures in
    let tells : nat_lt c.args.p.now.parent c.in-Some-last_up_to.last ≡ list_any (is_final_between c.args.p.now) known =
    between_some (λ view. has c.args.self.now.finals view) known knows.finals_are c.args.p.now c.in-Some.before c.in-Some-last_up_to.last next
    c.in-Some-last_up_to.ensures.member (omega (arith, c.in-Some-last_up_to.ensures.bound))
    (λ q le member. c.in-Some-last_up_to.ensures.greatest q (omega arith) member) in
    ap (λ (p : Proposal). nat_lt p.parent c.in-Some-last_up_to.last) c.p.view_is ∙ tells)
