use Rattle.std.proofs.Common.{arith}
use Rattle.std.proofs.lemmas.Grind.{common_steps}
use Rattle.simplex_state.proofs.Walking.{next_passes, run_passes, run_later, term_ends_later}
use Rattle.simplex_known.proofs.covers.behind.Goals as goal

pub returns-in-None-clause-later : goal.returns-in-None-clause-later
returns-in-None-clause-later c = λ low. grind (arith, c.next_term_start-next.ensures, term_ends_later c.args.length c.args.view (omega arith) low)

pub returns-in-None-clause-passed : goal.returns-in-None-clause-passed
returns-in-None-clause-passed c = λ q from to.
    next_passes c.args.length c.args.view c.next_term_start-next.result q c.args.whole.now (omega arith) c.next_term_start-next.ensures from to

pub returns-in-Some-clause-later : goal.returns-in-Some-clause-later
returns-in-Some-clause-later c = λ low.
    run_later c.args.length c.args.view c.next_term_start-next.result c.in-Some.last c.next.result (omega arith) c.next_term_start-next.ensures
    (grind (arith, c.in-Some.ensures.bound, c.term_index.ensures))
    (grind (arith, common_steps, c.next.ensures, c.saturating_mul.ensures, c.get.ensures.value))
    low

pub returns-in-Some-clause-passed : goal.returns-in-Some-clause-passed
returns-in-Some-clause-passed c = λ q from to.
    run_passes c.args.length c.args.view c.next_term_start-next.result c.in-Some.last c.next.result q c.args.whole.now
    (omega arith) c.next_term_start-next.ensures
    (λ t l h. c.in-Some.ensures.held t (grind (arith, c.term_index.ensures, l)) h)
    (grind (arith, common_steps, c.next.ensures, c.saturating_mul.ensures, c.get.ensures.value))
    from
    to
