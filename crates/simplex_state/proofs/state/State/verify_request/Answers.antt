use Rattle.std.proofs.Common.{arith, ◌+◌, ◌&&◌, ◌≡◌, ◌∙◌, sym}
use Rattle.simplex_values.specs.Terms.{admission_limit}
use Rattle.model_rules.specs.Calls.{known_of}
use Rattle.model_rules.specs.Requests.{wants_verify, is_founded}
use Rattle.simplex_state.specs.Stands.{StandsFor}
use Rattle.simplex_state.proofs.Wanting.{current_kept, admitted_find, both_from, ready_facts, request_wait, request_ready, request_missing}
use Rattle.simplex_state.proofs.state.State.verify_request.Goals as goal

pub returns-in_default-clause-answer : goal.returns-in_default-clause-answer
unfolding StandsFor
returns-in_default-clause-answer g c = λ made calls s. (
    let limit : c.admission_limit-limit.result ≡ admission_limit c.args.self.now.settings.terms.length c.args.self.now.settings.terms.lookahead c.args.self.now.progress.current = grind (arith, c.admission_limit-limit.ensures, c.lookahead.ensures.length, c.lookahead.ensures.views) in
    sym (request_wait made (known_of made calls)
    (sym (admitted_find c.args.self.now made (known_of made calls) c.admission_limit-limit.result (wants_verify (known_of made calls)) s limit)
    ∙ sym (c.in_default.ensures.least made (known_of made calls) s (current_kept c.args.self.now made (known_of made calls) s)))))

pub returns-in-Some-first_ready-clause-answer : goal.returns-in-Some-first_ready-clause-answer
unfolding StandsFor
returns-in-Some-first_ready-clause-answer g c = λ made calls s. (
    let limit : c.admission_limit-limit.result ≡ admission_limit c.args.self.now.settings.terms.length c.args.self.now.settings.terms.lookahead c.args.self.now.progress.current = grind (arith, c.admission_limit-limit.ensures, c.lookahead.ensures.length, c.lookahead.ensures.views) in
    let low = current_kept c.args.self.now made (known_of made calls) s in
    let first = c.in-Some.ensures.least made (known_of made calls) s low in
    let ready = c.in-Some-first_ready.ensures made calls s (omega (arith, low, c.in-Some.ensures.bounds.0)) in
    let facts = ready_facts made (known_of made calls) c.in-Some.first (c.admission_limit-limit.result + 1) c.in-Some-first_ready.view ready in
    c.ready_verify.ensures.answer made calls s (omega (arith, low, c.in-Some.ensures.bounds.0, facts.0)) facts.1
    ∙ request_ready made (known_of made calls) c.in-Some-first_ready.view
    (sym (admitted_find c.args.self.now made (known_of made calls) c.admission_limit-limit.result (λ v. wants_verify (known_of made calls) v && is_founded made (known_of made calls) v) s limit)
    ∙ sym (both_from made (known_of made calls) c.args.self.now.progress.current (c.admission_limit-limit.result + 1) c.in-Some.first (sym first))
    ∙ sym ready)
    facts.1)

pub returns-in-Some-first_ready-clause-fresh : goal.returns-in-Some-first_ready-clause-fresh
unfolding StandsFor
returns-in-Some-first_ready-clause-fresh g c = λ made calls s. (
    let low = current_kept c.args.self.now made (known_of made calls) s in
    let ready = c.in-Some-first_ready.ensures made calls s (omega (arith, low, c.in-Some.ensures.bounds.0)) in
    let facts = ready_facts made (known_of made calls) c.in-Some.first (c.admission_limit-limit.result + 1) c.in-Some-first_ready.view ready in
    c.ready_verify.ensures.fresh made calls s (omega (arith, low, c.in-Some.ensures.bounds.0, facts.0)) facts.2)

pub returns-in-None-clause-answer : goal.returns-in-None-clause-answer
unfolding StandsFor
returns-in-None-clause-answer g c = λ made calls s. (
    let limit : c.admission_limit-limit.result ≡ admission_limit c.args.self.now.settings.terms.length c.args.self.now.settings.terms.lookahead c.args.self.now.progress.current = grind (arith, c.admission_limit-limit.ensures, c.lookahead.ensures.length, c.lookahead.ensures.views) in
    let low = current_kept c.args.self.now made (known_of made calls) s in
    let first = c.in-Some.ensures.least made (known_of made calls) s low in
    let ready = c.in-None.ensures made calls s (omega (arith, low, c.in-Some.ensures.bounds.0)) in
    c.missing_verify.ensures.answer made calls s (omega (arith, low, c.in-Some.ensures.bounds.0))
    ∙ request_missing made (known_of made calls) c.in-Some.first
    (sym (admitted_find c.args.self.now made (known_of made calls) c.admission_limit-limit.result (λ v. wants_verify (known_of made calls) v && is_founded made (known_of made calls) v) s limit)
    ∙ sym (both_from made (known_of made calls) c.args.self.now.progress.current (c.admission_limit-limit.result + 1) c.in-Some.first (sym first))
    ∙ sym ready)
    (sym (admitted_find c.args.self.now made (known_of made calls) c.admission_limit-limit.result (wants_verify (known_of made calls)) s limit) ∙ sym first))
