use Rattle.std.proofs.Common.{◌≡◌, ◌<◌, ◌≤◌, ◌+◌, ◌^◌, inl, inr, arith, rules}
use Rattle.std.proofs.lemmas.Grind.{common_steps}
use Rattle.simplex_values.specs.Terms.{next_of}
use Rattle.model_rules.specs.Calls.{known_of}
use Rattle.model_rules.specs.Requests.{may_propose}
use Rattle.simplex_state.specs.Stands.{StandsFor}
use Rattle.simplex_state.proofs.Following.{at_same, behind, none_to, unmet_next, propose_here, propose_later, propose_never}
use Rattle.simplex_state.proofs.Wanting.{current_kept}
use Rattle.simplex_state.proofs.state.State.first_admitted.Goals as goal
use Rattle.simplex_state.proofs.state.State.first_admitted.Goals.{else-is_met-via-then-is_met+else-may_propose-2, else-is_met-via-else-is_met}

pub returns-then-may_propose : goal.returns-then-may_propose
unfolding StandsFor
returns-then-may_propose g c = (
    λ made calls s.
    propose_here _ made (known_of made calls) c.admission_limit-limit.result s
    (grind (arith, c.admission_limit-limit.ensures, c.lookahead.ensures))
    (grind (arith, c.may_propose.ensures made calls s, c.if-may_propose.true)))

pub loop-parent-init : goal.loop-parent-init
loop-parent-init g c = (
  omega arith,
  λ made calls s q l h. at_same (may_propose made (known_of made calls)) c.args.self.now.progress.current q l h (grind (arith, c.may_propose.ensures made calls s, c.if-may_propose.false)),
)

pub returns-then-eq : goal.returns-then-eq
unfolding StandsFor
returns-then-eq g c = (
    let low : c.in-Some.parent < 2 ^ 64 = search rules in
    let last : c.in-Some.parent ≡ c.admission_limit-limit.result = grind (arith, c.eq.ensures, c.if-eq.true) in
    λ made calls s.
    propose_never _ made (known_of made calls) c.admission_limit-limit.result s
    (grind (arith, c.admission_limit-limit.ensures, c.lookahead.ensures))
    (λ q l h. none_to _ made (known_of made calls) c.loop-parent.view c.in-Some.parent s c.loop-parent.invariant.0 (omega (arith, low))
    c.in-Some.ensures.least (c.loop-parent.invariant.1 made calls s) q l (omega (arith, last, h))))

pub returns-then-may_propose-2 : goal.returns-then-may_propose-2
unfolding StandsFor next_of
returns-then-may_propose-2 g c = (
    let top : c.admission_limit-limit.result < 2 ^ 64 = search rules in
    let next : c.next-view.result ≡ c.in-Some.parent + 1 =
    grind (arith, common_steps, c.in-Some.ensures.bounds.1, c.eq.ensures, c.if-eq.false, c.next-view.ensures, top) in
    let within : c.next-view.result ≤ c.admission_limit-limit.result =
    grind (arith, common_steps, c.in-Some.ensures.bounds.1, c.eq.ensures, c.if-eq.false, c.next-view.ensures, top) in
    λ made calls s.
    propose_later _ made (known_of made calls) c.admission_limit-limit.result c.next-view.result s
    (grind (arith, c.admission_limit-limit.ensures, c.lookahead.ensures))
    (omega (arith, next, c.loop-parent.invariant.0, c.in-Some.ensures.bounds.0))
    within
    (λ q l h. none_to _ made (known_of made calls) c.loop-parent.view c.in-Some.parent s c.loop-parent.invariant.0 (omega (arith, next, within, top))
    c.in-Some.ensures.least (c.loop-parent.invariant.1 made calls s) q l (omega (arith, next, h)))
    (grind (arith, c.may_propose-then-is_met.ensures made calls s, c.if-may_propose-2.true)))

pub loop-parent-smaller : goal.loop-parent-smaller
unfolding next_of
loop-parent-smaller g c = (
    let top : c.admission_limit-limit.result < 2 ^ 64 = search rules in
    grind (arith, common_steps, c.in-Some.ensures.bounds.0, c.in-Some.ensures.bounds.1, c.eq.ensures, c.if-eq.false, c.next-view.ensures, top))

pub loop-parent-preserved : goal.loop-parent-preserved
unfolding StandsFor next_of
loop-parent-preserved g c = (
    let top : c.admission_limit-limit.result < 2 ^ 64 = search rules in
    let next : c.next-view.result ≡ c.in-Some.parent + 1 =
    grind (arith, common_steps, c.in-Some.ensures.bounds.1, c.eq.ensures, c.if-eq.false, c.next-view.ensures, top) in
    let within : c.next-view.result ≤ c.admission_limit-limit.result =
    grind (arith, common_steps, c.in-Some.ensures.bounds.1, c.eq.ensures, c.if-eq.false, c.next-view.ensures, top) in (
      omega (arith, next, c.loop-parent.invariant.0, c.in-Some.ensures.bounds.0),
      λ made calls s.
          none_to _ made (known_of made calls) c.next-view.result c.next-view.result s
          (omega (arith, next, c.loop-parent.invariant.0, c.in-Some.ensures.bounds.0))
          (omega (arith, within, top))
          (λ p l h. absurd (omega (arith, l, h)))
          (λ q l h. elim (behind q c.in-Some.parent) [
            | inl le ↦ none_to _ made (known_of made calls) c.loop-parent.view c.in-Some.parent s c.loop-parent.invariant.0 (omega (arith, next, within, top))
                c.in-Some.ensures.least (c.loop-parent.invariant.1 made calls s) q l le
            | inr lt ↦ at_same (may_propose made (known_of made calls)) c.next-view.result q (omega (arith, lt, next)) h
                (elim c.else-is_met.branch [
                  | else-is_met-via-then-is_met+else-may_propose-2 w ↦ grind (arith, w.may_propose-then-is_met.ensures made calls s, w.if-may_propose-2.false)
                  | else-is_met-via-else-is_met w ↦ unmet_next _ made (known_of made calls) c.in-Some.parent c.next-view.result s next
                      (omega (arith, c.loop-parent.invariant.0, c.in-Some.ensures.bounds.0))
                      (omega (arith, within, top))
                      (let kept = current_kept _ made (known_of made calls) s in
                      grind (arith, c.is_met.ensures made (known_of made calls) s (omega (arith, kept, c.loop-parent.invariant.0, c.in-Some.ensures.bounds.0)), w.if-is_met.false))
                ])
          ]),
    ))

pub returns : goal.returns
unfolding StandsFor
returns g c = (
    let top : c.admission_limit-limit.result < 2 ^ 64 = search rules in
    λ made calls s.
    propose_never _ made (known_of made calls) c.admission_limit-limit.result s
    (grind (arith, c.admission_limit-limit.ensures, c.lookahead.ensures))
    (none_to _ made (known_of made calls) c.loop-parent.view c.admission_limit-limit.result s c.loop-parent.invariant.0 (omega (arith, top))
    (λ p l h. c.in_default.ensures.none p l (omega (arith, h)))
    (c.loop-parent.invariant.1 made calls s)))
