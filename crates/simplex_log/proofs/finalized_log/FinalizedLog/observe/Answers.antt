use Rattle.std.proofs.Common.{◌≡◌, Bool, true, false, ap, sym, ◌∙◌}
use Rattle.std.proofs.lemmas.Result.{on_ok_weaker, on_err_weaker}
use Rattle.simplex_types.specs.declared.activity.Activity.{Activity}
use Rattle.model_log.specs.Links.{links_of, finals_of}
use Rattle.simplex_log.specs.Stands.{StandsFor}
use Rattle.simplex_log.proofs.Taking.{kept_more, kept_same, answered, nothing}
use Rattle.simplex_log.proofs.finalized_log.FinalizedLog.observe.Goals as goal

pub returns-then-not-verify-clause-answer : goal.returns-then-not-verify-clause-answer
unfolding StandsFor
returns-then-not-verify-clause-answer g c = λ verifies taken stands.
    let it = c.args.activity.now in
    let invalid : verifies it ≡ false = ap (λ (test : Activity → Bool). test it) stands.0 ∙ sym c.verify.ensures ∙ c.if-not-verify.true in
    nothing verifies taken it invalid

pub returns-then-not-verify-clause-taken : goal.returns-then-not-verify-clause-taken
unfolding StandsFor
returns-then-not-verify-clause-taken g c = λ verifies taken stands.
    let it = c.args.activity.now in
    let invalid : verifies it ≡ false = ap (λ (test : Activity → Bool). test it) stands.0 ∙ sym c.verify.ensures ∙ c.if-not-verify.true in
    (stands.0, kept_same verifies taken it invalid c.args.self.now.kept stands.1)

pub returns-clause-answer : goal.returns-clause-answer
unfolding StandsFor
returns-clause-answer g c = λ verifies taken stands.
    let it = c.args.activity.now in
    let links = links_of verifies taken in
    let finals = finals_of verifies taken in
    let valid : verifies it ≡ true = ap (λ (test : Activity → Bool). test it) stands.0 ∙ sym c.verify.ensures ∙ c.if-not-verify.false in
    let after = on_ok_weaker c.take.result (λ ok. kept_more verifies taken it valid c.take.new.self (ok links finals stands.1)) c.take.ensures.ok in
    answered verifies taken it valid c.args.self.now.kept c.take.new.self c.take.result stands.1 after (c.take.ensures.answer links finals stands.1)

pub returns-clause-taken : goal.returns-clause-taken
unfolding StandsFor
returns-clause-taken g c = on_ok_weaker c.take.result (λ ok. λ verifies taken stands.
    let it = c.args.activity.now in
    let valid : verifies it ≡ true = ap (λ (test : Activity → Bool). test it) stands.0 ∙ sym c.verify.ensures ∙ c.if-not-verify.false in
    (stands.0, kept_more verifies taken it valid c.take.new.self (ok (links_of verifies taken) (finals_of verifies taken) stands.1))) c.take.ensures.ok

pub returns-clause-same : goal.returns-clause-same
unfolding StandsFor
returns-clause-same g c = on_err_weaker c.take.result (λ err. λ verifies taken stands.
    (stands.0, err (links_of verifies taken) (finals_of verifies taken) stands.1)) c.take.ensures.err
