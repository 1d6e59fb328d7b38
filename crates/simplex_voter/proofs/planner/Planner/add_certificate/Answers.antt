use Rattle.std.proofs.Common.{ℕ, Bool, Option, ap, sym, ◌∙◌}
use Rattle.simplex_voter.proofs.Cases.{added-notarization, leader-notarization, added-finalization, leader-finalization}
use Rattle.simplex_voter.proofs.planner.Planner.add_certificate.Goals as goal

pub returns-in_ok-answer-in-Notarization-clause-added : goal.returns-in_ok-answer-in-Notarization-clause-added
returns-in_ok-answer-in-Notarization-clause-added g c = λ made answers doing s.
    rw c.in-Notarization.is
    (rw c.in_ok-keep-in-Notarization.ensures at (ap (λ (a : Bool × Option ℕ). a.0) (c.in_ok-answer-in-Notarization.ensures.answer made answers doing s) ∙ added-notarization made doing.desk.known _))

pub returns-in_ok-answer-in-Notarization-clause-leader : goal.returns-in_ok-answer-in-Notarization-clause-leader
returns-in_ok-answer-in-Notarization-clause-leader g c = λ h made answers doing s.
    let answer = c.in_ok-answer-in-Notarization.ensures.answer made answers doing s in
    rw c.in-Notarization.is
    (rw c.in_ok-keep-in-Notarization.ensures at (ap (λ (a : Bool × Option ℕ). a.1) answer ∙ leader-notarization made doing.desk.known _ (sym (ap (λ (a : Bool × Option ℕ). a.0) answer ∙ added-notarization made doing.desk.known _) ∙ h)))

pub returns-in_ok-answer-in-Finalization-clause-added : goal.returns-in_ok-answer-in-Finalization-clause-added
returns-in_ok-answer-in-Finalization-clause-added g c = λ made answers doing s.
    rw c.in-Finalization.is
    (rw c.in_ok-keep-in-Finalization.ensures at (ap (λ (a : Bool × Option ℕ). a.0) (c.in_ok-answer-in-Finalization.ensures.answer made answers doing s) ∙ added-finalization made doing.desk.known _))

pub returns-in_ok-answer-in-Finalization-clause-leader : goal.returns-in_ok-answer-in-Finalization-clause-leader
returns-in_ok-answer-in-Finalization-clause-leader g c = λ h made answers doing s.
    let answer = c.in_ok-answer-in-Finalization.ensures.answer made answers doing s in
    rw c.in-Finalization.is
    (rw c.in_ok-keep-in-Finalization.ensures at (ap (λ (a : Bool × Option ℕ). a.1) answer ∙ leader-finalization made doing.desk.known _ (sym (ap (λ (a : Bool × Option ℕ). a.0) answer ∙ added-finalization made doing.desk.known _) ∙ h)))

pub returns-in_ok-is_added-in-Nullification-clause-added : goal.returns-in_ok-is_added-in-Nullification-clause-added
returns-in_ok-is_added-in-Nullification-clause-added g c = λ made answers doing s.
    rw c.in-Nullification.is (rw c.in_ok-keep-in-Nullification.ensures at (c.in_ok-is_added-in-Nullification.ensures.answer made answers doing s))
