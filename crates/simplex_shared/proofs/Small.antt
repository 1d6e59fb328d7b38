-- The small histories.
use Rattle.std.proofs.Common.{◌≡◌, ℕ, [], ◌∷◌, true, false, Some, None, refl, sym, ap, ◌∙◌}
use Rattle.simplex_values.specs.declared.feedback.Feedback.TheVariants as feedback
use Rattle.simplex_mailbox.specs.Waiting.{put_last}
use Rattle.simplex_mailbox.specs.Mail.{Mail, no_mail, feedback_of, enqueued, received, after_recv, after_close}
use Rattle.simplex_shared.specs.declared.op.Op.TheVariants.{Put, Took, Shut}
use Rattle.simplex_shared.specs.Samples.{IsLegalHere, four_calls}

abbrev after_one : Mail ℕ
after_one = enqueued put_last (no_mail 1) 2

abbrev after_two : Mail ℕ
after_two = enqueued put_last after_one 4

abbrev after_three : Mail ℕ
after_three = after_recv (λ message. false) after_two

pub four_are_legal : IsLegalHere four_calls
unfolding feedback_of enqueued
four_are_legal = (
  after_close after_three,
  (after_one, (refl, refl, refl), (after_two, (refl, refl, refl), (after_three, (refl, refl), (after_close after_three, refl, refl)))),
)

true_is_not_false : true ≡ false → ⊥
true_is_not_false e = cc

pub no_put_behind_a_shut : IsLegalHere (Shut 1 ∷ Put 0 5 feedback.Ok ∷ []) → ⊥
no_put_behind_a_shut h = let folds = h.1 in true_is_not_false (sym (ap (λ (m : Mail ℕ). m.closed) folds.1) ∙ folds.2.1.0)

some_is_not_none : (x : ℕ) → Some x ≡ None → ⊥
some_is_not_none x e = cc

pub none_invented : IsLegalHere (Took 1 (Some 3) ∷ []) → ⊥
none_invented h = some_is_not_none 3 h.1.1.0

pub none_forgotten : IsLegalHere (Put 0 2 feedback.Ok ∷ Took 1 None ∷ []) → ⊥
unfolding enqueued
none_forgotten h = let folds = h.1 in some_is_not_none 2 (sym (folds.2.1.0 ∙ ap (λ (m : Mail ℕ). received m) folds.1.2))
