-- The worse of several answers, in any order.
use Rattle.std.proofs.Common.{◌≡◌, ◌∙◌, refl, sym, ap}
use Rattle.simplex_values.specs.declared.feedback.Feedback.{Feedback}
use Rattle.simplex_values.specs.declared.feedback.Feedback.TheVariants as feedback
use Rattle.simplex_report.specs.Combined.{worse}

pub worse-order : (a b : Feedback) → worse a b ≡ worse b a
unfolding worse
worse-order feedback.Ok feedback.Ok = refl
worse-order feedback.Ok feedback.Backoff = refl
worse-order feedback.Ok feedback.Closed = refl
worse-order feedback.Backoff feedback.Ok = refl
worse-order feedback.Backoff feedback.Backoff = refl
worse-order feedback.Backoff feedback.Closed = refl
worse-order feedback.Closed feedback.Ok = refl
worse-order feedback.Closed feedback.Backoff = refl
worse-order feedback.Closed feedback.Closed = refl

pub worse-ok : (a : Feedback) → worse feedback.Ok a ≡ a
unfolding worse
worse-ok feedback.Ok = refl
worse-ok feedback.Backoff = refl
worse-ok feedback.Closed = refl

pub worse-same : (a : Feedback) → worse a a ≡ a
unfolding worse
worse-same feedback.Ok = refl
worse-same feedback.Backoff = refl
worse-same feedback.Closed = refl

pub worse-grouping : (a b c : Feedback) → worse (worse a b) c ≡ worse a (worse b c)
unfolding worse
worse-grouping feedback.Closed b c = refl
worse-grouping feedback.Ok b c = ap (λ a. worse a c) (worse-ok b) ∙ sym (worse-ok (worse b c))
worse-grouping feedback.Backoff feedback.Closed c = refl
worse-grouping feedback.Backoff feedback.Ok c = ap (worse feedback.Backoff) (sym (worse-ok c))
worse-grouping feedback.Backoff feedback.Backoff feedback.Ok = refl
worse-grouping feedback.Backoff feedback.Backoff feedback.Backoff = refl
worse-grouping feedback.Backoff feedback.Backoff feedback.Closed = refl
