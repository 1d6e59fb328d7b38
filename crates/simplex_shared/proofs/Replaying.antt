-- A history one call longer, and what the mailbox holds that it leaves.
use Rattle.std.proofs.Common.{◌≡◌, ◌≢◌, ℕ, List, [], ◌∷◌, ◌++◌, Bool, true, false, refl, sym, ap, ◌∙◌, subst}
use Rattle.std.specs.Prelude.{if◌then◌else◌}
use Rattle.std.specs.List.{FoldsTo}
use Rattle.simplex_values.specs.declared.feedback.Feedback.TheVariants as feedback
use Rattle.simplex_mailbox.specs.Waiting.{Waiting}
use Rattle.simplex_mailbox.specs.Mail.{Mail, no_mail, has_room, feedback_of, enqueued, taken_from, after_recv}
use Rattle.simplex_shared.specs.declared.op.Op.{Op}
use Rattle.simplex_shared.specs.declared.op.Op.TheVariants.{Put, Took, Shut}
use Rattle.simplex_shared.specs.History.{is_shut, Answers as AnswersOf, Replays as ReplaysOf}

open_answer : (shut room : Bool) → shut ≡ false → (if shut then feedback.Closed else if room then feedback.Ok else feedback.Backoff) ≢ feedback.Closed
open_answer true room not_shut is = cc
open_answer false true not_shut is = cc
open_answer false false not_shut is = cc

folds-snoc : {P A : Type 0} (R : P → A → P → Type 0) (p q r : P) (xs : List A) (x : A) → FoldsTo R p xs q → R q x r → FoldsTo R p (xs ++ x ∷ []) r
folds-snoc R p q r [] x same last = (r, subst (λ s. R s x r) (sym same) last, refl)
folds-snoc R p q r (y ∷ xs) x folds last = (folds.0, folds.1, folds-snoc R folds.0 q r xs x folds.2 last)

module _ {M : Type 0} where
  -- neither a put nor a take changes the capacity, or closes the mailbox
  abbrev SameFrame : Mail M → Mail M → Type 0
  SameFrame mail next = (next.capacity ≡ mail.capacity) × (next.closed ≡ mail.closed)

  either_frame : (b : Bool) (mail x y : Mail M) → SameFrame mail x → SameFrame mail y → SameFrame mail (if b then x else y)
  either_frame true mail x y p q = p
  either_frame false mail x y p q = q

  pub frame-enqueued : (handle : Waiting M → M → Waiting M) (mail : Mail M) (message : M) → SameFrame mail (enqueued handle mail message)
  unfolding enqueued
  frame-enqueued handle mail message = either_frame mail.closed mail _ _ (refl, refl) (either_frame (has_room mail) mail _ _ (refl, refl) (refl, refl))

  frame-taken : (skips : M → Bool) (ready : List M) (mail : Mail M) → SameFrame mail (taken_from skips ready mail)
  unfolding taken_from
  frame-taken skips [] mail = (refl, refl)
  frame-taken skips (message ∷ ready) mail = (refl, refl)

  pub frame-received : (skips : M → Bool) (mail : Mail M) → SameFrame mail (after_recv skips mail)
  unfolding after_recv
  frame-received skips mail = frame-taken skips mail.ready mail

  -- an open mailbox never answers that it is closed
  pub open-feedback : (mail : Mail M) → mail.closed ≡ false → feedback_of mail ≢ feedback.Closed
  unfolding feedback_of
  open-feedback mail not_closed = open_answer mail.closed (has_room mail) not_closed

module _ {M : Type 0} (handle : Waiting M → M → Waiting M) (skips : M → Bool) where
  abbrev Answers : Mail M → Op M → Mail M → Type 0
  Answers = AnswersOf handle skips

  abbrev Replays : ℕ → List (Op M) → Mail M → Type 0
  Replays = ReplaysOf handle skips

  -- the history goes on with this call
  pub replays-more : (mail next : Mail M) (log now : List (Op M)) (call : Op M) → Replays mail.capacity log mail → now ≡ log ++ call ∷ [] → next.capacity ≡ mail.capacity → Answers mail call next → Replays next.capacity now next
  replays-more mail next log now call so_far grown same answers =
      subst (λ (c : ℕ). Replays c now next) (sym same) (subst (λ l. Replays mail.capacity l next) (sym grown) (folds-snoc Answers (no_mail mail.capacity) mail next log call so_far answers))

  stays_closed : (first last : Mail M) (log : List (Op M)) → first.closed ≡ true → FoldsTo Answers first log last → last.closed ≡ true
  stays_closed first last [] closed folds = ap (λ (m : Mail M). m.closed) (sym folds) ∙ closed
  stays_closed first last (Put caller message feedback ∷ log) closed folds = absurd (true_is_not_false (sym closed ∙ folds.1.0))
    where
      true_is_not_false : true ≡ false → ⊥
      true_is_not_false e = cc
  stays_closed first last (Took caller got ∷ log) closed folds = stays_closed folds.0 last log (ap (λ (m : Mail M). m.closed) folds.1.1 ∙ (frame-received skips first).1 ∙ closed) folds.2
  stays_closed first last (Shut caller ∷ log) closed folds = stays_closed folds.0 last log (ap (λ (m : Mail M). m.closed) folds.1) folds.2

  closed_by : (first last : Mail M) (log : List (Op M)) → first.closed ≡ false → FoldsTo Answers first log last → last.closed ≡ is_shut log
  closed_by first last [] not_closed folds = ap (λ (m : Mail M). m.closed) (sym folds) ∙ not_closed
  closed_by first last (Put caller message feedback ∷ log) not_closed folds = closed_by folds.0 last log (ap (λ (m : Mail M). m.closed) folds.1.2 ∙ (frame-enqueued handle first message).1 ∙ not_closed) folds.2
  closed_by first last (Took caller got ∷ log) not_closed folds = closed_by folds.0 last log (ap (λ (m : Mail M). m.closed) folds.1.1 ∙ (frame-received skips first).1 ∙ not_closed) folds.2
  closed_by first last (Shut caller ∷ log) not_closed folds = stays_closed folds.0 last log (ap (λ (m : Mail M). m.closed) folds.1) folds.2

  -- the mailbox is closed where the history has the call that closes it
  pub replays-closed : (capacity : ℕ) (log : List (Op M)) (mail : Mail M) → Replays capacity log mail → mail.closed ≡ is_shut log
  replays-closed capacity log mail = closed_by (no_mail capacity) mail log refl
