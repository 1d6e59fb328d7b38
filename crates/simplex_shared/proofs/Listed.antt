-- Facts of each pass of a list, and of each call.
use Rattle.std.proofs.Common.{◌≡◌, ℕ, zero, suc, ◌<◌, ◌≤◌, ◌==◌, List, [], ◌∷◌, ◌++◌, Bool, true, false, ap, ◌∙◌, arith, eq-eqb, refl, append_assoc}
use Rattle.std.specs.Prelude.{if◌then◌else◌}
use Rattle.std.specs.List.{All}
use Rattle.std.proofs.lemmas.List.Elements.{All-nil, All-push}
use Rattle.simplex_shared.specs.Calls.{calls_by}
use Rattle.simplex_shared.specs.Passes.{SharedMailbox, Viewer, unused, unused_passes}

pub all_cons : {A : Type 0} (P : A → Type 0) (x : A) (xs : List A) → P x → All P xs → All P (x ∷ xs)
all_cons P x xs here others zero d below = here
all_cons P x xs here others (suc k) d below = others k d (omega arith)

pub all_before : {A : Type 0} (P : A → Type 0) (x : A) (all left rest new : List A) → all ≡ left ++ rest → left ≡ new ++ x ∷ [] → all ≡ new ++ (x ∷ rest)
all_before P x all left rest new a b = a ∙ ap (λ l. l ++ rest) b ∙ append_assoc new (x ∷ []) rest

module _ {E : Type 0} (caller : E → ℕ) where
  tail_none : (b : Bool) (x : E) (xs : List E) → (if b then x ∷ xs else xs) ≡ [] → xs ≡ []
  tail_none true x xs e = absurd (cc)
  tail_none false x xs e = e

  head_is_none : (b : Bool) (x : E) (xs : List E) → b ≡ true → (if b then x ∷ xs else xs) ≡ [] → ⊥
  head_is_none true x xs own e = cc
  head_is_none false x xs own e = cc

  -- where no pass with the number or a greater one made a call, each call is by a smaller one
  pub all_below : (number : ℕ) (log : List E) → ((other : ℕ) → number ≤ other → calls_by caller other log ≡ []) → All (λ call. caller call < number) log
  all_below number [] none = λ k d below. absurd (omega arith)
  all_below number (call ∷ calls) none =
      let not_above : ¬ (number ≤ caller call) = λ above. head_is_none (caller call == caller call) call (calls_by caller (caller call) calls) (eq-eqb (caller call) (caller call) refl) (none (caller call) above) in
      all_cons (λ call. caller call < number) call calls (omega arith) (all_below number calls (λ other above. tail_none (caller call == other) call (calls_by caller other calls) (none other above)))

module _ {M : Type 0} where
  -- passes that were just made are of their mailbox
  pub unused_are_of : (mailbox : SharedMailbox) (count : ℕ) → All (λ (pass : Viewer M). pass.mailbox ≡ mailbox) (unused_passes mailbox count)
  unused_are_of mailbox zero = All-nil (λ (pass : Viewer M). pass.mailbox ≡ mailbox)
  unused_are_of mailbox (suc count) = All-push (λ (pass : Viewer M). pass.mailbox ≡ mailbox) (unused_passes mailbox count) (unused mailbox count) (unused_are_of mailbox count) refl
