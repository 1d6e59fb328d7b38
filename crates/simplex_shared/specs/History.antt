-- The calls of a shared mailbox in the order in which they took effect, and which such histories are legal.
use Rattle.std.specs.Prelude.{◌≡◌, ℕ, Bool, true, false, List, [], ◌∷◌}
use Rattle.std.specs.List.{FoldsTo}
use Rattle.simplex_mailbox.specs.Waiting.{Waiting}
use Rattle.simplex_mailbox.specs.Mail.{Mail, no_mail, feedback_of, enqueued, received, after_recv, after_close}
use Rattle.simplex_shared.specs.declared.op.Op.{Op}
use Rattle.simplex_shared.specs.declared.op.Op.TheVariants.{Put, Took, Shut}

module _ {M : Type 0} where
  -- the number of the pass that made the call
  abbrev pub caller_of : Op M → ℕ
  caller_of (Put caller message feedback) = caller
  caller_of (Took caller got) = caller
  caller_of (Shut caller) = caller

  -- whether one of the calls closed the mailbox
  abbrev pub is_shut : List (Op M) → Bool
  is_shut [] = false
  is_shut (Put caller message feedback ∷ calls) = is_shut calls
  is_shut (Took caller got ∷ calls) = is_shut calls
  is_shut (Shut caller ∷ calls) = true

module _ {M : Type 0} (handle : Waiting M → M → Waiting M) (skips : M → Bool) where
  -- the mailbox of one thread gives the call its answer where it holds the first, and holds the second then. A put into a
  -- closed mailbox is none of the calls
  abbrev pub Answers : Mail M → Op M → Mail M → Type 0
  Answers mail (Put caller message feedback) next =
      (mail.closed ≡ false) × (feedback ≡ feedback_of mail) × (next ≡ enqueued handle mail message)
  Answers mail (Took caller got) next = (got ≡ received mail) × (next ≡ after_recv skips mail)
  Answers mail (Shut caller) next = next ≡ after_close mail

  -- the mailbox of one thread, made with this capacity and given the calls one after another, gives each its answer, and
  -- holds this in the end
  abbrev pub Replays : ℕ → List (Op M) → Mail M → Type 0
  Replays capacity calls mail = FoldsTo Answers (no_mail capacity) calls mail

  -- a history that one thread could have made
  abbrev pub IsLegal : ℕ → List (Op M) → Type 0
  IsLegal capacity calls = (mail : Mail M) × Replays capacity calls mail
