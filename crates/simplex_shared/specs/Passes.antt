-- What a pass knows of the history, and what comes of its calls.
use Rattle.std.specs.Prelude.{◌≡◌, ℕ, zero, suc, List, [], ◌∷◌, ◌++◌, length, true, false}
use Rattle.atomic_table.specs.Seated.{TableId}
use Rattle.simplex_shared.specs.declared.terms.Terms.{Terms}
use Rattle.simplex_shared.specs.declared.op.Op.{Op}
use Rattle.simplex_shared.specs.declared.error.MailError.{MailError}
use Rattle.simplex_shared.specs.declared.error.MailError.TheVariants.{Closed, Memory}
use Rattle.simplex_shared.specs.Calls.{calls_by, places_by}
use Rattle.simplex_shared.specs.History.{caller_of, is_shut}

-- which shared mailbox it is, and what it was made with
pub record SharedMailbox : Type 0 where
  pub table : TableId
  pub terms : Terms

-- a pass: its mailbox, its number, and the history as far as it has seen it
pub record Viewer (M : Type 0) : Type 0 where
  pub mailbox : SharedMailbox
  pub number : ℕ
  pub seen : List (Op M)

module _ {M : Type 0} where
  -- the calls of the pass, in order
  abbrev pub calls_of : Viewer M → List (Op M)
  calls_of pass = calls_by caller_of pass.number pass.seen

  -- the places of these calls in the history, counted from 0
  abbrev pub places_of : Viewer M → List ℕ
  places_of pass = places_by caller_of pass.number 0 pass.seen

  -- a pass that made no call yet
  abbrev pub unused : SharedMailbox → ℕ → Viewer M
  unused mailbox number = record { mailbox = mailbox; number = number; seen = [] }

  -- so many of them, numbered from 0 on
  abbrev pub unused_passes : SharedMailbox → ℕ → List (Viewer M)
  unused_passes mailbox zero = []
  unused_passes mailbox (suc count) = unused_passes mailbox count ++ unused mailbox count ∷ []

  -- the history begins with all that the pass has seen, and goes on without a call of its own
  abbrev pub GoesOn : Viewer M → List (Op M) → Type 0
  GoesOn pass history =
      (others : List (Op M)) × (history ≡ pass.seen ++ others) × (calls_by caller_of pass.number others ≡ [])

  -- so it goes on, and ends with this call, which the pass made
  abbrev pub EndsWith : Viewer M → Op M → List (Op M) → Type 0
  EndsWith pass call history = (front : List (Op M)) × GoesOn pass front × (history ≡ front ++ call ∷ [])

  -- it is the same pass of the same mailbox, however far it has seen the history
  abbrev pub IsSamePass : Viewer M → Viewer M → Type 0
  IsSamePass before after = (after.mailbox ≡ before.mailbox) × (after.number ≡ before.number)

  -- why the message was not put, where the pass has seen this history then
  abbrev pub Refuses : M → List (Op M) → MailError M → Type 0
  Refuses message seen (Closed front back) = (is_shut seen ≡ true) × (front ≡ length seen) × (back ≡ message)
  Refuses message seen (Memory back) = (is_shut seen ≡ false) × (back ≡ message)
