-- The calls by which messages are handed over.
use Rattle.std.specs.Prelude.{◌≡◌, ℕ, ◌<◌, All, List, [], ◌∷◌, ◌++◌, Bool, Option, Some, None}
use Rattle.std.specs.List.{filter_map}
use Rattle.simplex_mailbox.specs.Waiting.{Waiting}
use Rattle.simplex_mailbox.specs.Mail.{Mail, received, after_recv}
use Rattle.simplex_messages.specs.declared.handed.Handed.{Handed}
use Rattle.simplex_messages.specs.declared.step.StepOut.{StepOut}
use Rattle.simplex_shared.specs.declared.op.Op.{Op}
use Rattle.simplex_shared.specs.declared.op.Op.TheVariants.{Put}
use Rattle.simplex_shared.specs.History.{caller_of, IsLegal}

module _ {M : Type 0} where
  -- a mailbox of one thread is emptied: its messages come in this order
  unfoldable pub Drains : (skips : M → Bool) → Mail M → List M → Type 0
  Drains skips mail [] = received mail ≡ None
  Drains skips mail (message ∷ rest) = (received mail ≡ Some message) × Drains skips (after_recv skips mail) rest

  -- the calls put these messages, one by one, whatever each was answered
  unfoldable pub Puts : List M → List (Op M) → Type 0
  Puts [] [] = Unit {0}
  Puts (message ∷ rest) (Put caller put feedback ∷ calls) = (put ≡ message) × Puts rest calls
  Puts _ _ = ⊥

  -- the calls put what the mailbox of one thread holds, in the order in which it would be taken
  pub record Filled (skips : M → Bool) (mailbox : Mail M) (calls : List (Op M)) : Type 0 where
    pub held : List M
    pub drains : Drains skips mailbox held
    pub puts : Puts held calls

  -- a legal history of a mailbox of this capacity, with calls of so many passes
  pub record IsRecord (handle : Waiting M → M → Waiting M) (skips : M → Bool) (capacity passes : ℕ)
      (log : List (Op M)) : Type 0 where
    pub legal : IsLegal handle skips capacity log
    pub callers : All (λ call. caller_of call < passes) log

  -- behind the earlier calls stand those that put these messages
  abbrev pub PutsBehind : List M → List (Op M) → List (Op M) → Type 0
  PutsBehind messages before after = (calls : List (Op M)) × (after ≡ before ++ calls) × Puts messages calls

  -- what steps handed on for one mailbox, in order
  unfoldable pub handed_on : (Handed → Option M) → List StepOut → List M
  handed_on for_it [] = []
  handed_on for_it (out ∷ outs) = filter_map for_it out.handed ++ handed_on for_it outs
