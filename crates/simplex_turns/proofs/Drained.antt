-- A mailbox of one thread that is emptied.
use Rattle.std.proofs.Common.{◌≡◌, ℕ, ◌+◌, ◌-◌, ◌<◌, Bool, List, [], ◌∷◌, ◌++◌, Some, None, length, drop, refl, sym, ap, subst, arith, length-append, append_assoc, append-nil}
use Rattle.simplex_mailbox.specs.Waiting.{front, in_turn, drained, undrained}
use Rattle.simplex_mailbox.specs.Mail.{Mail, received, taken_from, after_recv}
use Rattle.simplex_mailbox.proofs.Turns.{drained-undrained}
use Rattle.simplex_turns.specs.Handing.{Drains}

module _ {M : Type 0} (skips : M → Bool) where
  -- how many messages are still to be taken
  abbrev pub left_in : Mail M → ℕ
  left_in mail = length mail.ready + length (in_turn skips mail.waiting)

  fewer-at : (mail : Mail M) (ready : List M) (message : M) → mail.ready ≡ ready → front ready ≡ Some message → left_in (taken_from skips ready mail) < left_in mail
  unfolding taken_from
  fewer-at mail [] message is took = cc
  fewer-at mail (first ∷ ready) message is took =
      let room = mail.capacity - length ready in
      let all = ap length (drained-undrained skips room mail.waiting) in
      let now = ap length is in
      let size = length-append (drained skips room mail.waiting) (in_turn skips (undrained skips room mail.waiting)) in
      omega (arith, all, now, size, length-append ready (drained skips room mail.waiting))

  -- one fewer, once one was taken
  pub fewer-left : (mail : Mail M) (message : M) → received mail ≡ Some message → left_in (after_recv skips mail) < left_in mail
  unfolding after_recv
  fewer-left mail message took = fewer-at mail mail.ready message refl took

  -- these messages came out of the one mailbox before it was the other
  abbrev pub Came : Mail M → List M → Mail M → Type 0
  Came before messages now = (rest : List M) → Drains skips now rest → Drains skips before (messages ++ rest)

  pub came-none : (mail : Mail M) → Came mail [] mail
  came-none mail = λ rest drains. drains

  first-drains : (mail : Mail M) (message : M) (rest : List M) → received mail ≡ Some message → Drains skips (after_recv skips mail) rest → Drains skips mail (message ∷ rest)
  unfolding Drains
  first-drains mail message rest took drains = (took, drains)

  pub came-more : (before mid : Mail M) (messages : List M) (message : M) → received mid ≡ Some message → Came before messages mid → Came before (messages ++ message ∷ []) (after_recv skips mid)
  came-more before mid messages message took came = λ rest drains.
      subst (λ all. Drains skips before all) (sym (append_assoc messages (message ∷ []) rest)) (came (message ∷ rest) (first-drains mid message rest took drains))

  none-drains : (mail : Mail M) → received mail ≡ None → Drains skips mail []
  unfolding Drains
  none-drains mail none = none

  pub came-all : (before now : Mail M) (messages : List M) → received now ≡ None → Came before messages now → Drains skips before messages
  came-all before now messages none came = subst (λ all. Drains skips before all) (append-nil messages) (came [] (none-drains now none))

module _ {M : Type 0} where
  -- a list of which nothing comes is empty
  pub none-left : (list rest : List M) → list ≡ rest → rest ≡ drop 1 list → list ≡ []
  none-left [] rest same next = refl
  none-left (message ∷ list) rest same next = let size = ap length same in let shorter = ap length next in absurd (omega (arith, size, shorter))
