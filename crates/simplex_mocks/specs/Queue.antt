-- The mailbox of an application: calls that wait, the oldest first, and the number of the next request.
use Rattle.std.specs.Prelude.{◌≡◌, ℕ, ◌+◌, ◌%◌, ◌^◌, List, [], ◌∷◌, ◌++◌, drop, Option, Some, None, Result, MatchResult}
use Rattle.std.specs.declared.alloc.AllocError.{AllocError}
use Rattle.simplex_values.specs.declared.feedback.Feedback.{Feedback}
use Rattle.simplex_values.specs.declared.feedback.Feedback.TheVariants as feedback
use Rattle.simplex_values.specs.declared.plan.Plan.{Plan}
use Rattle.simplex_mocks.specs.declared.message.Message.{Message}
use Rattle.simplex_mocks.specs.declared.message.Message.TheVariants as messages

pub record Queue : Type 0 where
  pub waiting : List Message
  pub next : ℕ

abbrev pub empty_queue : Queue
empty_queue = record { waiting = []; next = 0 }

-- a request goes last under the next number
unfoldable pub asked : Queue → (ℕ → Message) → Queue
asked queue request = record { waiting = queue.waiting ++ request queue.next ∷ []; next = (queue.next + 1) % 2 ^ 64 }

-- a payload to be relayed has no number
unfoldable pub told : Queue → List ℕ → Plan → Queue
told queue payload plan = record queue { waiting = queue.waiting ++ messages.Broadcast payload plan ∷ [] }

abbrev pub first_of : List Message → Option Message
first_of [] = None
first_of (message ∷ later) = Some message

-- without the message that waited longest
unfoldable pub after_take : Queue → Queue
after_take queue = record queue { waiting = drop 1 queue.waiting }

-- the answer is the number under which the request went last, and for want of memory nothing is asked
abbrev pub Asks : Queue → (ℕ → Message) → Result ℕ AllocError → Queue → Type 0
Asks before request answer after =
    MatchResult answer (λ number. (number ≡ before.next) × (after ≡ asked before request)) (λ _. after ≡ before)

-- the answer is that all is well, and the payload went last, and for want of memory nothing is told
abbrev pub Tells : Queue → List ℕ → Plan → Result Feedback AllocError → Queue → Type 0
Tells before payload plan answer after =
    MatchResult answer (λ fed. (fed ≡ feedback.Ok) × (after ≡ told before payload plan)) (λ _. after ≡ before)
