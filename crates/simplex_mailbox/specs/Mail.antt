-- What a mailbox holds, and what comes of each call.
use Rattle.std.specs.Prelude.{ℕ, ◌-◌, ◌<◌, ◌≤◌, ◌==◌, nat_lt, Bool, true, false, ◌&&◌, if◌then◌else◌, IsTrue, List, [], ◌∷◌, ◌++◌, length, map, Option}
use Rattle.simplex_values.specs.declared.feedback.Feedback.{Feedback}
use Rattle.simplex_values.specs.declared.feedback.Feedback.TheVariants as feedback
use Rattle.simplex_mailbox.specs.Waiting.{Waiting, nothing, is_clear, without, front, drained, undrained}

-- at most so many messages that are ready to be taken, what waits for room, and whether the receiver is gone
pub record Mail (M : Type 0) : Type 0 where
  pub capacity : ℕ
  pub ready : List M
  pub waiting : Waiting M
  pub closed : Bool

-- what holds of each mailbox, whose ready queue has memory for so many messages: it has room for one at least, and
-- nothing waits while there is room
pub record Keeps {M : Type 0} (memory capacity : ℕ) (ready : List M) (waiting : Waiting M) : Type 0 where
  pub some_room : 0 < capacity
  pub has_memory : capacity ≤ memory
  pub within : length ready ≤ capacity
  pub waits_for_room : length ready < capacity → IsTrue (is_clear waiting)

module _ {M : Type 0} where
  -- an open mailbox that holds nothing
  abbrev pub no_mail : ℕ → Mail M
  no_mail capacity = record { capacity = capacity; ready = []; waiting = nothing; closed = false }

  -- whether nothing is held
  abbrev pub holds_nothing : Mail M → Bool
  holds_nothing mail = length mail.ready == 0 && is_clear mail.waiting

  -- whether one more message is ready at once
  abbrev pub has_room : Mail M → Bool
  has_room mail = is_clear mail.waiting && nat_lt (length mail.ready) mail.capacity

  -- what an enqueue is answered
  unfoldable pub feedback_of : Mail M → Feedback
  feedback_of mail = if mail.closed then feedback.Closed else if has_room mail then feedback.Ok else feedback.Backoff

  -- a message came: it is last among the ready ones where there is room, else the policy has it
  unfoldable pub enqueued : (handle : Waiting M → M → Waiting M) → Mail M → M → Mail M
  enqueued handle mail message =
      if mail.closed then mail
      else if has_room mail then record mail { ready = mail.ready ++ message ∷ [] }
      else record mail { waiting = handle mail.waiting message }

  -- these messages came, in this order
  unfoldable pub all_enqueued : (handle : Waiting M → M → Waiting M) → Mail M → List M → Mail M
  all_enqueued handle mail [] = mail
  all_enqueued handle mail (message ∷ messages) = all_enqueued handle (enqueued handle mail message) messages

  -- the message that is taken
  abbrev pub received : Mail M → Option M
  received mail = front mail.ready

  -- the first of these was taken: the others are ready, and what waits fills the room behind them
  unfoldable pub taken_from : (skips : M → Bool) → List M → Mail M → Mail M
  taken_from skips [] mail = mail
  taken_from skips (message ∷ ready) mail =
      let room = mail.capacity - length ready in
      record mail { ready = ready ++ drained skips room mail.waiting; waiting = undrained skips room mail.waiting }

  -- what is held once a message was taken
  unfoldable pub after_recv : (skips : M → Bool) → Mail M → Mail M
  after_recv skips mail = taken_from skips mail.ready mail

  -- the receiver is gone
  abbrev pub after_close : Mail M → Mail M
  after_close mail = record mail { closed = true }

  -- the requester of this number left
  unfoldable pub after_leave : (leave : ℕ → M → M) → ℕ → Mail M → Mail M
  after_leave leave id mail =
      record mail { ready = map (leave id) mail.ready; waiting = without leave id mail.waiting }
