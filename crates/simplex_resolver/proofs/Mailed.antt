-- What holds of each message in the handler's mailbox goes on to hold as messages come, are taken and lose their requesters.
use Rattle.std.proofs.Common.{◌≡◌, ◌-◌, ℕ, zero, suc, Bool, true, false, not, List, [], ◌∷◌, ◌++◌, length, map, filter, Option, Some, None, if◌then◌else◌}
use Rattle.std.proofs.lemmas.List.Elements.{All-append, All-filter, All-head, All-map, All-nil, All-push, All-tail, All-take, All-weaker}
use Rattle.std.specs.List.{All}
use Rattle.std.specs.Option.{option_map, option_to_list}
use Rattle.simplex_mailbox.specs.Waiting.{Waiting, front, in_turn, drained, behind, undrained_at, undrained}
use Rattle.simplex_mailbox.specs.Mail.{Mail, no_mail, has_room, enqueued, received, taken_from, after_recv, after_leave}
use Rattle.simplex_messages.specs.declared.resolver.HandlerMessage.{HandlerMessage}
use Rattle.simplex_messages.specs.declared.resolver.HandlerMessage.TheVariants as handler
use Rattle.simplex_messages.specs.Policies.{has_left, handler_leave, handler_handled}

-- it holds of each message that waits, and of each that is ready
pub record AllWaiting (P : HandlerMessage → Type 0) (waiting : Waiting HandlerMessage) : Type 0 where
  pub placed : All P (option_to_list waiting.place)
  pub rest : All P waiting.rest

pub record AllMail (P : HandlerMessage → Type 0) (mail : Mail HandlerMessage) : Type 0 where
  pub ready : All P mail.ready
  pub waiting : AllWaiting P mail.waiting

module _ (P : HandlerMessage → Type 0) where
  pub none-mailed : (size : ℕ) → AllMail P (no_mail size)
  none-mailed size = record { ready = All-nil P; waiting = record { placed = All-nil P; rest = All-nil P } }

  pub weaker-mailed : (Q : HandlerMessage → Type 0) → ((message : HandlerMessage) → P message → Q message) → (mail : Mail HandlerMessage) → AllMail P mail → AllMail Q mail
  weaker-mailed Q more mail all = record {
    ready = All-weaker P Q more mail.ready all.ready;
    waiting = record { placed = All-weaker P Q more (option_to_list mail.waiting.place) all.waiting.placed; rest = All-weaker P Q more mail.waiting.rest all.waiting.rest };
  }

  -- ---- one more

  handled-waits : (waiting : Waiting HandlerMessage) (message : HandlerMessage) → P message → AllWaiting P waiting → AllWaiting P (handler_handled waiting message)
  unfolding handler_handled
  handled-waits waiting (handler.Produce id view) p all = all
  handled-waits waiting (handler.Deliver id view bytes asks true) p all = record { placed = all.placed; rest = All-push P waiting.rest (handler.Deliver id view bytes asks true) all.rest p }
  handled-waits waiting (handler.Deliver id view bytes asks false) p all = all

  one-or-other : (test : Bool) (one other : Mail HandlerMessage) → AllMail P one → AllMail P other → AllMail P (if test then one else other)
  one-or-other true one other p q = p
  one-or-other false one other p q = q

  pub enqueued-mailed : (mail : Mail HandlerMessage) (message : HandlerMessage) → P message → AllMail P mail → AllMail P (enqueued handler_handled mail message)
  unfolding enqueued
  enqueued-mailed mail message p all =
      one-or-other mail.closed _ _ all
      (one-or-other (has_room mail) _ _
      (record { ready = All-push P mail.ready message all.ready p; waiting = all.waiting })
      (record { ready = all.ready; waiting = handled-waits mail.waiting message p all.waiting }))

  -- ---- the first is taken

  behind-all : (room : ℕ) (messages : List HandlerMessage) → All P messages → All P (behind has_left room messages)
  unfolding behind
  behind-all room [] all = all
  behind-all zero (message ∷ messages) all = all
  behind-all (suc room) (message ∷ messages) all = elim (has_left message) as (λ b. All P (if b then behind has_left (suc room) messages else behind has_left room messages)) [
    | true ↦ behind-all (suc room) messages (All-tail P message messages all)
    | false ↦ behind-all room messages (All-tail P message messages all)
  ]

  undrained-waits : (room : ℕ) (place : Option HandlerMessage) (rest : List HandlerMessage) → All P (option_to_list place) → All P rest → AllWaiting P (undrained_at has_left room place rest)
  unfolding undrained_at
  undrained-waits zero place rest p all = record { placed = p; rest = all }
  undrained-waits (suc room) None rest p all = record { placed = All-nil P; rest = behind-all (suc room) rest all }
  undrained-waits (suc room) (Some first) rest p all = record { placed = All-nil P; rest = behind-all room rest all }

  drained-all : (room : ℕ) (waiting : Waiting HandlerMessage) → AllWaiting P waiting → All P (drained has_left room waiting)
  unfolding drained in_turn
  drained-all room waiting all =
      All-take P room (option_to_list waiting.place ++ filter (λ message. not (has_left message)) waiting.rest)
      (All-append P (option_to_list waiting.place) (filter (λ message. not (has_left message)) waiting.rest) all.placed
      (All-filter (λ message. not (has_left message)) P waiting.rest all.rest))

  taken-mailed : (ready : List HandlerMessage) (mail : Mail HandlerMessage) → All P ready → AllMail P mail → AllMail P (taken_from has_left ready mail)
  unfolding taken_from undrained
  taken-mailed [] mail first all = all
  taken-mailed (message ∷ ready) mail first all =
      let room = mail.capacity - length ready in
      record {
        ready = All-append P ready (drained has_left room mail.waiting) (All-tail P message ready first) (drained-all room mail.waiting all.waiting);
        waiting = undrained-waits room mail.waiting.place mail.waiting.rest all.waiting.placed all.waiting.rest;
      }

  pub recv-mailed : (mail : Mail HandlerMessage) → AllMail P mail → AllMail P (after_recv has_left mail)
  unfolding after_recv
  recv-mailed mail all = taken-mailed mail.ready mail all.ready all

  front-is : (ready : List HandlerMessage) (message : HandlerMessage) → All P ready → front ready ≡ Some message → P message
  front-is [] message all is = cc
  front-is (first ∷ ready) message all is = let same : first ≡ message = cc in rw same at (All-head P first ready all)

  pub received-is : (mail : Mail HandlerMessage) (message : HandlerMessage) → AllMail P mail → received mail ≡ Some message → P message
  received-is mail message all is = front-is mail.ready message all.ready is

  -- ---- a requester left

  module _ (stays : (id : ℕ) (message : HandlerMessage) → P message → P (handler_leave id message)) where
    leave-all : (id : ℕ) (messages : List HandlerMessage) → All P messages → All P (map (handler_leave id) messages)
    leave-all id messages all = All-map P (handler_leave id) messages (All-weaker P (λ message. P (handler_leave id message)) (stays id) messages all)

    leave-placed : (id : ℕ) (place : Option HandlerMessage) → All P (option_to_list place) → All P (option_to_list (option_map (handler_leave id) place))
    leave-placed id None all = all
    leave-placed id (Some message) all = leave-all id (message ∷ []) all

    pub leave-mailed : (id : ℕ) (mail : Mail HandlerMessage) → AllMail P mail → AllMail P (after_leave handler_leave id mail)
    unfolding after_leave
    leave-mailed id mail all = record {
      ready = leave-all id mail.ready all.ready;
      waiting = record { placed = leave-placed id mail.waiting.place all.waiting.placed; rest = leave-all id mail.waiting.rest all.waiting.rest };
    }
