-- What holds of each message that is put into a mailbox holds of each that it keeps.
use Rattle.std.proofs.Common.{◌≡◌, ℕ, zero, suc, ◌-◌, ◌||◌, not, Bool, true, false, List, [], ◌∷◌, ◌++◌, length, map, filter, Option, Some, None, option_to_list, subst, if◌then◌else◌}
use Rattle.std.specs.List.{list_any}
use Rattle.simplex_mailbox.specs.Waiting.{Waiting, put_last, front, in_turn, drained, behind, undrained_at, undrained}
use Rattle.simplex_mailbox.specs.Mail.{Mail, no_mail, has_room, enqueued, all_enqueued, received, taken_from, after_recv}
use Rattle.simplex_messages.specs.declared.batcher.Message as batcher_message
use Rattle.simplex_messages.specs.declared.batcher.Message.TheVariants as batcher
use Rattle.simplex_messages.specs.Policies.{outdates_message, is_as_great, is_outdated, stands_for_batcher, batcher_handled}
use Rattle.law_run.specs.Sayings.{Each}
use Rattle.law_run.proofs.Speaking.{Each-append}
use Rattle.law_run.proofs.Telling.{Each-take}

Each-filter : {A : Type 0} (P : A → Type 0) (test : A → Bool) (xs : List A) → Each P xs → Each P (filter test xs)
Each-filter P test [] h = tt
Each-filter P test (x ∷ xs) h = at (test x) (Each-filter P test xs h.1)
  where
    at : (b : Bool) → Each P (filter test xs) → Each P (if b then x ∷ filter test xs else filter test xs)
    at true rest = (h.0, rest)
    at false rest = rest

Each-through : {A : Type 0} (P : A → Type 0) (f : A → A) (xs : List A) → ((a : A) → P a → P (f a)) → Each P xs → Each P (map f xs)
Each-through P f [] keeps h = tt
Each-through P f (x ∷ xs) keeps h = (keeps x h.0, Each-through P f xs keeps h.1)

module _ {M : Type 0} (P : M → Type 0) where
  abbrev pub InPlace : Option M → Type 0
  InPlace None = Unit {0}
  InPlace (Some message) = P message

  pub record Waits (waiting : Waiting M) : Type 0 where
    pub place : InPlace waiting.place
    pub rest : Each P waiting.rest

  pub record Holds (mail : Mail M) : Type 0 where
    pub ready : Each P mail.ready
    pub waiting : Waits mail.waiting

  pub holds_nothing : (capacity : ℕ) → Holds (no_mail capacity)
  holds_nothing capacity = record { ready = tt; waiting = record { place = tt; rest = tt } }

  pub holds_one : (handle : Waiting M → M → Waiting M) → ((w : Waiting M) (message : M) → Waits w → P message → Waits (handle w message)) → (mail : Mail M) (message : M)
      → Holds mail → P message → Holds (enqueued handle mail message)
  unfolding enqueued
  holds_one handle keeps mail message h p = at mail.closed (has_room mail)
    where
      at : (closed room : Bool) → Holds (if closed then mail
          else if room then record mail { ready = mail.ready ++ message ∷ [] }
          else record mail { waiting = handle mail.waiting message })
      at true room = h
      at false true = record { ready = Each-append P mail.ready (message ∷ []) h.ready (p, tt); waiting = h.waiting }
      at false false = record { ready = h.ready; waiting = keeps mail.waiting message h.waiting p }

  pub holds_all : (handle : Waiting M → M → Waiting M) → ((w : Waiting M) (message : M) → Waits w → P message → Waits (handle w message)) → (mail : Mail M) (messages : List M)
      → Holds mail → Each P messages → Holds (all_enqueued handle mail messages)
  unfolding all_enqueued
  holds_all handle keeps mail [] h p = h
  holds_all handle keeps mail (message ∷ messages) h p = holds_all handle keeps (enqueued handle mail message) messages (holds_one handle keeps mail message h p.0) p.1

  placed : (o : Option M) → InPlace o → Each P (option_to_list o)
  placed None p = tt
  placed (Some message) p = (p, tt)

  turns : (skips : M → Bool) (w : Waiting M) → Waits w → Each P (in_turn skips w)
  unfolding in_turn
  turns skips w h = Each-append P (option_to_list w.place) _ (placed w.place h.place) (Each-filter P (λ message. not (skips message)) w.rest h.rest)

  left_behind : (skips : M → Bool) (room : ℕ) (xs : List M) → Each P xs → Each P (behind skips room xs)
  unfolding behind
  left_behind skips room [] h = tt
  left_behind skips zero (x ∷ xs) h = h
  left_behind skips (suc room) (x ∷ xs) h = at (skips x) (left_behind skips (suc room) xs h.1) (left_behind skips room xs h.1)
    where
      at : (b : Bool) → Each P (behind skips (suc room) xs) → Each P (behind skips room xs) → Each P (if b then behind skips (suc room) xs else behind skips room xs)
      at true more less = more
      at false more less = less

  left_waiting : (skips : M → Bool) (room : ℕ) (place : Option M) (rest : List M) → InPlace place → Each P rest → Waits (undrained_at skips room place rest)
  unfolding undrained_at
  left_waiting skips zero place rest p h = record { place = p; rest = h }
  left_waiting skips (suc room) None rest p h = record { place = tt; rest = left_behind skips (suc room) rest h }
  left_waiting skips (suc room) (Some first) rest p h = record { place = tt; rest = left_behind skips room rest h }

  pub holds_after : (skips : M → Bool) (mail : Mail M) → Holds mail → Holds (after_recv skips mail)
  unfolding after_recv taken_from drained undrained
  holds_after skips mail h = at mail.ready h.ready
    where
      at : (ready : List M) → Each P ready → Holds (taken_from skips ready mail)
      at [] r = h
      at (message ∷ ready) r =
          let room = mail.capacity - length ready in
          record {
            ready = Each-append P ready _ r.1 (Each-take P room (in_turn skips mail.waiting) (turns skips mail.waiting h.waiting));
            waiting = left_waiting skips room mail.waiting.place mail.waiting.rest h.waiting.place h.waiting.rest;
          }

  first_of : (ready : List M) (message : M) → Each P ready → front ready ≡ Some message → P message
  first_of [] message h e = cc
  first_of (x ∷ xs) message h e = let same : x ≡ message = cc in subst P same h.0

  pub holds_received : (mail : Mail M) (message : M) → Holds mail → received mail ≡ Some message → P message
  holds_received mail message h e = first_of mail.ready message h.ready e

-- ---- the batcher's mailbox drops or puts

pub batcher_keeps : (P : batcher_message.Message → Type 0) (w : Waiting batcher_message.Message) (message : batcher_message.Message) → Waits P w → P message
    → Waits P (batcher_handled w message)
unfolding batcher_handled
batcher_keeps P w (batcher.Update current leader finalized proposal) h p = at (is_as_great w.place current finalized)
  where
    at : (b : Bool) → Waits P (if b then w
        else record {
          place = Some (batcher.Update current leader finalized proposal);
          rest = filter (λ queued. not (outdates_message current finalized queued)) w.rest;
        })
    at true = h
    at false = record { place = p; rest = Each-filter P (λ queued. not (outdates_message current finalized queued)) w.rest h.rest }
batcher_keeps P w (batcher.Constructed vote) h p =
    at (is_outdated w.place vote || list_any (λ queued. stands_for_batcher queued (batcher.Constructed vote)) w.rest)
  where
    at : (b : Bool) → Waits P (if b then w else put_last w (batcher.Constructed vote))
    at true = h
    at false = record { place = h.place; rest = Each-append P w.rest (batcher.Constructed vote ∷ []) h.rest (p, tt) }
