-- The ready queue fills up from what waits.
use Rattle.std.proofs.Common.{ℕ, suc, ◌+◌, ◌-◌, ◌<◌, ◌≤◌, ◌≡◌, ◌∙◌, sym, refl, ap, Bool, IsTrue, List, [], ◌∷◌, ◌++◌, length, append_assoc, length-append, Some, None, arith}
use Rattle.std.proofs.lemmas.List.{append-nil}
use Rattle.simplex_mailbox.specs.Waiting.{Waiting, nothing, is_clear, front, in_turn, drained, undrained}
use Rattle.simplex_mailbox.proofs.Turns.{drained-more, drained-none, undrained-more, undrained-none, undrained-nothing, undrained-zero, drained-zero}

module _ {M : Type 0} where
  -- what is ready and what waits so far, when `first` were ready and `waiting` waited at the start
  pub record Fills (skips : M → Bool) (capacity : ℕ) (first : List M) (waiting : Waiting M) (ready : List M) (waits : Waiting M) : Type 0 where
    pub ready_then : ready ++ drained skips (capacity - length ready) waits ≡ first ++ drained skips (capacity - length first) waiting
    pub waits_then : undrained skips (capacity - length ready) waits ≡ undrained skips (capacity - length first) waiting
    pub within : length first ≤ capacity → length ready ≤ capacity

  -- the end: nothing more goes
  pub record Filled (skips : M → Bool) (capacity : ℕ) (first : List M) (waiting : Waiting M) (ready : List M) (waits : Waiting M) : Type 0 where
    pub ready_is : ready ≡ first ++ drained skips (capacity - length first) waiting
    pub waits_is : waits ≡ undrained skips (capacity - length first) waiting
    pub within : length first ≤ capacity → length ready ≤ capacity
    pub full : length ready < capacity → IsTrue (is_clear waits)

  module _ (skips : M → Bool) (capacity : ℕ) (first : List M) (waiting : Waiting M) where
    pub fills-start : Fills skips capacity first waiting first waiting
    fills-start = record { ready_then = refl; waits_then = refl; within = λ le. le }

    pub fills-more : (ready : List M) (waits after : Waiting M) (message : M) → Fills skips capacity first waiting ready waits
        → length ready < capacity → front (in_turn skips waits) ≡ Some message → after ≡ undrained skips 1 waits
        → Fills skips capacity first waiting (ready ++ message ∷ []) after
    fills-more ready waits after message fills room is left =
        let longer : length (ready ++ message ∷ []) ≡ length ready + 1 = length-append ready (message ∷ []) in
        let one : capacity - length ready ≡ suc (capacity - length (ready ++ message ∷ [])) = omega arith in
        record {
          ready_then =
              rw (left, append_assoc) (sym (ap (λ gone. ready ++ gone) (rw one (drained-more skips _ waits message is))) ∙ fills.ready_then);
          waits_then = rw left (sym (rw one (undrained-more skips _ waits)) ∙ fills.waits_then);
          within = λ le. omega arith;
        }

    pub fills-full : (ready : List M) (waits : Waiting M) → Fills skips capacity first waiting ready waits
        → capacity ≤ length ready → Filled skips capacity first waiting ready waits
    fills-full ready waits fills full =
        let none : capacity - length ready ≡ 0 = omega arith in
        record {
          ready_is = sym (rw (none, drained-zero) (append-nil ready)) ∙ fills.ready_then;
          waits_is = sym (rw none (undrained-zero skips waits)) ∙ fills.waits_then;
          within = fills.within;
          full = λ lt. absurd (omega arith);
        }

    pub fills-empty : (ready : List M) (waits after : Waiting M) → Fills skips capacity first waiting ready waits
        → length ready < capacity → front (in_turn skips waits) ≡ None → after ≡ undrained skips 1 waits
        → Filled skips capacity first waiting ready after
    fills-empty ready waits after fills room is left =
        let one : capacity - length ready ≡ suc (capacity - length ready - 1) = omega arith in
        let clear : after ≡ nothing = left ∙ undrained-none skips waits is in
        record {
          ready_is = sym (rw (drained-none skips (capacity - length ready) waits is) (append-nil ready)) ∙ fills.ready_then;
          waits_is =
              clear
              ∙ sym (rw (one, undrained-more skips _ waits, undrained-none skips waits is) (undrained-nothing skips _))
              ∙ fills.waits_then;
          within = fills.within;
          full = λ _. rw clear refl;
        }
