-- What goes and what waits on, one message after another.
use Rattle.std.proofs.Common.{ℕ, zero, suc, ◌+◌, ◌<◌, ◌≤◌, ◌≡◌, refl, ap, Bool, true, false, not, cond, List, [], ◌∷◌, ◌++◌, length, filter, take, drop, Option, Some, None, arith, add-one}
use Rattle.std.proofs.lemmas.List.{take-append-drop, take_all}
use Rattle.simplex_mailbox.specs.Waiting.{Waiting, nothing, front, in_turn, drained, behind, undrained_at, undrained}

-- ---- the front of a list

module _ {M : Type 0} where
  front-some : (list : List M) (message : M) → front list ≡ Some message → list ≡ message ∷ drop 1 list
  front-some [] message is = cc
  front-some (first ∷ list) message is = cc

  front-none : (list : List M) → front list ≡ None → list ≡ []
  front-none [] is = refl
  front-none (first ∷ list) is = cc

  take-none : (list : List M) → take 0 list ≡ []
  take-none [] = refl
  take-none (message ∷ messages) = refl

-- ---- behind some messages of a list

module _ {M : Type 0} (skips : M → Bool) where
  pub behind-zero : (list : List M) → behind skips 0 list ≡ list
  unfolding behind
  behind-zero [] = refl
  behind-zero (message ∷ messages) = refl

  behind-more-at : (room : ℕ) (messages : List M) (skipped : Bool)
      → behind skips (suc room) messages ≡ behind skips room (behind skips 1 messages)
      → cond skipped (behind skips (suc room) messages) (behind skips room messages)
      ≡ behind skips room (cond skipped (behind skips 1 messages) (behind skips 0 messages))
  behind-more-at room messages true more = more
  behind-more-at room messages false more = rw behind-zero refl

  behind-more : (room : ℕ) (list : List M) → behind skips (suc room) list ≡ behind skips room (behind skips 1 list)
  unfolding behind
  behind-more room [] = refl
  behind-more room (message ∷ messages) = behind-more-at room messages (skips message) (behind-more room messages)

  filter-behind-at : (room : ℕ) (message : M) (messages : List M) (skipped : Bool)
      → ((n : ℕ) → filter (λ m. not (skips m)) (behind skips n messages) ≡ drop n (filter (λ m. not (skips m)) messages))
      → filter (λ m. not (skips m)) (cond skipped (behind skips (suc room) messages) (behind skips room messages))
      ≡ drop (suc room) (cond (not skipped) (message ∷ filter (λ m. not (skips m)) messages) (filter (λ m. not (skips m)) messages))
  filter-behind-at room message messages true below = below (suc room)
  filter-behind-at room message messages false below = below room

  -- behind the first so many that are not skipped stand the others that are not skipped
  filter-behind : (room : ℕ) (list : List M)
      → filter (λ m. not (skips m)) (behind skips room list) ≡ drop room (filter (λ m. not (skips m)) list)
  unfolding behind
  filter-behind zero [] = refl
  filter-behind (suc room) [] = refl
  filter-behind zero (message ∷ messages) = refl
  filter-behind (suc room) (message ∷ messages) =
      filter-behind-at room message messages (skips message) (λ n. filter-behind n messages)

  behind-all-at : (room : ℕ) (message : M) (messages : List M) (skipped : Bool)
      → ((n : ℕ) → length (filter (λ m. not (skips m)) messages) < n → behind skips n messages ≡ [])
      → length (cond (not skipped) (message ∷ filter (λ m. not (skips m)) messages) (filter (λ m. not (skips m)) messages)) < suc room
      → cond skipped (behind skips (suc room) messages) (behind skips room messages) ≡ []
  behind-all-at room message messages true below fits = below (suc room) fits
  behind-all-at room message messages false below fits = below room (omega arith)

  -- behind more than there are stands none
  behind-all : (room : ℕ) (list : List M) → length (filter (λ m. not (skips m)) list) < room → behind skips room list ≡ []
  unfolding behind
  behind-all room [] fits = refl
  behind-all zero (message ∷ messages) fits = absurd (omega arith)
  behind-all (suc room) (message ∷ messages) fits =
      behind-all-at room message messages (skips message) (λ n. behind-all n messages) fits

-- ---- what goes, and what waits on

module _ {M : Type 0} (skips : M → Bool) where
  pub undrained-zero : (waiting : Waiting M) → undrained skips 0 waiting ≡ waiting
  unfolding undrained undrained_at
  undrained-zero waiting = refl

  pub undrained-nothing : (room : ℕ) → undrained skips room nothing ≡ nothing
  unfolding undrained undrained_at behind
  undrained-nothing zero = refl
  undrained-nothing (suc room) = refl

  undrained-more-at : (room : ℕ) (place : Option M) (rest : List M)
      → undrained_at skips (suc room) place rest
      ≡ undrained_at skips room (undrained_at skips 1 place rest).place (undrained_at skips 1 place rest).rest
  unfolding undrained_at
  undrained-more-at zero None rest = refl
  undrained-more-at (suc room) None rest = ap (λ left. record { place = None; rest = left }) (behind-more skips (suc room) rest)
  undrained-more-at zero (Some first) rest = refl
  undrained-more-at (suc room) (Some first) rest = rw behind-zero refl

  -- what waits on once one more went is what waits on behind the first that goes
  pub undrained-more : (room : ℕ) (waiting : Waiting M) → undrained skips (suc room) waiting ≡ undrained skips room (undrained skips 1 waiting)
  unfolding undrained
  undrained-more room waiting = undrained-more-at room waiting.place waiting.rest

  undrained-all-at : (room : ℕ) (place : Option M) (rest : List M)
      → length (in_turn skips (record { place = place; rest = rest })) < room → undrained_at skips room place rest ≡ nothing
  unfolding in_turn undrained_at
  undrained-all-at zero place rest fits = absurd (omega arith)
  undrained-all-at (suc room) None rest fits = ap (λ left. record { place = None; rest = left }) (behind-all skips (suc room) rest fits)
  undrained-all-at (suc room) (Some first) rest fits = ap (λ left. record { place = None; rest = left }) (behind-all skips room rest (omega arith))

  -- where there is more room than goes, nothing waits on
  pub undrained-all : (room : ℕ) (waiting : Waiting M) → length (in_turn skips waiting) < room → undrained skips room waiting ≡ nothing
  unfolding undrained
  undrained-all room waiting fits = undrained-all-at room waiting.place waiting.rest fits

  pub undrained-none : (waiting : Waiting M) → front (in_turn skips waiting) ≡ None → undrained skips 1 waiting ≡ nothing
  undrained-none waiting is =
      let none : length (in_turn skips waiting) ≡ 0 = ap length (front-none (in_turn skips waiting) is) in
      undrained-all 1 waiting (omega arith)

  -- what waits on is the same whatever the place was
  pub undrained-place : (first : M) (rest : List M) (room : ℕ)
      → undrained skips (room + 1) (record { place = Some first; rest = rest }) ≡ undrained skips room (record { place = None; rest = rest })
  unfolding undrained undrained_at
  undrained-place first rest zero = rw behind-zero refl
  undrained-place first rest (suc room) = rw add-one refl

  in_turn-undrained-at : (room : ℕ) (place : Option M) (rest : List M)
      → in_turn skips (undrained_at skips room place rest) ≡ drop room (in_turn skips (record { place = place; rest = rest }))
  unfolding in_turn undrained_at
  in_turn-undrained-at zero place rest = refl
  in_turn-undrained-at (suc room) None rest = filter-behind skips (suc room) rest
  in_turn-undrained-at (suc room) (Some first) rest = filter-behind skips room rest

  -- behind those that go, the others go in the same order
  pub in_turn-undrained : (room : ℕ) (waiting : Waiting M) → in_turn skips (undrained skips room waiting) ≡ drop room (in_turn skips waiting)
  unfolding undrained
  in_turn-undrained room waiting = in_turn-undrained-at room waiting.place waiting.rest

  pub drained-zero : (waiting : Waiting M) → drained skips 0 waiting ≡ []
  unfolding drained
  drained-zero waiting = take-none (in_turn skips waiting)

  pub drained-more : (room : ℕ) (waiting : Waiting M) (message : M) → front (in_turn skips waiting) ≡ Some message
      → drained skips (suc room) waiting ≡ message ∷ drained skips room (undrained skips 1 waiting)
  unfolding drained
  drained-more room waiting message is =
      rw in_turn-undrained (ap (take (suc room)) (front-some (in_turn skips waiting) message is))

  pub drained-none : (room : ℕ) (waiting : Waiting M) → front (in_turn skips waiting) ≡ None → drained skips room waiting ≡ []
  unfolding drained
  drained-none zero waiting is = take-none (in_turn skips waiting)
  drained-none (suc room) waiting is = ap (take (suc room)) (front-none (in_turn skips waiting) is)

  -- where there is room for all that goes, all goes
  pub drained-all : (room : ℕ) (waiting : Waiting M) → length (in_turn skips waiting) ≤ room → drained skips room waiting ≡ in_turn skips waiting
  unfolding drained
  drained-all room waiting fits = take_all room (in_turn skips waiting) fits

  -- what goes, and behind it what goes of what waits on, is what went of all
  pub drained-undrained : (room : ℕ) (waiting : Waiting M) → drained skips room waiting ++ in_turn skips (undrained skips room waiting) ≡ in_turn skips waiting
  unfolding drained
  drained-undrained room waiting = rw in_turn-undrained (take-append-drop room (in_turn skips waiting))
