-- What goes where messages are skipped, one message of the rest after another.
use Rattle.std.proofs.Common.{◌≡◌, ◌∙◌, sym, refl, ap, Bool, true, false, List, [], ◌∷◌, drop, length, suc, Option, Some, None, arith}
use Rattle.simplex_mailbox.specs.Waiting.{Waiting, nothing, only_rest, front, in_turn, behind, undrained_at, undrained}
use Rattle.simplex_mailbox.proofs.Turns.{behind-zero, undrained-zero, undrained-place}

module _ {M : Type 0} where
  -- what goes next of these is what goes next of all that waits
  pub record GoesOn (skips : M → Bool) (waiting : Waiting M) (rest : List M) : Type 0 where
    pub first : front (in_turn skips waiting) ≡ front (in_turn skips (only_rest rest))
    pub behind : undrained skips 1 waiting ≡ undrained skips 1 (only_rest rest)

module _ {M : Type 0} (skips : M → Bool) where
  pub goes-start : (place : Option M) (rest : List M) → place ≡ None → GoesOn skips (record { place = place; rest = rest }) rest
  goes-start place rest is = rw is (record { first = refl; behind = refl })

  skipped-first : (message : M) (messages : List M) → skips message ≡ true
      → front (in_turn skips (only_rest (message ∷ messages))) ≡ front (in_turn skips (only_rest messages))
  unfolding in_turn
  skipped-first message messages skipped = rw skipped refl

  skipped-behind : (message : M) (messages : List M) → skips message ≡ true
      → undrained skips 1 (only_rest (message ∷ messages)) ≡ undrained skips 1 (only_rest messages)
  unfolding undrained undrained_at behind
  skipped-behind message messages skipped = rw skipped refl

  kept-first : (message : M) (messages : List M) → skips message ≡ false
      → front (in_turn skips (only_rest (message ∷ messages))) ≡ Some message
  unfolding in_turn
  kept-first message messages kept = rw kept refl

  kept-behind : (message : M) (messages : List M) → skips message ≡ false
      → undrained skips 1 (only_rest (message ∷ messages)) ≡ only_rest messages
  unfolding undrained undrained_at behind
  kept-behind message messages kept = rw kept (ap only_rest (behind-zero skips messages))

  -- a skipped message is passed over
  pub goes-skipped : (waiting : Waiting M) (rest messages : List M) (message : M) → GoesOn skips waiting rest
      → rest ≡ message ∷ messages → skips message ≡ true → GoesOn skips waiting messages
  goes-skipped waiting rest messages message goes is skipped = record {
    first = goes.first ∙ rw is (skipped-first message messages skipped);
    behind = goes.behind ∙ rw is (skipped-behind message messages skipped);
  }

  -- one that is not skipped goes
  pub goes-kept : (waiting : Waiting M) (rest messages : List M) (message : M) → GoesOn skips waiting rest
      → rest ≡ message ∷ messages → skips message ≡ false
      → (Some message ≡ front (in_turn skips waiting)) × (only_rest messages ≡ undrained skips 1 waiting)
  goes-kept waiting rest messages message goes is kept =
      (sym (goes.first ∙ rw is (kept-first message messages kept)), sym (goes.behind ∙ rw is (kept-behind message messages kept)))

  none-first : front (in_turn skips (only_rest [])) ≡ None
  unfolding in_turn
  none-first = refl

  none-behind : undrained skips 1 (only_rest []) ≡ nothing
  unfolding undrained undrained_at behind
  none-behind = refl

  none-left : (list : List M) → list ≡ drop 1 list → list ≡ []
  none-left [] is = refl
  none-left (message ∷ messages) is = let longer : suc (length messages) ≡ length messages = ap length is in absurd (omega arith)

  -- where none is left, none goes
  pub goes-none : (waiting : Waiting M) (rest left : List M) → GoesOn skips waiting rest → rest ≡ left → left ≡ drop 1 rest
      → (None ≡ front (in_turn skips waiting)) × (only_rest left ≡ undrained skips 1 waiting)
  goes-none waiting rest left goes is after =
      let none : rest ≡ [] = none-left rest (is ∙ after) in
      (sym (goes.first ∙ rw none none-first), rw (sym is ∙ none) (sym (goes.behind ∙ rw none none-behind)))

  -- the place goes first, and leaves the rest
  pub place-goes : (place : Option M) (first : M) (rest : List M) → place ≡ Some first
      → Some first ≡ front (in_turn skips (record { place = place; rest = rest }))
  unfolding in_turn
  place-goes place first rest is = rw is refl

  pub behind-place : (place : Option M) (first : M) (rest : List M) → place ≡ Some first
      → only_rest rest ≡ undrained skips 1 (record { place = place; rest = rest })
  behind-place place first rest is = rw is (sym (undrained-place skips first rest 0 ∙ undrained-zero skips (only_rest rest)))
