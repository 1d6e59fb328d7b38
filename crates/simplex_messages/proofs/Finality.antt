-- While a finalization is queued, what waits beside it is above its view: turn by turn.
use Rattle.std.proofs.Common.{ℕ, zero, suc, ◌≡◌, sym, ◌∙◌, refl, nat_lt, Bool, true, false, cond, ◌||◌, IsTrue, List, [], ◌∷◌, ◌++◌, map, Option, Some, None, arith}
use Rattle.std.specs.Prelude.{All, IfSome}
use Rattle.std.specs.List.{list_any}
use Rattle.std.proofs.lemmas.Grind.{common_steps}
use Rattle.std.proofs.lemmas.List.Elements.{All-nil, All-tail, All-push, All-map, All-filter, All-weaker, filter_passes}
use Rattle.simplex_mailbox.specs.Waiting.{Waiting, nothing, put_last, behind, undrained_at, undrained}
use Rattle.simplex_messages.specs.Policies.{is_final_from, handled_by_view}
use Rattle.simplex_messages.specs.Turns.{Turn, Comes, Goes, waits_after, FinalityRules}

-- what holds of both choices holds of the one that is made
pub choice : {A : Type 0} (P : A → Type 0) (b : Bool) (x y : A) → (b ≡ true → P x) → (b ≡ false → P y) → P (cond b x y)
choice P true x y at_true at_false = at_true refl
choice P false x y at_true at_false = at_false refl

module _ {M : Type 0} where
  -- what waits on is a part of what waited
  pub All-behind : (P : M → Type 0) (skips : M → Bool) (room : ℕ) (list : List M) → All P list → All P (behind skips room list)
  unfolding behind
  All-behind P skips room [] all = all
  All-behind P skips zero (message ∷ messages) all = all
  All-behind P skips (suc room) (message ∷ messages) all =
      choice (All P) (skips message) _ _
      (λ _. All-behind P skips (suc room) messages (All-tail P message messages all))
      (λ _. All-behind P skips room messages (All-tail P message messages all))

module _ {M : Type 0} (view_of : M → ℕ) (is_final is_free : M → Bool) where
  -- no finalization
  abbrev IsPlain : M → Type 0
  IsPlain queued = is_final queued ≡ false

  -- above the finalization's view, or free of views
  abbrev IsBeside : M → M → Type 0
  IsBeside final queued = IsTrue (is_free queued || nat_lt (view_of final) (view_of queued))

  -- the view of the queued finalization is below the message's
  above_place : (place : Option M) (message : M) → is_final_from view_of place (view_of message) ≡ false
      → IfSome place (λ final. IsBeside final message)
  above_place None message is = tt
  above_place (Some final) message is = grind (arith, common_steps, is)

  and_last : (place : Option M) (rest : List M) (message : M)
      → IfSome place (λ final. All (IsBeside final) rest)
      → IfSome place (λ final. IsBeside final message)
      → IfSome place (λ final. All (IsBeside final) (rest ++ message ∷ []))
  and_last None rest message above is = tt
  and_last (Some final) rest message above is = All-push (IsBeside final) rest message above is

  -- a message that is no finalization, and is above the queued one or free of views, is last
  pub rules-last : (waiting : Waiting M) (message : M) → FinalityRules view_of is_final is_free waiting → is_final message ≡ false
      → IfSome waiting.place (λ final. IsBeside final message)
      → FinalityRules view_of is_final is_free (put_last waiting message)
  rules-last waiting message holds plain above = record {
    place_is_final = holds.place_is_final;
    has_the_place = All-push IsPlain waiting.rest message holds.has_the_place plain;
    rest_is_above = and_last waiting.place waiting.rest message holds.rest_is_above above;
  }

  free_above : (place : Option M) (message : M) → is_free message ≡ true
      → IfSome place (λ final. IsBeside final message)
  free_above None message free = tt
  free_above (Some final) message free = rw free refl

  -- one that is free of views is last
  pub rules-free : (waiting : Waiting M) (message : M) → FinalityRules view_of is_final is_free waiting → is_final message ≡ false
      → is_free message ≡ true → FinalityRules view_of is_final is_free (put_last waiting message)
  rules-free waiting message holds plain free = rules-last waiting message holds plain (free_above waiting.place message free)

  above_behind : (skips : M → Bool) (room : ℕ) (place : Option M) (rest : List M)
      → FinalityRules view_of is_final is_free (record { place = place; rest = rest })
      → FinalityRules view_of is_final is_free (undrained_at skips room place rest)
  unfolding undrained_at
  above_behind skips zero place rest holds = holds
  above_behind skips (suc room) None rest holds = record {
    place_is_final = tt;
    has_the_place = All-behind IsPlain skips (suc room) rest holds.has_the_place;
    rest_is_above = tt;
  }
  above_behind skips (suc room) (Some final) rest holds = record {
    place_is_final = tt;
    has_the_place = All-behind IsPlain skips room rest holds.has_the_place;
    rest_is_above = tt;
  }

  -- what waits on
  pub rules-goes : (skips : M → Bool) (room : ℕ) (waiting : Waiting M) → FinalityRules view_of is_final is_free waiting
      → FinalityRules view_of is_final is_free (undrained skips room waiting)
  unfolding undrained
  rules-goes skips room waiting holds = above_behind skips room waiting.place waiting.rest holds

  pub rules-nothing : FinalityRules view_of is_final is_free nothing
  rules-nothing = record { place_is_final = tt; has_the_place = All-nil IsPlain; rest_is_above = tt }

  -- all turns, where each message that comes keeps the rules
  pub rules-turns : (handle : Waiting M → M → Waiting M) (skips : M → Bool)
      → ((waiting : Waiting M) (message : M) → FinalityRules view_of is_final is_free waiting → FinalityRules view_of is_final is_free (handle waiting message))
      → (turns : List (Turn M)) → FinalityRules view_of is_final is_free (waits_after handle skips turns)
  unfolding waits_after
  rules-turns handle skips comes [] = rules-nothing
  rules-turns handle skips comes (Comes message ∷ before) = comes _ message (rules-turns handle skips comes before)
  rules-turns handle skips comes (Goes ∷ before) = rules-goes skips 1 _ (rules-turns handle skips comes before)

  module _ (outlasts stands_for : M → M → Bool) (changed_by : M → M → M)
      (stays : (queued final : M) → outlasts queued final ≡ (is_free queued || nat_lt (view_of final) (view_of queued)))
      (same_view : (message queued : M) → view_of (changed_by message queued) ≡ view_of queued)
      (same_final : (message queued : M) → is_final (changed_by message queued) ≡ is_final queued)
      (same_free : (message queued : M) → is_free (changed_by message queued) ≡ is_free queued) where
    still_beside : (final message queued : M) → IsBeside final queued → IsBeside final (changed_by message queued)
    still_beside final message queued is = rw (same_free message queued, same_view message queued) is

    changed_above : (place : Option M) (rest : List M) (message : M)
        → IfSome place (λ final. All (IsBeside final) rest)
        → IfSome place (λ final. All (IsBeside final) (map (changed_by message) rest))
    changed_above None rest message above = tt
    changed_above (Some final) rest message above =
        All-map (IsBeside final) (changed_by message) rest
        (All-weaker (IsBeside final) (λ queued. IsBeside final (changed_by message queued)) (still_beside final message) rest above)

    -- a message that comes keeps the rules
    pub rules-comes : (waiting : Waiting M) (message : M) → FinalityRules view_of is_final is_free waiting
        → FinalityRules view_of is_final is_free (handled_by_view view_of is_final outlasts stands_for changed_by waiting message)
    unfolding handled_by_view
    rules-comes waiting message holds =
        let Keeps : Waiting M → Type 0 = FinalityRules view_of is_final is_free in
        choice Keeps (is_final_from view_of waiting.place (view_of message)) _ _ (λ _. holds)
        (λ above. choice Keeps (is_final message) _ _
        (λ final. record {
          place_is_final = final;
          has_the_place = All-filter (λ queued. outlasts queued message) IsPlain waiting.rest holds.has_the_place;
          rest_is_above = All-weaker (λ queued. outlasts queued message ≡ true) (IsBeside message) (λ queued is. sym (stays queued message) ∙ is) _ (filter_passes (λ queued. outlasts queued message) waiting.rest);
        })
        (λ plain. choice Keeps (list_any (λ queued. stands_for queued message) waiting.rest) _ _
        (λ _. record {
          place_is_final = holds.place_is_final;
          has_the_place = All-map IsPlain (changed_by message) waiting.rest (All-weaker IsPlain (λ queued. IsPlain (changed_by message queued)) (λ queued is. same_final message queued ∙ is) waiting.rest holds.has_the_place);
          rest_is_above = changed_above waiting.place waiting.rest message holds.rest_is_above;
        })
        (λ _. rules-last waiting message holds plain (above_place waiting.place message above))))
