-- The Replayed that wait are those that waited, and the one that came.
use Rattle.std.proofs.Common.{◌≡◌, ◌∙◌, refl, ap, Bool, true, false, cond, List, [], ◌∷◌, ◌++◌, map, filter, Some, None}
use Rattle.std.specs.List.{list_any}
use Rattle.simplex_mailbox.specs.Waiting.{Waiting}
use Rattle.simplex_messages.specs.declared.resolver.MailboxMessage.{MailboxMessage}
use Rattle.simplex_messages.specs.declared.resolver.MailboxMessage.TheVariants as resolver
use Rattle.simplex_messages.specs.Policies.{is_final_from, handled_by_view, resolver_view, is_final_for_resolver, is_replayed, outlasts_for_resolver, stands_for_resolver, changed_for_resolver, resolver_handled}
use Rattle.simplex_messages.proofs.Finality.{choice}
use Rattle.simplex_messages.proofs.ByKind.{replayed-changed}

module _ {M : Type 0} (p : M → Bool) where
  -- a message that fails the test is none of those that pass
  filter-last : (list : List M) (message : M) → p message ≡ false → filter p list ≡ filter p (list ++ message ∷ [])
  filter-last [] message is = rw is refl
  filter-last (first ∷ list) message is = ap (λ kept. cond (p first) (first ∷ kept) kept) (filter-last list message is)

  map-at : (b : Bool) (changed first : M) (kept others : List M) → (b ≡ true → changed ≡ first) → kept ≡ others
      → cond b (changed ∷ kept) kept ≡ cond b (first ∷ others) others
  map-at true changed first kept others fixed same = rw (fixed refl, same) refl
  map-at false changed first kept others fixed same = same

  -- those that pass stay as they are
  filter-map : (f : M → M) → ((message : M) → p (f message) ≡ p message) → ((message : M) → p message ≡ true → f message ≡ message)
      → (list : List M) → filter p (map f list) ≡ filter p list
  filter-map f same fixed [] = refl
  filter-map f same fixed (first ∷ list) =
      rw (same first) (map-at (p first) (f first) first _ _ (fixed first) (filter-map f same fixed list))

  fails : (b c : Bool) → (b ≡ true → c ≡ true) → c ≡ false → b ≡ false
  fails true c then is = absurd (let at = then refl in cc)
  fails false c then is = refl

  -- those that pass are not dropped
  filter-filter : (q : M → Bool) → ((message : M) → p message ≡ true → q message ≡ true) → (list : List M) → filter p (filter q list) ≡ filter p list
  filter-filter q stays [] = refl
  filter-filter q stays (first ∷ list) =
      choice (λ kept. filter p kept ≡ cond (p first) (first ∷ filter p list) (filter p list)) (q first) _ _
      (λ _. ap (λ kept. cond (p first) (first ∷ kept) kept) (filter-filter q stays list))
      (λ is. rw (fails (p first) (q first) (stays first) is) (filter-filter q stays list))

stays-replayed : (final queued : MailboxMessage) → is_replayed queued ≡ true → outlasts_for_resolver queued final ≡ true
stays-replayed final queued is = rw is refl

replayed-fixed : (message queued : MailboxMessage) → is_replayed queued ≡ true → changed_for_resolver message queued ≡ queued
replayed-fixed message (resolver.Updated c) is = absurd cc
replayed-fixed message (resolver.Certified n s) is = absurd cc
replayed-fixed message (resolver.Resolve p v k t) is = absurd cc
replayed-fixed (resolver.Updated c) resolver.Replayed is = refl
replayed-fixed (resolver.Certified n s) resolver.Replayed is = refl
replayed-fixed (resolver.Resolve p v k None) resolver.Replayed is = refl
replayed-fixed (resolver.Resolve p v k (Some t)) resolver.Replayed is = refl
replayed-fixed resolver.Replayed resolver.Replayed is = refl

-- none is lost, and the one that came is last
pub replayed-kept : (waiting : Waiting MailboxMessage) (message : MailboxMessage)
    → filter is_replayed (resolver_handled waiting message).rest ≡ filter is_replayed (waiting.rest ++ message ∷ [])
unfolding resolver_handled handled_by_view
replayed-kept waiting message =
    let Kept : Waiting MailboxMessage → Type 0 = λ after. filter is_replayed after.rest ≡ filter is_replayed (waiting.rest ++ message ∷ []) in
    choice Kept (is_replayed message) _ _ (λ _. refl)
    (λ another.
    let none = filter-last is_replayed waiting.rest message another in
    choice Kept (is_final_from resolver_view waiting.place (resolver_view message)) _ _ (λ _. none)
    (λ _. choice Kept (is_final_for_resolver message) _ _
    (λ _. filter-filter is_replayed (λ queued. outlasts_for_resolver queued message) (stays-replayed message) waiting.rest ∙ none)
    (λ _. choice Kept (list_any (λ queued. stands_for_resolver queued message) waiting.rest) _ _
    (λ _. filter-map is_replayed (changed_for_resolver message) (replayed-changed message) (replayed-fixed message) waiting.rest ∙ none)
    (λ _. refl))))
