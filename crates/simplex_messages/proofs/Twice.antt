-- No message waits twice: turn by turn, and the words of the policies, one kind after another.
use Rattle.std.proofs.Common.{ℕ, zero, suc, ◌≡◌, ◌==◌, ◌∙◌, refl, Bool, true, false, cond, not, ◌||◌, ◌&&◌, List, [], ◌∷◌, map, Option, Some, None, arith}
use Rattle.std.specs.Prelude.{All, AllPairs}
use Rattle.std.specs.List.{list_any}
use Rattle.std.proofs.lemmas.Grind.{common_steps}
use Rattle.std.proofs.lemmas.List.Elements.{All-nil, All-cons, All-map}
use Rattle.std.proofs.lemmas.List.Kept.{AllPairs-cons, AllPairs-filter}
use Rattle.std.proofs.lemmas.List.Quantifiers.{all_pairs_push}
use Rattle.simplex_mailbox.specs.Waiting.{Waiting, put_last, behind, undrained_at, undrained}
use Rattle.simplex_values.specs.declared.timeout.TimeoutReason.{TimeoutReason}
use Rattle.simplex_values.specs.declared.round.Round.{Round}
use Rattle.simplex_messages.specs.declared.batcher.Message as batcher_message
use Rattle.simplex_messages.specs.declared.batcher.Message.TheVariants as batcher
use Rattle.simplex_messages.specs.declared.voter.Message.{Message}
use Rattle.simplex_messages.specs.declared.voter.Message.TheVariants as voter
use Rattle.simplex_messages.specs.declared.resolver.MailboxMessage.{MailboxMessage}
use Rattle.simplex_messages.specs.declared.resolver.MailboxMessage.TheVariants as resolver
use Rattle.simplex_messages.specs.Policies.{is_final_from, handled_by_view, voter_view, is_final_for_voter, outlasts_for_voter, outlasts_for_resolver, stands_for_voter, changed_for_voter, outranks, voter_handled, resolver_view, is_final_for_resolver, is_replayed, stands_for_resolver, changed_for_resolver, resolver_handled, is_as_great, is_outdated, outdates_message, stands_for_batcher, batcher_handled}
use Rattle.simplex_messages.specs.Turns.{Turn, Comes, Goes, waits_after, NoneTwice}
use Rattle.simplex_messages.proofs.Finality.{choice}

-- both tests fail
pub neither : (b c : Bool) → (b || c) ≡ false → (b ≡ false) × (c ≡ false)
neither true c is = absurd cc
neither false c is = (refl, is)

module _ {M : Type 0} where
  -- what a test does not find
  none-found : (p : M → Bool) (list : List M) → list_any p list ≡ false → All (λ queued. p queued ≡ false) list
  none-found p [] is = All-nil (λ queued. p queued ≡ false)
  none-found p (message ∷ messages) is =
      let both = neither (p message) (list_any p messages) is in
      All-cons (λ queued. p queued ≡ false) message messages both.0 (none-found p messages both.1)

  pairs-head : (R : M → M → Type 0) (message : M) (messages : List M) → AllPairs R (message ∷ messages) → All (R message) messages
  pairs-head R message messages pairs = λ k d lt. pairs 0 (suc k) d (omega arith) (omega arith)

  pairs-tail : (R : M → M → Type 0) (message : M) (messages : List M) → AllPairs R (message ∷ messages) → AllPairs R messages
  pairs-tail R message messages pairs = λ i j d lt within. pairs (suc i) (suc j) d (omega arith) (omega arith)

  pairs-nil : (R : M → M → Type 0) → AllPairs R []
  pairs-nil R = λ i j d lt within. absurd (omega arith)

  pairs-map : (R : M → M → Type 0) (f : M → M) (list : List M) → AllPairs (λ x y. R (f x) (f y)) list → AllPairs R (map f list)
  pairs-map R f [] pairs = pairs-nil R
  pairs-map R f (message ∷ messages) pairs =
      let S : M → M → Type 0 = λ x y. R (f x) (f y) in
      AllPairs-cons R (f message) (map f messages) (All-map (R (f message)) f messages (pairs-head S message messages pairs))
      (pairs-map R f messages (pairs-tail S message messages pairs))

  pairs-behind : (R : M → M → Type 0) (skips : M → Bool) (room : ℕ) (list : List M) → AllPairs R list → AllPairs R (behind skips room list)
  unfolding behind
  pairs-behind R skips room [] pairs = pairs
  pairs-behind R skips zero (message ∷ messages) pairs = pairs
  pairs-behind R skips (suc room) (message ∷ messages) pairs =
      choice (AllPairs R) (skips message) _ _
      (λ _. pairs-behind R skips (suc room) messages (pairs-tail R message messages pairs))
      (λ _. pairs-behind R skips room messages (pairs-tail R message messages pairs))

module _ {M : Type 0} (stands_for : M → M → Bool) where
  abbrev Differ : M → M → Type 0
  Differ earlier later = stands_for earlier later ≡ false

  -- a message that none stands for is last
  twice-last : (waiting : Waiting M) (message : M) → NoneTwice stands_for waiting
      → list_any (λ queued. stands_for queued message) waiting.rest ≡ false → NoneTwice stands_for (put_last waiting message)
  twice-last waiting message holds none =
      let others = none-found (λ queued. stands_for queued message) waiting.rest none in
      all_pairs_push Differ waiting.rest message holds (λ k d lt. others k d lt)

  twice-behind : (skips : M → Bool) (room : ℕ) (place : Option M) (rest : List M) → AllPairs Differ rest
      → NoneTwice stands_for (undrained_at skips room place rest)
  unfolding undrained_at
  twice-behind skips zero place rest holds = holds
  twice-behind skips (suc room) None rest holds = pairs-behind Differ skips (suc room) rest holds
  twice-behind skips (suc room) (Some final) rest holds = pairs-behind Differ skips room rest holds

  twice-goes : (skips : M → Bool) (room : ℕ) (waiting : Waiting M) → NoneTwice stands_for waiting → NoneTwice stands_for (undrained skips room waiting)
  unfolding undrained
  twice-goes skips room waiting holds = twice-behind skips room waiting.place waiting.rest holds

  -- all turns, where each message that comes keeps this
  pub twice-turns : (handle : Waiting M → M → Waiting M) (skips : M → Bool)
      → ((waiting : Waiting M) (message : M) → NoneTwice stands_for waiting → NoneTwice stands_for (handle waiting message))
      → (turns : List (Turn M)) → NoneTwice stands_for (waits_after handle skips turns)
  unfolding waits_after
  twice-turns handle skips comes [] = pairs-nil Differ
  twice-turns handle skips comes (Comes message ∷ before) = comes _ message (twice-turns handle skips comes before)
  twice-turns handle skips comes (Goes ∷ before) = twice-goes skips 1 _ (twice-turns handle skips comes before)

  twice-comes : (view_of : M → ℕ) (is_final : M → Bool) (outlasts : M → M → Bool) (changed_by : M → M → M)
      → ((message queued other : M) → stands_for (changed_by message queued) (changed_by message other) ≡ stands_for queued other)
      → (waiting : Waiting M) (message : M) → NoneTwice stands_for waiting
      → NoneTwice stands_for (handled_by_view view_of is_final outlasts stands_for changed_by waiting message)
  unfolding handled_by_view
  twice-comes view_of is_final outlasts changed_by same waiting message holds =
      let Keeps : Waiting M → Type 0 = NoneTwice stands_for in
      choice Keeps (is_final_from view_of waiting.place (view_of message)) _ _ (λ _. holds)
      (λ _. choice Keeps (is_final message) _ _
      (λ _. AllPairs-filter Differ (λ queued. outlasts queued message) waiting.rest holds)
      (λ _. choice Keeps (list_any (λ queued. stands_for queued message) waiting.rest) _ _
      (λ _. pairs-map Differ (changed_by message) waiting.rest (λ i j d lt within. same message _ _ ∙ holds i j d lt within))
      (λ none. twice-last waiting message holds none)))

-- ---- the voter

both_then : (b c : Bool) (new old old' : Round) (reason other other' : TimeoutReason)
    → stands_for_voter (cond (old.view == new.view && b) (voter.Timeout new reason) (voter.Timeout old other))
    (cond (old'.view == new.view && c) (voter.Timeout new reason) (voter.Timeout old' other')) ≡ (old.view == old'.view)
both_then b c new old old' reason other other' =
    choice (λ x. stands_for_voter x (cond (old'.view == new.view && c) (voter.Timeout new reason) (voter.Timeout old' other')) ≡ (old.view == old'.view))
    (old.view == new.view && b) _ _
    (λ is. choice (λ y. stands_for_voter (voter.Timeout new reason) y ≡ (old.view == old'.view)) (old'.view == new.view && c) _ _
    (λ is'. grind (arith, common_steps, is, is')) (λ _. grind (arith, common_steps, is)))
    (λ _. choice (λ y. stands_for_voter (voter.Timeout old other) y ≡ (old.view == old'.view)) (old'.view == new.view && c) _ _
    (λ is'. grind (arith, common_steps, is')) (λ _. refl))

stands-changed : (message queued other : Message) → stands_for_voter (changed_for_voter message queued) (changed_for_voter message other) ≡ stands_for_voter queued other
stands-changed (voter.Timeout new reason) (voter.Proposal p) (voter.Proposal q) = refl
stands-changed (voter.Timeout new reason) (voter.Proposal p) (voter.Timeout old' other') = choice (λ x. stands_for_voter (voter.Proposal p) x ≡ false) (old'.view == new.view && outranks reason other') _ _ (λ _. refl) (λ _. refl)
stands-changed (voter.Timeout new reason) (voter.Proposal p) (voter.Verified d) = refl
stands-changed (voter.Timeout new reason) (voter.Timeout old other) (voter.Proposal q) = choice (λ x. stands_for_voter x (voter.Proposal q) ≡ false) (old.view == new.view && outranks reason other) _ _ (λ _. refl) (λ _. refl)
stands-changed (voter.Timeout new reason) (voter.Timeout old other) (voter.Timeout old' other') = both_then (outranks reason other) (outranks reason other') new old old' reason other other'
stands-changed (voter.Timeout new reason) (voter.Timeout old other) (voter.Verified d) = choice (λ x. stands_for_voter x (voter.Verified d) ≡ false) (old.view == new.view && outranks reason other) _ _ (λ _. refl) (λ _. refl)
stands-changed (voter.Timeout new reason) (voter.Verified c) (voter.Proposal q) = refl
stands-changed (voter.Timeout new reason) (voter.Verified c) (voter.Timeout old' other') = choice (λ x. stands_for_voter (voter.Verified c) x ≡ false) (old'.view == new.view && outranks reason other') _ _ (λ _. refl) (λ _. refl)
stands-changed (voter.Timeout new reason) (voter.Verified c) (voter.Verified d) = refl
stands-changed (voter.Proposal p) queued other = refl
stands-changed (voter.Verified c) queued other = refl

pub voter-twice : (waiting : Waiting Message) (message : Message) → NoneTwice stands_for_voter waiting → NoneTwice stands_for_voter (voter_handled waiting message)
unfolding voter_handled
voter-twice waiting message holds =
    twice-comes stands_for_voter voter_view is_final_for_voter outlasts_for_voter changed_for_voter stands-changed waiting message holds

-- ---- the resolver

repair_stands-changed : (message queued other : MailboxMessage) → stands_for_resolver (changed_for_resolver message queued) (changed_for_resolver message other) ≡ stands_for_resolver queued other
repair_stands-changed (resolver.Resolve q w l None) (resolver.Updated c) (resolver.Updated d) = refl
repair_stands-changed (resolver.Resolve q w l None) (resolver.Updated c) (resolver.Certified m u) = refl
repair_stands-changed (resolver.Resolve q w l None) (resolver.Updated c) (resolver.Resolve p' v' k' t') = refl
repair_stands-changed (resolver.Resolve q w l None) (resolver.Updated c) resolver.Replayed = refl
repair_stands-changed (resolver.Resolve q w l None) (resolver.Certified n s) (resolver.Updated d) = refl
repair_stands-changed (resolver.Resolve q w l None) (resolver.Certified n s) (resolver.Certified m u) = refl
repair_stands-changed (resolver.Resolve q w l None) (resolver.Certified n s) (resolver.Resolve p' v' k' t') = refl
repair_stands-changed (resolver.Resolve q w l None) (resolver.Certified n s) resolver.Replayed = refl
repair_stands-changed (resolver.Resolve q w l None) (resolver.Resolve p v k t) (resolver.Updated d) = refl
repair_stands-changed (resolver.Resolve q w l None) (resolver.Resolve p v k t) (resolver.Certified m u) = refl
repair_stands-changed (resolver.Resolve q w l None) (resolver.Resolve p v k t) (resolver.Resolve p' v' k' t') = refl
repair_stands-changed (resolver.Resolve q w l None) (resolver.Resolve p v k t) resolver.Replayed = refl
repair_stands-changed (resolver.Resolve q w l None) resolver.Replayed (resolver.Updated d) = refl
repair_stands-changed (resolver.Resolve q w l None) resolver.Replayed (resolver.Certified m u) = refl
repair_stands-changed (resolver.Resolve q w l None) resolver.Replayed (resolver.Resolve p' v' k' t') = refl
repair_stands-changed (resolver.Resolve q w l None) resolver.Replayed resolver.Replayed = refl
repair_stands-changed (resolver.Resolve q w l (Some u)) queued other = refl
repair_stands-changed (resolver.Updated c) queued other = refl
repair_stands-changed (resolver.Certified n s) queued other = refl
repair_stands-changed resolver.Replayed queued other = refl

nothing-for-replayed : (queued message : MailboxMessage) → is_replayed message ≡ true → stands_for_resolver queued message ≡ false
nothing-for-replayed queued (resolver.Updated c) is = absurd cc
nothing-for-replayed queued (resolver.Certified n s) is = absurd cc
nothing-for-replayed queued (resolver.Resolve p v k t) is = absurd cc
nothing-for-replayed (resolver.Updated c) resolver.Replayed is = refl
nothing-for-replayed (resolver.Certified n s) resolver.Replayed is = refl
nothing-for-replayed (resolver.Resolve p v k t) resolver.Replayed is = refl
nothing-for-replayed resolver.Replayed resolver.Replayed is = refl

pub resolver-twice : (waiting : Waiting MailboxMessage) (message : MailboxMessage) → NoneTwice stands_for_resolver waiting
    → NoneTwice stands_for_resolver (resolver_handled waiting message)
unfolding resolver_handled
resolver-twice waiting message holds =
    choice (NoneTwice stands_for_resolver) (is_replayed message) _ _
    (λ replayed. all_pairs_push (Differ stands_for_resolver) waiting.rest message holds (λ k d lt. nothing-for-replayed _ message replayed))
    (λ _. twice-comes stands_for_resolver resolver_view is_final_for_resolver outlasts_for_resolver changed_for_resolver repair_stands-changed waiting message holds)

-- ---- the batcher

pub batcher-twice : (waiting : Waiting batcher_message.Message) (message : batcher_message.Message) → NoneTwice stands_for_batcher waiting
    → NoneTwice stands_for_batcher (batcher_handled waiting message)
unfolding batcher_handled
batcher-twice waiting (batcher.Update current leader finalized proposal) holds =
    choice (NoneTwice stands_for_batcher) (is_as_great waiting.place current finalized) _ _ (λ _. holds)
    (λ _. AllPairs-filter (Differ stands_for_batcher) (λ queued. not (outdates_message current finalized queued)) waiting.rest holds)
batcher-twice waiting (batcher.Constructed vote) holds =
    choice (NoneTwice stands_for_batcher)
    (is_outdated waiting.place vote || list_any (λ queued. stands_for_batcher queued (batcher.Constructed vote)) waiting.rest) _ _ (λ _. holds)
    (λ is. twice-last stands_for_batcher waiting (batcher.Constructed vote) holds
    (neither (is_outdated waiting.place vote) (list_any (λ queued. stands_for_batcher queued (batcher.Constructed vote)) waiting.rest) is).1)
