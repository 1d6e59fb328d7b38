-- While an update waits, no vote waits beside it that it makes needless: turn by turn.
use Rattle.std.proofs.Common.{ℕ, zero, suc, ◌≡◌, refl, Bool, true, false, not, ◌||◌, List, [], ◌∷◌, Option, Some, None}
use Rattle.std.specs.Prelude.{All}
use Rattle.std.specs.List.{list_any}
use Rattle.std.proofs.lemmas.List.Elements.{All-nil, All-push, All-weaker, filter_passes}
use Rattle.simplex_values.specs.declared.proposal.Proposal.{Proposal}
use Rattle.simplex_mailbox.specs.Waiting.{Waiting, undrained_at, undrained}
use Rattle.simplex_messages.specs.declared.batcher.Message.{Message}
use Rattle.simplex_messages.specs.declared.batcher.Message.TheVariants as batcher
use Rattle.simplex_messages.specs.Policies.{is_as_great, is_outdated, is_needless, outdates, outdates_message, stands_for_batcher, batcher_handled}
use Rattle.simplex_messages.specs.Turns.{Turn, Comes, Goes, waits_after}
use Rattle.simplex_messages.proofs.Finality.{choice, All-behind}
use Rattle.simplex_messages.proofs.Twice.{neither}

abbrev IsNeeded : Option Message → Message → Type 0
IsNeeded place queued = is_needless place queued ≡ false

abbrev AreNeeded : Waiting Message → Type 0
AreNeeded waiting = All (IsNeeded waiting.place) waiting.rest

not_true : (b : Bool) → not b ≡ true → b ≡ false
not_true true is = absurd cc
not_true false is = refl

needed-by : (current leader finalized : ℕ) (proposal : Option Proposal) (queued : Message)
    → not (outdates_message current finalized queued) ≡ true → IsNeeded (Some (batcher.Update current leader finalized proposal)) queued
needed-by current leader finalized proposal (batcher.Constructed vote) is = not_true (outdates current finalized vote) is
needed-by current leader finalized proposal (batcher.Update c l f p) is = refl

needed-alone : (place : Option Message) (queued : Message) → IsNeeded place queued → IsNeeded None queued
needed-alone place (batcher.Constructed vote) is = refl
needed-alone place (batcher.Update c l f p) is = refl

needed-comes : (waiting : Waiting Message) (message : Message) → AreNeeded waiting → AreNeeded (batcher_handled waiting message)
unfolding batcher_handled
needed-comes waiting (batcher.Update current leader finalized proposal) holds =
    choice AreNeeded (is_as_great waiting.place current finalized) _ _ (λ _. holds)
    (λ _. All-weaker (λ queued. not (outdates_message current finalized queued) ≡ true) (IsNeeded (Some (batcher.Update current leader finalized proposal)))
    (needed-by current leader finalized proposal) _ (filter_passes (λ queued. not (outdates_message current finalized queued)) waiting.rest))
needed-comes waiting (batcher.Constructed vote) holds =
    choice AreNeeded
    (is_outdated waiting.place vote || list_any (λ queued. stands_for_batcher queued (batcher.Constructed vote)) waiting.rest) _ _ (λ _. holds)
    (λ is. All-push (IsNeeded waiting.place) waiting.rest (batcher.Constructed vote) holds
    (neither (is_outdated waiting.place vote) (list_any (λ queued. stands_for_batcher queued (batcher.Constructed vote)) waiting.rest) is).0)

needed-behind : (skips : Message → Bool) (room : ℕ) (place : Option Message) (rest : List Message) → All (IsNeeded place) rest
    → AreNeeded (undrained_at skips room place rest)
unfolding undrained_at
needed-behind skips zero place rest holds = holds
needed-behind skips (suc room) None rest holds = All-behind (IsNeeded None) skips (suc room) rest holds
needed-behind skips (suc room) (Some first) rest holds =
    All-behind (IsNeeded None) skips room rest (All-weaker (IsNeeded (Some first)) (IsNeeded None) (needed-alone (Some first)) rest holds)

needed-goes : (skips : Message → Bool) (room : ℕ) (waiting : Waiting Message) → AreNeeded waiting → AreNeeded (undrained skips room waiting)
unfolding undrained
needed-goes skips room waiting holds = needed-behind skips room waiting.place waiting.rest holds

-- all turns
pub needed-turns : (skips : Message → Bool) (turns : List (Turn Message)) → AreNeeded (waits_after batcher_handled skips turns)
unfolding waits_after
needed-turns skips [] = All-nil (IsNeeded None)
needed-turns skips (Comes message ∷ before) = needed-comes _ message (needed-turns skips before)
needed-turns skips (Goes ∷ before) = needed-goes skips 1 _ (needed-turns skips before)
