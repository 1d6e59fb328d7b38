-- The policies' words at the messages, one kind after another.
use Rattle.std.proofs.Common.{◌≡◌, ◌==◌, refl, Bool, true, false, cond, ◌&&◌, Some, None, arith}
use Rattle.simplex_mailbox.specs.Waiting.{Waiting}
use Rattle.simplex_values.specs.declared.timeout.TimeoutReason.{TimeoutReason}
use Rattle.simplex_values.specs.declared.round.Round.{Round}
use Rattle.simplex_messages.specs.declared.voter.Message.{Message}
use Rattle.simplex_messages.specs.declared.voter.Message.TheVariants as voter
use Rattle.simplex_messages.specs.declared.resolver.MailboxMessage.{MailboxMessage}
use Rattle.simplex_messages.specs.declared.resolver.MailboxMessage.TheVariants as resolver
use Rattle.simplex_messages.specs.Policies.{voter_view, is_final_for_voter, outlasts_for_voter, outlasts_for_resolver, stands_for_voter, changed_for_voter, outranks, voter_handled, resolver_view, is_final_for_resolver, is_replayed, stands_for_resolver, changed_for_resolver, resolver_handled}
use Rattle.simplex_messages.specs.Turns.{FinalityRules}
use Rattle.simplex_messages.proofs.Finality.{choice, rules-comes, rules-free}
use Rattle.std.proofs.lemmas.Grind.{common_steps}

-- ---- the voter

voter_view_then : (b : Bool) (new old : Round) (reason other : TimeoutReason)
    → voter_view (cond (old.view == new.view && b) (voter.Timeout new reason) (voter.Timeout old other)) ≡ old.view
voter_view_then b new old reason other =
    choice (λ message. voter_view message ≡ old.view) (old.view == new.view && b) _ _ (λ is. grind (arith, common_steps, is)) (λ _. refl)

voter_view-changed : (message queued : Message) → voter_view (changed_for_voter message queued) ≡ voter_view queued
voter_view-changed (voter.Timeout new reason) (voter.Timeout old other) = voter_view_then (outranks reason other) new old reason other
voter_view-changed (voter.Timeout new reason) (voter.Proposal p) = refl
voter_view-changed (voter.Timeout new reason) (voter.Verified c) = refl
voter_view-changed (voter.Proposal p) queued = refl
voter_view-changed (voter.Verified c) queued = refl

final_then : (b : Bool) (new old : Round) (reason other : TimeoutReason)
    → is_final_for_voter (cond b (voter.Timeout new reason) (voter.Timeout old other)) ≡ false
final_then true new old reason other = refl
final_then false new old reason other = refl

final-changed : (message queued : Message) → is_final_for_voter (changed_for_voter message queued) ≡ is_final_for_voter queued
final-changed (voter.Timeout new reason) (voter.Timeout old other) = final_then (old.view == new.view && outranks reason other) new old reason other
final-changed (voter.Timeout new reason) (voter.Proposal p) = refl
final-changed (voter.Timeout new reason) (voter.Verified c) = refl
final-changed (voter.Proposal p) queued = refl
final-changed (voter.Verified c) queued = refl

pub voter-comes : (waiting : Waiting Message) (message : Message) → FinalityRules voter_view is_final_for_voter (λ _. false) waiting
    → FinalityRules voter_view is_final_for_voter (λ _. false) (voter_handled waiting message)
unfolding voter_handled
voter-comes waiting message holds =
    rules-comes voter_view is_final_for_voter (λ _. false) outlasts_for_voter stands_for_voter changed_for_voter
    (λ queued final. refl) voter_view-changed final-changed (λ _ _. refl) waiting message holds

-- ---- the resolver

resolver_view-changed : (message queued : MailboxMessage) → resolver_view (changed_for_resolver message queued) ≡ resolver_view queued
resolver_view-changed (resolver.Resolve q w l None) (resolver.Resolve p v k t) = refl
resolver_view-changed (resolver.Resolve q w l None) (resolver.Updated c) = refl
resolver_view-changed (resolver.Resolve q w l None) (resolver.Certified n s) = refl
resolver_view-changed (resolver.Resolve q w l None) resolver.Replayed = refl
resolver_view-changed (resolver.Resolve q w l (Some u)) queued = refl
resolver_view-changed (resolver.Updated c) queued = refl
resolver_view-changed (resolver.Certified n s) queued = refl
resolver_view-changed resolver.Replayed queued = refl

repair_final-changed : (message queued : MailboxMessage) → is_final_for_resolver (changed_for_resolver message queued) ≡ is_final_for_resolver queued
repair_final-changed (resolver.Resolve q w l None) (resolver.Resolve p v k t) = refl
repair_final-changed (resolver.Resolve q w l None) (resolver.Updated c) = refl
repair_final-changed (resolver.Resolve q w l None) (resolver.Certified n s) = refl
repair_final-changed (resolver.Resolve q w l None) resolver.Replayed = refl
repair_final-changed (resolver.Resolve q w l (Some u)) queued = refl
repair_final-changed (resolver.Updated c) queued = refl
repair_final-changed (resolver.Certified n s) queued = refl
repair_final-changed resolver.Replayed queued = refl

pub replayed-changed : (message queued : MailboxMessage) → is_replayed (changed_for_resolver message queued) ≡ is_replayed queued
replayed-changed (resolver.Resolve q w l None) (resolver.Resolve p v k t) = refl
replayed-changed (resolver.Resolve q w l None) (resolver.Updated c) = refl
replayed-changed (resolver.Resolve q w l None) (resolver.Certified n s) = refl
replayed-changed (resolver.Resolve q w l None) resolver.Replayed = refl
replayed-changed (resolver.Resolve q w l (Some u)) queued = refl
replayed-changed (resolver.Updated c) queued = refl
replayed-changed (resolver.Certified n s) queued = refl
replayed-changed resolver.Replayed queued = refl

replayed-plain : (message : MailboxMessage) → is_replayed message ≡ true → is_final_for_resolver message ≡ false
replayed-plain (resolver.Resolve p v k t) is = refl
replayed-plain (resolver.Updated c) is = cc
replayed-plain (resolver.Certified n s) is = refl
replayed-plain resolver.Replayed is = refl

pub resolver-comes : (waiting : Waiting MailboxMessage) (message : MailboxMessage) → FinalityRules resolver_view is_final_for_resolver is_replayed waiting
    → FinalityRules resolver_view is_final_for_resolver is_replayed (resolver_handled waiting message)
unfolding resolver_handled
resolver-comes waiting message holds =
    choice (FinalityRules resolver_view is_final_for_resolver is_replayed) (is_replayed message) _ _
    (λ replayed. rules-free resolver_view is_final_for_resolver is_replayed waiting message holds (replayed-plain message replayed) replayed)
    (λ _. rules-comes resolver_view is_final_for_resolver is_replayed outlasts_for_resolver stands_for_resolver changed_for_resolver
    (λ queued final. refl) resolver_view-changed repair_final-changed replayed-changed waiting message holds)
