-- What holds of all that is handed on holds of what the mailboxes of an engine keep.
use Rattle.std.proofs.Common.{◌==◌, ◌&&◌, Bool, true, false, List, [], ◌∷◌, map, filter, Some, if◌then◌else◌, None}
use Rattle.std.specs.List.{filter_map, list_any}
use Rattle.simplex_messages.specs.declared.batcher.Message as batcher_message
use Rattle.simplex_messages.specs.declared.voter.Message as voter_message
use Rattle.simplex_messages.specs.declared.voter.Message.TheVariants as voter
use Rattle.simplex_messages.specs.declared.handed.Handed.{Handed}
use Rattle.simplex_messages.specs.declared.handed.Handed.TheVariants as handed
use Rattle.simplex_messages.specs.Policies.{is_final_from, voter_view, is_final_for_voter, outlasts_for_voter, stands_for_voter, outranks, changed_for_voter, voter_handled, handled_by_view, batcher_handled, resolver_view, is_final_for_resolver, is_replayed, stands_for_resolver, changed_for_resolver, outlasts_for_resolver, resolver_handled}
use Rattle.simplex_mailbox.specs.Waiting.{Waiting, put_last}
use Rattle.simplex_mailbox.specs.Mail.{Mail, after_recv}
use Rattle.model_steps.specs.Engine.{EngineMade, Did, for_batcher, for_voter, none_skipped, takes_from_batcher, takes_from_voter, batcher_mail, voter_mail, for_resolver, takes_from_resolver, resolver_mail}
use Rattle.law_run.specs.Sayings.{Each}
use Rattle.law_run.proofs.Mails.{Holds, Waits, holds_nothing, holds_all, holds_after, batcher_keeps}
use Rattle.law_run.proofs.Speaking.{Each-append}
use Rattle.simplex_wire.specs.declared.certificate.Certificate.{Certificate}
use Rattle.simplex_wire.specs.declared.certificate.Certificate.TheVariants as certificates
use Rattle.simplex_messages.specs.declared.resolver.MailboxMessage.{MailboxMessage}
use Rattle.simplex_messages.specs.declared.resolver.MailboxMessage.TheVariants as resolver

-- what holds of the certificates that a resolver is told of
abbrev pub InResolverMail : (Certificate → Type 0) → MailboxMessage → Type 0
InResolverMail Good (resolver.Updated c) = Good c
InResolverMail Good (resolver.Certified n success) = Good (certificates.Notarization n)
InResolverMail Good _ = Unit {0}

-- what holds of the messages to the batcher, to the voter, and of the certificates to the resolver
abbrev pub InHanded : (batcher_message.Message → Type 0) → (voter_message.Message → Type 0) → (Certificate → Type 0) → Handed → Type 0
InHanded P Q Good (handed.Batcher message) = P message
InHanded P Q Good (handed.Voter message) = Q message
InHanded P Q Good (handed.Resolver message) = InResolverMail Good message
InHanded P Q Good (handed.Handler message) = Unit {0}

each_filtered : {A : Type 0} (P : A → Type 0) (test : A → Bool) (xs : List A) → Each P xs → Each P (filter test xs)
each_filtered P test [] h = tt
each_filtered P test (x ∷ xs) h = at (test x) (each_filtered P test xs h.1)
  where
    at : (b : Bool) → Each P (filter test xs) → Each P (if b then x ∷ filter test xs else filter test xs)
    at true rest = (h.0, rest)
    at false rest = rest

each_changed : {A : Type 0} (P : A → Type 0) (f : A → A) (xs : List A) → ((a : A) → P a → P (f a)) → Each P xs → Each P (map f xs)
each_changed P f [] keeps h = tt
each_changed P f (x ∷ xs) keeps h = (keeps x h.0, each_changed P f xs keeps h.1)

module _ (P : batcher_message.Message → Type 0) (Q : voter_message.Message → Type 0) (Good : Certificate → Type 0) where
  batcher_each : (hs : List Handed) → Each (InHanded P Q Good) hs → Each P (filter_map for_batcher hs)
  batcher_each [] h = tt
  batcher_each (handed.Batcher message ∷ rest) h = (h.0, batcher_each rest h.1)
  batcher_each (handed.Voter message ∷ rest) h = batcher_each rest h.1
  batcher_each (handed.Resolver message ∷ rest) h = batcher_each rest h.1
  batcher_each (handed.Handler message ∷ rest) h = batcher_each rest h.1

  voter_each : (hs : List Handed) → Each (InHanded P Q Good) hs → Each Q (filter_map for_voter hs)
  voter_each [] h = tt
  voter_each (handed.Voter message ∷ rest) h = (h.0, voter_each rest h.1)
  voter_each (handed.Batcher message ∷ rest) h = voter_each rest h.1
  voter_each (handed.Resolver message ∷ rest) h = voter_each rest h.1
  voter_each (handed.Handler message ∷ rest) h = voter_each rest h.1

  resolver_each : (hs : List Handed) → Each (InHanded P Q Good) hs → Each (InResolverMail Good) (filter_map for_resolver hs)
  resolver_each [] h = tt
  resolver_each (handed.Resolver message ∷ rest) h = (h.0, resolver_each rest h.1)
  resolver_each (handed.Voter message ∷ rest) h = resolver_each rest h.1
  resolver_each (handed.Batcher message ∷ rest) h = resolver_each rest h.1
  resolver_each (handed.Handler message ∷ rest) h = resolver_each rest h.1

  told_any : (message queued : MailboxMessage) → InResolverMail Good queued → InResolverMail Good (changed_for_resolver message queued)
  told_any (resolver.Resolve q w l None) (resolver.Resolve p v k t) h = tt
  told_any (resolver.Resolve q w l None) (resolver.Updated c) h = h
  told_any (resolver.Resolve q w l None) (resolver.Certified n success) h = h
  told_any (resolver.Resolve q w l None) resolver.Replayed h = tt
  told_any (resolver.Resolve q w l (Some target)) queued h = h
  told_any (resolver.Updated c) queued h = h
  told_any (resolver.Certified n success) queued h = h
  told_any resolver.Replayed queued h = h

  resolver_keeps_any : (w : Waiting MailboxMessage) (message : MailboxMessage) → Waits (InResolverMail Good) w → InResolverMail Good message → Waits (InResolverMail Good) (resolver_handled w message)
  unfolding resolver_handled handled_by_view
  resolver_keeps_any w message h p =
      at (is_replayed message) (is_final_from resolver_view w.place (resolver_view message)) (is_final_for_resolver message) (list_any (λ queued. stands_for_resolver queued message) w.rest)
    where
      last : Waits (InResolverMail Good) (put_last w message)
      last = record { place = h.place; rest = Each-append (InResolverMail Good) w.rest (message ∷ []) h.rest (p, tt) }

      at : (replayed final is stands : Bool) → Waits (InResolverMail Good) (if replayed then put_last w message
          else if final then w
          else if is then record { place = Some message; rest = filter (λ queued. outlasts_for_resolver queued message) w.rest }
          else if stands then record w { rest = map (changed_for_resolver message) w.rest }
          else put_last w message)
      at true final is stands = last
      at false true is stands = h
      at false false true stands = record { place = p; rest = each_filtered (InResolverMail Good) (λ queued. outlasts_for_resolver queued message) w.rest h.rest }
      at false false false true = record { place = h.place; rest = each_changed (InResolverMail Good) (changed_for_resolver message) w.rest (λ queued q. told_any message queued q) h.rest }
      at false false false false = last

  changed_any : (message queued : voter_message.Message) → Q message → Q queued → Q (changed_for_voter message queued)
  changed_any (voter.Timeout round reason) (voter.Timeout old other) m h = at (old.view == round.view && outranks reason other)
    where
      at : (b : Bool) → Q (if b then voter.Timeout round reason else voter.Timeout old other)
      at true = m
      at false = h
  changed_any (voter.Timeout round reason) (voter.Proposal p) m h = h
  changed_any (voter.Timeout round reason) (voter.Verified c) m h = h
  changed_any (voter.Proposal p) queued m h = h
  changed_any (voter.Verified c) queued m h = h

  voter_keeps_any : (w : Waiting voter_message.Message) (message : voter_message.Message) → Waits Q w → Q message → Waits Q (voter_handled w message)
  unfolding voter_handled handled_by_view
  voter_keeps_any w message h p =
      at (is_final_from voter_view w.place (voter_view message)) (is_final_for_voter message) (list_any (λ queued. stands_for_voter queued message) w.rest)
    where
      at : (final is stands : Bool) → Waits Q (if final then w
          else if is then record { place = Some message; rest = filter (λ queued. outlasts_for_voter queued message) w.rest }
          else if stands then record w { rest = map (changed_for_voter message) w.rest }
          else put_last w message)
      at true is stands = h
      at false true stands = record { place = p; rest = each_filtered Q (λ queued. outlasts_for_voter queued message) w.rest h.rest }
      at false false true = record { place = h.place; rest = each_changed Q (changed_for_voter message) w.rest (λ queued q. changed_any message queued p q) h.rest }
      at false false false = record { place = h.place; rest = Each-append Q w.rest (message ∷ []) h.rest (p, tt) }

  perhaps_received : {M : Type 0} (R : M → Type 0) (b : Bool) (mail : Mail M) → Holds R mail → Holds R (if b then after_recv none_skipped mail else mail)
  perhaps_received R true mail h = holds_after R none_skipped mail h
  perhaps_received R false mail h = h

  -- all that the engine's actors handed on
  abbrev pub InPast : List Did → Type 0
  InPast past = Each (λ (did : Did). Each (InHanded P Q Good) did.out.handed) past

  pub batcher_holds : (made : EngineMade) (past : List Did) → InPast past → Holds P (batcher_mail made past)
  unfolding batcher_mail
  batcher_holds made [] h = holds_nothing P made.capacity
  batcher_holds made (did ∷ past) h =
      let old = batcher_mail made past in
      holds_all P batcher_handled (batcher_keeps P) (if takes_from_batcher did.taken then after_recv none_skipped old else old) (filter_map for_batcher did.out.handed)
      (perhaps_received P (takes_from_batcher did.taken) old (batcher_holds made past h.1))
      (batcher_each did.out.handed h.0)

  pub voter_holds : (made : EngineMade) (past : List Did) → InPast past → Holds Q (voter_mail made past)
  unfolding voter_mail
  voter_holds made [] h = holds_nothing Q made.capacity
  voter_holds made (did ∷ past) h =
      let old = voter_mail made past in
      holds_all Q voter_handled voter_keeps_any (if takes_from_voter did.taken then after_recv none_skipped old else old) (filter_map for_voter did.out.handed)
      (perhaps_received Q (takes_from_voter did.taken) old (voter_holds made past h.1))
      (voter_each did.out.handed h.0)

  pub resolver_holds : (made : EngineMade) (past : List Did) → InPast past → Holds (InResolverMail Good) (resolver_mail made past)
  unfolding resolver_mail
  resolver_holds made [] h = holds_nothing (InResolverMail Good) made.capacity
  resolver_holds made (did ∷ past) h =
      let old = resolver_mail made past in
      holds_all (InResolverMail Good) resolver_handled resolver_keeps_any (if takes_from_resolver did.taken then after_recv none_skipped old else old) (filter_map for_resolver did.out.handed)
      (perhaps_received (InResolverMail Good) (takes_from_resolver did.taken) old (resolver_holds made past h.1))
      (resolver_each did.out.handed h.0)
