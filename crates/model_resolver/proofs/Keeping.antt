-- What every part of a step keeps is kept by the step.
use Rattle.simplex_types.specs.declared.cause.BlockCause.{BlockCause}
use Rattle.std.proofs.Common.{◌≡◌, ◌++◌, ◌∷◌, ℕ, Bool, true, false, List, [], Option, Some, None, if◌then◌else◌, refl}
use Rattle.simplex_values.specs.declared.ask.Ask.{Ask}
use Rattle.simplex_values.specs.declared.ask.Kind.{Kind}
use Rattle.simplex_values.specs.declared.ask.Outcome.{Outcome}
use Rattle.simplex_wire.specs.declared.certificate.Certificate.{Certificate}
use Rattle.model_rules.specs.declared.effect.Effect.{Effect}
use Rattle.model_rules.specs.Repair as repair
use Rattle.simplex_messages.specs.declared.call.Call.TheVariants as calls
use Rattle.simplex_messages.specs.declared.resolver.ResolverInput.{ResolverInput}
use Rattle.simplex_messages.specs.declared.resolver.ResolverInput.TheVariants as inputs
use Rattle.simplex_messages.specs.declared.resolver.MailboxMessage.{MailboxMessage}
use Rattle.simplex_messages.specs.declared.resolver.MailboxMessage.TheVariants as mail
use Rattle.simplex_messages.specs.declared.resolver.HandlerMessage.{HandlerMessage}
use Rattle.simplex_messages.specs.declared.resolver.HandlerMessage.TheVariants as handler
use Rattle.model_resolver.specs.declared.out.Out.{Out}
use Rattle.model_resolver.specs.declared.out.Out.TheVariants as outs
use Rattle.model_resolver.specs.declared.retire.Retire.{Retire}
use Rattle.model_resolver.specs.Fetcher as fetch
use Rattle.model_resolver.specs.Sends.{sending, placed}
use Rattle.model_resolver.specs.Resolver.{Made, Doing, with_fetcher, recorded, handing, called, called_all, putting, leaving, serving, requested, minded, minded_all, after_fetcher, judging, hearing, expiring, retiring, retiring_all, fetching, with_effects, repairing, validated, passed_over, accepted, answered, delivered, produced, resolving, took_mail, took_handled, acted}

-- the smallest parts of a step keep it
pub record Keeps (P : Doing → Type 0) : Type 0 where
  pub sent : (to : ℕ) (bytes : List ℕ) (doing : Doing) → P doing → P (record doing { sends = placed (sending to bytes) doing.sends })
  pub blocked : (member : ℕ) (why : BlockCause) (doing : Doing) → P doing → P (record doing { blocks = doing.blocks ++ calls.Block member why ∷ [] })
  pub put : (message : HandlerMessage) (doing : Doing) → P doing → P (putting message doing)
  pub left : (id : ℕ) (doing : Doing) → P doing → P (leaving id doing)
  pub fetched : (fetcher : fetch.Machine) (doing : Doing) → P doing → P (with_fetcher fetcher doing)
  pub took : (call : repair.RepairCall) (doing : Doing) → P doing → P (recorded call doing)

-- and so does handing on a valid answer
abbrev pub HandsOn : Made → (Doing → Type 0) → Type 0
HandsOn made P = (view : ℕ) (bytes : List ℕ) (certificate : Certificate) → validated made view bytes ≡ Some certificate
    → (doing : Doing) → P doing → P (handing certificate doing)

either : (P : Doing → Type 0) (test : Bool) (one other : Doing) → P one → P other → P (if test then one else other)
either P true one other p q = p
either P false one other p q = q

module _ (P : Doing → Type 0) (k : Keeps P) where
  called-keeps : (out : Out) (doing : Doing) → P doing → P (called out doing)
  unfolding called
  called-keeps (outs.Send to bytes) doing p = k.sent to bytes doing p
  called-keeps (outs.Block member why) doing p = k.blocked member why doing p
  called-keeps (outs.Deliver id view bytes asks) doing p = p
  called-keeps (outs.Produce id view) doing p = p
  called-keeps (outs.Left id) doing p = p

  called-all-keeps : (all : List Out) (doing : Doing) → P doing → P (called_all all doing)
  unfolding called_all
  called-all-keeps [] doing p = p
  called-all-keeps (out ∷ others) doing p = called-all-keeps others (called out doing) (called-keeps out doing p)

  serving-keeps : (id : ℕ) (bytes : Option (List ℕ)) (doing : Doing) → P doing → P (serving id bytes doing)
  unfolding serving
  serving-keeps id bytes doing p = called-all-keeps _ _ (k.fetched _ doing p)

  requested-keeps : (id view : ℕ) (doing : Doing) → P doing → P (requested id view doing)
  unfolding requested
  requested-keeps id view doing p =
      let put = k.put (handler.Produce id view) doing p in either P _ _ _ (serving-keeps id None _ put) put

  minded-keeps : (out : Out) (doing : Doing) → P doing → P (minded out doing)
  unfolding minded
  minded-keeps (outs.Deliver id view bytes asks) doing p = k.put _ doing p
  minded-keeps (outs.Produce id view) doing p = requested-keeps id view doing p
  minded-keeps (outs.Left id) doing p = k.left id doing p
  minded-keeps (outs.Send to bytes) doing p = called-keeps (outs.Send to bytes) doing p
  minded-keeps (outs.Block member why) doing p = called-keeps (outs.Block member why) doing p

  minded-all-keeps : (all : List Out) (doing : Doing) → P doing → P (minded_all all doing)
  unfolding minded_all
  minded-all-keeps [] doing p = p
  minded-all-keeps (out ∷ others) doing p = minded-all-keeps others (minded out doing) (minded-keeps out doing p)

  after-fetcher-keeps : (after : fetch.After) (doing : Doing) → P doing → P (after_fetcher after doing)
  after-fetcher-keeps after doing p = minded-all-keeps after.outs _ (k.fetched after.fetcher doing p)

  judging-keeps : (now id : ℕ) (verdict : Option Outcome) (doing : Doing) → P doing → P (judging now id verdict doing)
  unfolding judging
  judging-keeps now id verdict doing p = after-fetcher-keeps _ doing p

  retiring-all-keeps : (retires : List Retire) (doing : Doing) → P doing → P (retiring_all retires doing)
  unfolding retiring_all retiring
  retiring-all-keeps [] doing p = p
  retiring-all-keeps (retire ∷ others) doing p = retiring-all-keeps others _ (after-fetcher-keeps _ doing p)

  fetching-keeps : (fetchings : List fetch.Fetching) (now : ℕ) (doing : Doing) → P doing → P (fetching fetchings now doing)
  unfolding fetching
  fetching-keeps fetchings now doing p = after-fetcher-keeps _ doing p

  with-effects-keeps : (now : ℕ) (follows : List Effect) (doing : Doing) → P doing → P (with_effects now follows doing)
  unfolding with_effects
  with-effects-keeps now follows doing p = fetching-keeps _ now _ (retiring-all-keeps _ doing p)

  repairing-keeps : (made : Made) (now : ℕ) (call : repair.RepairCall) (doing : Doing) → P doing → P (repairing made now call doing)
  unfolding repairing
  repairing-keeps made now call doing p = with-effects-keeps now _ _ (k.took call doing p)

  accepted-keeps : (made : Made) (now id view : ℕ) (asks : List Ask) (certificate : Certificate)
      → ((doing : Doing) → P doing → P (handing certificate doing)) → (doing : Doing) → P doing → P (accepted made now id view asks certificate doing)
  unfolding accepted
  accepted-keeps made now id view asks certificate hand doing p =
      hand _ (with-effects-keeps now _ _ (judging-keeps now id _ _ (k.took (repair.Updated certificate) doing p)))

  answered-keeps : (made : Made) (now id view : ℕ) (asks : List Ask) (answer : Option Certificate)
      → ((certificate : Certificate) → answer ≡ Some certificate → (doing : Doing) → P doing → P (handing certificate doing))
      → (doing : Doing) → P doing → P (answered made now id view asks answer doing)
  unfolding answered passed_over
  answered-keeps made now id view asks None hand doing p = judging-keeps now id _ doing p
  answered-keeps made now id view asks (Some certificate) hand doing p =
      either P _ _ _ (judging-keeps now id _ doing p) (accepted-keeps made now id view asks certificate (hand certificate refl) doing p)

  delivered-keeps : (made : Made) → HandsOn made P → (now id view : ℕ) (bytes : List ℕ) (asks : List Ask) (doing : Doing) → P doing → P (delivered made now id view bytes asks doing)
  unfolding delivered
  delivered-keeps made hand now id view bytes asks doing p =
      either P _ _ _ (judging-keeps now id _ doing p) (answered-keeps made now id view asks (validated made view bytes) (hand view bytes) doing p)

  resolving-keeps : (made : Made) (now proposal view : ℕ) (kind : Kind) (target : Option ℕ) (doing : Doing) → P doing → P (resolving made now proposal view kind target doing)
  unfolding resolving
  resolving-keeps made now proposal view kind target doing p = either P _ _ _ p (fetching-keeps _ now doing p)

  mail-keeps : (made : Made) (message : MailboxMessage) (now : ℕ) (doing : Doing) → P doing → P (took_mail made message now doing)
  unfolding took_mail
  mail-keeps made (mail.Updated certificate) now doing p = repairing-keeps made now _ doing p
  mail-keeps made (mail.Certified notarization success) now doing p = repairing-keeps made now _ doing p
  mail-keeps made (mail.Resolve proposal view kind target) now doing p = resolving-keeps made now proposal view kind target doing p
  mail-keeps made mail.Replayed now doing p = repairing-keeps made now _ doing p

  handled-keeps : (made : Made) → HandsOn made P → (message : HandlerMessage) (now : ℕ) (doing : Doing) → P doing → P (took_handled made message now doing)
  unfolding took_handled produced
  handled-keeps made hand (handler.Deliver id view bytes asks waiting) now doing p =
      either P waiting _ _ (delivered-keeps made hand now id view bytes asks doing p) p
  handled-keeps made hand (handler.Produce id view) now doing p = serving-keeps id _ doing p

  pub acted-keeps : (made : Made) → HandsOn made P → (input : ResolverInput) (now : ℕ) (doing : Doing) → P doing → P (acted made input now doing)
  unfolding acted hearing expiring
  acted-keeps made hand (inputs.Mail message) now doing p = mail-keeps made message now doing p
  acted-keeps made hand (inputs.Handler message) now doing p = handled-keeps made hand message now doing p
  acted-keeps made hand (inputs.Packet sender bytes) now doing p = after-fetcher-keeps _ doing p
  acted-keeps made hand inputs.Timer now doing p = after-fetcher-keeps _ doing p
