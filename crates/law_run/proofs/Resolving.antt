-- A resolver that is given backed certificates, and responses in which those that verify are backed, says backed ones alone.
use Rattle.std.proofs.Common.{◌≡◌, ℕ, ◌==◌, ◌&&◌, ◌||◌, nat_lt, nat_le, Bool, true, false, List, [], ◌∷◌, length, map, reverse, Option, Some, None, Result, Ok, Err, refl, sym, if◌then◌else◌}
use mathlib.Core.List.{reverse_aux}
use Rattle.std.specs.List.{filter_map}
use Rattle.std.specs.Option.{option_map, option_map_or, option_or}
use Rattle.simplex_values.specs.declared.ask.Ask.{Ask}
use Rattle.simplex_values.specs.declared.ask.Kind.{Kind}
use Rattle.simplex_values.specs.declared.ask.Outcome.{Outcome}
use Rattle.simplex_values.specs.declared.ask.Outcome.TheVariants as outcomes
use Rattle.simplex_values.specs.Covers.{covers}
use Rattle.simplex_wire.specs.declared.certificate.Certificate.{Certificate}
use Rattle.simplex_wire.specs.declared.certificate.Certificate.TheVariants as certificates
use Rattle.simplex_wire.specs.declared.certificate.Notarization.{Notarization}
use Rattle.simplex_wire.specs.declared.certificate.Nullification.{Nullification}
use Rattle.simplex_wire.specs.declared.certificate.Finalization.{Finalization}
use Rattle.simplex_wire.specs.declared.error.DecodeError.{DecodeError}
use Rattle.simplex_wire.specs.declared.resolver.ResolverMessage.{ResolverMessage}
use Rattle.simplex_wire.specs.Certified.{is_certified}
use Rattle.simplex_wire.specs.Fields.{certificate_subject, certificate_signatures}
use Rattle.simplex_wire.specs.Format.{whole}
use Rattle.simplex_wire.specs.Message as format
use Rattle.simplex_wire.specs.ResolverMessage.{resolver_message}
use Rattle.simplex_mailbox.specs.Waiting.{Waiting}
use Rattle.simplex_mailbox.specs.Mail.{Mail, feedback_of, after_leave}
use Rattle.model_rules.specs.declared.effect.Effect.{Effect}
use Rattle.model_rules.specs.Known.{view_of}
use Rattle.model_rules.specs.Lists.{first_of}
use Rattle.model_rules.specs.Repair as repair
use Rattle.model_rules.specs.Repair.{RepairCall, Updated, Certified, Replayed, notarization_taken, notarization_held, finalization_held, covering_nullification, is_final, is_good, repair_floor}
use Rattle.simplex_messages.specs.declared.call.Call.{Call}
use Rattle.simplex_messages.specs.declared.call.Call.TheVariants as calls
use Rattle.simplex_messages.specs.declared.handed.Handed.{Handed}
use Rattle.simplex_messages.specs.declared.handed.Handed.TheVariants as handed
use Rattle.simplex_messages.specs.declared.voter.Message.TheVariants as voter
use Rattle.simplex_messages.specs.declared.resolver.MailboxMessage.{MailboxMessage}
use Rattle.simplex_messages.specs.declared.resolver.MailboxMessage.TheVariants as mail
use Rattle.simplex_messages.specs.declared.resolver.HandlerMessage.{HandlerMessage}
use Rattle.simplex_messages.specs.declared.resolver.HandlerMessage.TheVariants as handler
use Rattle.simplex_messages.specs.declared.resolver.ResolverInput.{ResolverInput}
use Rattle.simplex_messages.specs.declared.resolver.ResolverInput.TheVariants as inputs
use Rattle.simplex_messages.specs.Policies.{has_left, handler_leave, handler_handled}
use Rattle.model_resolver.specs.declared.out.Out.{Out}
use Rattle.model_resolver.specs.declared.out.Out.TheVariants as outs
use Rattle.model_resolver.specs.declared.retire.Retire.{Retire}
use Rattle.model_resolver.specs.declared.sending.Sending.{Sending}
use Rattle.model_resolver.specs.Fetcher as fetch
use Rattle.model_resolver.specs.Sends.{sending, placed, send_call, send_calls}
use Rattle.model_resolver.specs.Resolver as resolver
use Rattle.model_resolver.specs.Resolver.{Made, Given, Stepped, HandlerTaken, Blocked, Standing, at_first, Doing, begun, with_fetcher, called, called_all, putting, leaving, serving, is_backoff, requested, minded, minded_all, after_fetcher, judging, hearing, expiring, retiring, retiring_all, fetching, retire_of, fetch_of, with_effects, recorded, repairing, is_valid, if_valid, validated, is_excepted, handing, passed_over, accepted, answered, delivered, ancestry, resolving, took_mail, took_handled, acted, step, after_taking, after_blocking, standing_after, step_out, handler_message}
use Rattle.law_run.specs.Sayings.{Each, InCall, IsAnswer}
use Rattle.law_run.proofs.Speaking.{Each-append}
use Rattle.law_run.proofs.Mails.{Holds, Waits, InPlace, holds_nothing, holds_one, holds_after, holds_received}
use Rattle.law_run.proofs.Mailing.{InResolverMail}
use Rattle.law_run.proofs.Fetching.{IsSpelling, InOut, BodyBrings, asks_out, retained_out, judged_out, expired_out, served_out, heard_out}

-- ---- what is held

abbrev OfSome : {A : Type 0} → (A → Type 0) → Option A → Type 0
OfSome P None = Unit {0}
OfSome P (Some x) = P x

of_if : {A : Type 0} (P : A → Type 0) (b : Bool) (x y : Option A) → OfSome P x → OfSome P y → OfSome P (if b then x else y)
of_if P true x y p q = p
of_if P false x y p q = q

of_or : {A : Type 0} (P : A → Type 0) (x y : Option A) → OfSome P x → OfSome P y → OfSome P (option_or x y)
of_or P (Some x) y p q = p
of_or P None y p q = q

of_map : {A B : Type 0} (P : B → Type 0) (f : A → B) (x : Option A) → OfSome (λ a. P (f a)) x → OfSome P (option_map f x)
of_map P f (Some x) p = p
of_map P f None p = tt

of_first : {A B : Type 0} (Q : A → Type 0) (P : B → Type 0) (pick : A → Option B) → ((a : A) → Q a → OfSome P (pick a)) → (xs : List A) → Each Q xs → OfSome P (first_of pick xs)
unfolding first_of
of_first Q P pick one [] h = tt
of_first Q P pick one (x ∷ xs) h = of_or P (first_of pick xs) (pick x) (of_first Q P pick one xs h.1) (one x h.0)

module _ (Good : Certificate → Type 0) where
  abbrev pub InRepair : RepairCall → Type 0
  InRepair (Updated c) = Good c
  InRepair (Certified n good) = Good (certificates.Notarization n)
  InRepair Replayed = Unit {0}

  abbrev InNotarization : Notarization → Type 0
  InNotarization n = Good (certificates.Notarization n)

  abbrev InNullification : Nullification → Type 0
  InNullification n = Good (certificates.Nullification n)

  abbrev InFinalization : Finalization → Type 0
  InFinalization f = Good (certificates.Finalization f)

  notarized_by : (view : ℕ) (call : RepairCall) → InRepair call → OfSome InNotarization (notarization_taken view call)
  notarized_by view (Updated (certificates.Notarization n)) g = of_if InNotarization (view_of n.proposal == view) (Some n) None g tt
  notarized_by view (Updated (certificates.Nullification n)) g = tt
  notarized_by view (Updated (certificates.Finalization f)) g = tt
  notarized_by view (Certified n good) g = of_if InNotarization (view_of n.proposal == view) (Some n) None g tt
  notarized_by view Replayed g = tt

  notarized_in : (held : List RepairCall) (view : ℕ) → Each InRepair held → OfSome InNotarization (notarization_held held view)
  unfolding notarization_held
  notarized_in held view h = of_first InRepair InNotarization (notarization_taken view) (notarized_by view) held h

  finalized_in : (held : List RepairCall) → Each InRepair held → OfSome InFinalization (finalization_held held)
  unfolding finalization_held
  finalized_in [] h = tt
  finalized_in (Updated (certificates.Finalization f) ∷ held) h =
      of_if InFinalization (option_map_or (λ (x : Finalization). nat_lt (view_of x.proposal) (view_of f.proposal)) (finalization_held held) true) (Some f) (finalization_held held) h.0 (finalized_in held h.1)
  finalized_in (Updated (certificates.Notarization n) ∷ held) h = finalized_in held h.1
  finalized_in (Updated (certificates.Nullification n) ∷ held) h = finalized_in held h.1
  finalized_in (Certified n good ∷ held) h = finalized_in held h.1
  finalized_in (Replayed ∷ held) h = finalized_in held h.1

  nullified_in : (length : ℕ) (held : List RepairCall) (view : ℕ) → Each InRepair held → OfSome InNullification (covering_nullification length held view)
  unfolding covering_nullification
  nullified_in length [] view h = tt
  nullified_in length (Updated (certificates.Nullification n) ∷ held) view h =
      of_if InNullification (covers length n.round.view view && option_map_or (λ (m : Nullification). nat_lt n.round.view m.round.view) (covering_nullification length held view) true)
      (Some n) (covering_nullification length held view) h.0 (nullified_in length held view h.1)
  nullified_in length (Updated (certificates.Notarization n) ∷ held) view h = nullified_in length held view h.1
  nullified_in length (Updated (certificates.Finalization f) ∷ held) view h = nullified_in length held view h.1
  nullified_in length (Certified n good ∷ held) view h = nullified_in length held view h.1
  nullified_in length (Replayed ∷ held) view h = nullified_in length held view h.1

  produced_good : (length : ℕ) (held : List RepairCall) (view : ℕ) → Each InRepair held → OfSome Good (repair.produced length held view)
  unfolding repair.produced
  produced_good length held view h =
      of_if Good (is_final held view) _ _ (of_map Good certificates.Finalization (finalization_held held) (finalized_in held h))
      (of_if Good (is_good held view) _ _ (of_map Good certificates.Notarization (notarization_held held view) (notarized_in held view h))
      (of_or Good _ _ (of_map Good certificates.Nullification (covering_nullification length held view) (nullified_in length held view h))
      (of_if Good (nat_le view (repair_floor held) && is_good held (repair_floor held)) _ None
      (of_map Good certificates.Notarization (notarization_held held (repair_floor held)) (notarized_in held (repair_floor held) h)) tt)))

-- ---- a resolver

module _ (made : Made) (Good : Certificate → Type 0) where
  -- each certificate that the bytes are read as, and that verifies, is such
  abbrev pub Brings : List ℕ → Type 0
  Brings bytes = (c : Certificate) → whole format.certificate bytes ≡ Ok c → is_certified (made.verifies (certificate_subject c)) made.members (certificate_signatures c) ≡ true → Good c

  abbrev InHandler : HandlerMessage → Type 0
  InHandler (handler.Deliver id view bytes asks waiting) = Brings bytes
  InHandler (handler.Produce id view) = Unit {0}

  pub record IsSound (standing : Standing) : Type 0 where
    pub held : Each (InRepair Good) standing.held
    pub handler : Holds InHandler standing.handler

  -- what it hands on
  abbrev pub InHandedOn : Handed → Type 0
  InHandedOn (handed.Voter (voter.Verified c)) = Good c
  InHandedOn (handed.Handler message) = Unit {0}
  InHandedOn _ = ⊥

  abbrev pub IsBlock : Call → Type 0
  IsBlock (calls.Block who why) = Unit {0}
  IsBlock _ = ⊥

  abbrev InSend : Sending → Type 0
  InSend s = IsAnswer Good s.bytes

  pub record IsSoundDoing (d : Doing) : Type 0 where
    pub standing : IsSound d.standing
    pub handed : Each InHandedOn d.handed
    pub blocks : Each IsBlock d.blocks
    pub sends : Each InSend d.sends

  -- ---- the mailbox of its handler

  handler_keeps : (w : Waiting HandlerMessage) (message : HandlerMessage) → Waits InHandler w → InHandler message → Waits InHandler (handler_handled w message)
  unfolding handler_handled
  handler_keeps w (handler.Produce id view) h p = h
  handler_keeps w (handler.Deliver id view bytes asks true) h p = record { place = h.place; rest = Each-append InHandler w.rest (handler.Deliver id view bytes asks true ∷ []) h.rest (p, tt) }
  handler_keeps w (handler.Deliver id view bytes asks false) h p = h

  leave_keeps : (id : ℕ) (message : HandlerMessage) → InHandler message → InHandler (handler_leave id message)
  leave_keeps id (handler.Deliver other view bytes asks waiting) h = h
  leave_keeps id (handler.Produce other view) h = tt

  each_leave : (id : ℕ) (xs : List HandlerMessage) → Each InHandler xs → Each InHandler (map (handler_leave id) xs)
  each_leave id [] h = tt
  each_leave id (x ∷ xs) h = (leave_keeps id x h.0, each_leave id xs h.1)

  place_leave : (id : ℕ) (o : Option HandlerMessage) → InPlace InHandler o → InPlace InHandler (option_map (handler_leave id) o)
  place_leave id None h = tt
  place_leave id (Some x) h = leave_keeps id x h

  holds_leave : (id : ℕ) (m : Mail HandlerMessage) → Holds InHandler m → Holds InHandler (after_leave handler_leave id m)
  unfolding after_leave
  holds_leave id m h =
      record { ready = each_leave id m.ready h.ready; waiting = record { place = place_leave id m.waiting.place h.waiting.place; rest = each_leave id m.waiting.rest h.waiting.rest } }

  -- ---- what is done in a step

  either : (b : Bool) (x y : Doing) → IsSoundDoing x → IsSoundDoing y → IsSoundDoing (if b then x else y)
  either true x y p q = p
  either false x y p q = q

  placed_sound : (s : Sending) (list : List Sending) → InSend s → Each InSend list → Each InSend (placed s list)
  unfolding placed
  placed_sound s [] g h = (g, tt)
  placed_sound s (other ∷ others) g h = at (nat_le other.view s.view) (placed_sound s others g h.1)
    where
      at : (b : Bool) → Each InSend (placed s others) → Each InSend (if b then s ∷ other ∷ others else other ∷ placed s others)
      at true r = (g, h)
      at false r = (h.0, r)

  called_sound : (out : Out) (d : Doing) → InOut Good Brings out → IsSoundDoing d → IsSoundDoing (called out d)
  unfolding called
  called_sound (outs.Send to bytes) d g s = record { standing = s.standing; handed = s.handed; blocks = s.blocks; sends = placed_sound (sending to bytes) d.sends g s.sends }
  called_sound (outs.Block who why) d g s = record { standing = s.standing; handed = s.handed; blocks = Each-append IsBlock d.blocks (calls.Block who why ∷ []) s.blocks (tt, tt); sends = s.sends }
  called_sound (outs.Deliver id view bytes asks) d g s = s
  called_sound (outs.Produce id view) d g s = s
  called_sound (outs.Left id) d g s = s

  called_all_sound : (list : List Out) (d : Doing) → Each (InOut Good Brings) list → IsSoundDoing d → IsSoundDoing (called_all list d)
  unfolding called_all
  called_all_sound [] d g s = s
  called_all_sound (out ∷ others) d g s = called_all_sound others (called out d) g.1 (called_sound out d g.0 s)

  putting_sound : (message : HandlerMessage) (d : Doing) → InHandler message → IsSoundDoing d → IsSoundDoing (putting message d)
  unfolding putting
  putting_sound message d p s =
      let standing = s.standing in
      record {
        standing = record { held = standing.held; handler = holds_one InHandler handler_handled handler_keeps d.standing.handler message standing.handler p };
        handed = Each-append InHandedOn d.handed (handed.Handler message ∷ []) s.handed (tt, tt);
        blocks = s.blocks;
        sends = s.sends;
      }

  leaving_sound : (id : ℕ) (d : Doing) → IsSoundDoing d → IsSoundDoing (leaving id d)
  unfolding leaving
  leaving_sound id d s =
      let standing = s.standing in
      record { standing = record { held = standing.held; handler = holds_leave id d.standing.handler standing.handler }; handed = s.handed; blocks = s.blocks; sends = s.sends }

  with_fetcher_sound : (m : fetch.Machine) (d : Doing) → IsSoundDoing d → IsSoundDoing (with_fetcher m d)
  with_fetcher_sound m d s = (let standing = s.standing in record { standing = record { held = standing.held; handler = standing.handler }; handed = s.handed; blocks = s.blocks; sends = s.sends })

  serving_sound : (id : ℕ) (bytes : Option (List ℕ)) (d : Doing) → ((b : List ℕ) → bytes ≡ Some b → IsSpelling Good b) → IsSoundDoing d → IsSoundDoing (serving id bytes d)
  unfolding serving
  serving_sound id bytes d g s =
      let served = fetch.served id bytes d.standing.fetcher in
      called_all_sound served.outs (with_fetcher served.fetcher d) (served_out Good Brings id bytes d.standing.fetcher g) (with_fetcher_sound served.fetcher d s)

  requested_sound : (id view : ℕ) (d : Doing) → IsSoundDoing d → IsSoundDoing (requested id view d)
  unfolding requested
  requested_sound id view d s =
      let put = putting_sound (handler.Produce id view) d tt s in
      either (is_backoff (feedback_of d.standing.handler)) _ _ (serving_sound id None (putting (handler.Produce id view) d) (λ b e. cc) put) put

  minded_sound : (out : Out) (d : Doing) → InOut Good Brings out → IsSoundDoing d → IsSoundDoing (minded out d)
  unfolding minded
  minded_sound (outs.Deliver id view bytes asks) d g s = putting_sound (handler.Deliver id view bytes asks true) d g s
  minded_sound (outs.Produce id view) d g s = requested_sound id view d s
  minded_sound (outs.Left id) d g s = leaving_sound id d s
  minded_sound (outs.Send to bytes) d g s = called_sound (outs.Send to bytes) d g s
  minded_sound (outs.Block who why) d g s = called_sound (outs.Block who why) d g s

  minded_all_sound : (list : List Out) (d : Doing) → Each (InOut Good Brings) list → IsSoundDoing d → IsSoundDoing (minded_all list d)
  unfolding minded_all
  minded_all_sound [] d g s = s
  minded_all_sound (out ∷ others) d g s = minded_all_sound others (minded out d) g.1 (minded_sound out d g.0 s)

  after_sound : (after : fetch.After) (d : Doing) → Each (InOut Good Brings) after.outs → IsSoundDoing d → IsSoundDoing (after_fetcher after d)
  after_sound after d g s = minded_all_sound after.outs (with_fetcher after.fetcher d) g (with_fetcher_sound after.fetcher d s)

  judging_sound : (now id : ℕ) (verdict : Option Outcome) (d : Doing) → IsSoundDoing d → IsSoundDoing (judging now id verdict d)
  unfolding judging
  judging_sound now id verdict d s = after_sound (fetch.judged id verdict now d.standing.fetcher) d (judged_out Good Brings id verdict now d.standing.fetcher) s

  retiring_sound : (list : List Retire) (d : Doing) → IsSoundDoing d → IsSoundDoing (retiring_all list d)
  unfolding retiring_all retiring
  retiring_sound [] d s = s
  retiring_sound (retire ∷ others) d s = retiring_sound others (retiring retire d) (after_sound (fetch.retained retire d.standing.fetcher) d (retained_out Good Brings retire d.standing.fetcher) s)

  fetching_sound : (list : List fetch.Fetching) (now : ℕ) (d : Doing) → IsSoundDoing d → IsSoundDoing (fetching list now d)
  unfolding fetching
  fetching_sound list now d s = after_sound (fetch.fetched list now d.standing.fetcher) d (asks_out Good Brings list now d.standing.fetcher) s

  effects_sound : (now : ℕ) (follows : List Effect) (d : Doing) → IsSoundDoing d → IsSoundDoing (with_effects now follows d)
  unfolding with_effects
  effects_sound now follows d s =
      fetching_sound (map fetch.of_all (filter_map fetch_of follows)) now (retiring_all (filter_map retire_of follows) d) (retiring_sound (filter_map retire_of follows) d s)

  recorded_sound : (call : RepairCall) (d : Doing) → InRepair Good call → IsSoundDoing d → IsSoundDoing (recorded call d)
  recorded_sound call d g s =
      (let standing = s.standing in record { standing = record { held = (g, standing.held); handler = standing.handler }; handed = s.handed; blocks = s.blocks; sends = s.sends })

  repairing_sound : (now : ℕ) (call : RepairCall) (d : Doing) → InRepair Good call → IsSoundDoing d → IsSoundDoing (repairing made now call d)
  unfolding repairing
  repairing_sound now call d g s = effects_sound now (repair.effects_of made.term d.standing.held call) (recorded call d) (recorded_sound call d g s)

  -- ---- a response

  both : (a b : Bool) → (a && b) ≡ true → (a ≡ true) × (b ≡ true)
  both true b e = (refl, e)
  both false b e = cc

  valid_good : (view : ℕ) (bytes : List ℕ) → Brings bytes → OfSome Good (validated made view bytes)
  unfolding validated is_valid
  valid_good view bytes b = at (whole format.certificate bytes) refl
    where
      one : (c : Certificate) → whole format.certificate bytes ≡ Ok c → (t : Bool) → is_valid made view c ≡ t → OfSome Good (if t then Some c else None)
      one c e true v = b c e (both _ _ v).1
      one c e false v = tt

      at : (r : Result Certificate DecodeError) → whole format.certificate bytes ≡ r → OfSome Good (if_valid made view r)
      at (Err fault) e = tt
      at (Ok c) e = one c e (is_valid made view c) refl

  passed_sound : (now id view : ℕ) (asks : List Ask) (d : Doing) → IsSoundDoing d → IsSoundDoing (passed_over made now id view asks d)
  unfolding passed_over
  passed_sound now id view asks d s = judging_sound now id _ d s

  accepted_sound : (now id view : ℕ) (asks : List Ask) (c : Certificate) (d : Doing) → Good c → IsSoundDoing d → IsSoundDoing (accepted made now id view asks c d)
  unfolding accepted
  accepted_sound now id view asks c d g s =
      handing_sound (effects_sound now _ _ (judging_sound now id _ (recorded (Updated c) d) (recorded_sound (Updated c) d g s)))
    where
      handing_sound : {x : Doing} → IsSoundDoing x → IsSoundDoing (handing c x)
      handing_sound {x} y = record { standing = y.standing; handed = Each-append InHandedOn x.handed (handed.Voter (voter.Verified c) ∷ []) y.handed (g, tt); blocks = y.blocks; sends = y.sends }

  answered_sound : (now id view : ℕ) (asks : List Ask) (o : Option Certificate) (d : Doing) → OfSome Good o → IsSoundDoing d → IsSoundDoing (answered made now id view asks o d)
  unfolding answered
  answered_sound now id view asks None d g s = judging_sound now id (Some outcomes.Invalid) d s
  answered_sound now id view asks (Some c) d g s =
      either (is_excepted d.standing.held c) _ _ (passed_sound now id view asks d s) (accepted_sound now id view asks c d g s)

  delivered_sound : (now id view : ℕ) (bytes : List ℕ) (asks : List Ask) (d : Doing) → Brings bytes → IsSoundDoing d → IsSoundDoing (delivered made now id view bytes asks d)
  unfolding delivered
  delivered_sound now id view bytes asks d b s =
      either (repair.is_key_settled made.term d.standing.held view) _ _ (judging_sound now id (Some outcomes.Ignored) d s)
      (answered_sound now id view asks (validated made view bytes) d (valid_good view bytes b) s)

  -- ---- the inputs

  spelled : (o : Option Certificate) → OfSome Good o → (b : List ℕ) → option_map format.certificate.spelling o ≡ Some b → IsSpelling Good b
  spelled None g b e = cc
  spelled (Some c) g b e = (c, (let same : format.certificate.spelling c ≡ b = cc in sym same), g)

  produced_sound : (id view : ℕ) (d : Doing) → IsSoundDoing d → IsSoundDoing (resolver.produced made id view d)
  unfolding resolver.produced
  produced_sound id view d s =
      let standing = s.standing in
      serving_sound id _ d (spelled (repair.produced made.term d.standing.held view) (produced_good Good made.term d.standing.held view standing.held)) s

  resolving_sound : (now proposal view : ℕ) (kind : Kind) (target : Option ℕ) (d : Doing) → IsSoundDoing d → IsSoundDoing (resolving made now proposal view kind target d)
  unfolding resolving
  resolving_sound now proposal view kind target d s =
      either (nat_le proposal view || repair.is_settled made.term d.standing.held view kind) _ _ s (fetching_sound (ancestry view kind target ∷ []) now d s)

  mail_sound : (message : MailboxMessage) (now : ℕ) (d : Doing) → InResolverMail Good message → IsSoundDoing d → IsSoundDoing (took_mail made message now d)
  unfolding took_mail
  mail_sound (mail.Updated c) now d g s = repairing_sound now (Updated c) d g s
  mail_sound (mail.Certified n success) now d g s = repairing_sound now (Certified n success) d g s
  mail_sound (mail.Resolve proposal view kind target) now d g s = resolving_sound now proposal view kind target d s
  mail_sound mail.Replayed now d g s = repairing_sound now Replayed d tt s

  handled_sound : (message : HandlerMessage) (now : ℕ) (d : Doing) → InHandler message → IsSoundDoing d → IsSoundDoing (took_handled made message now d)
  unfolding took_handled
  handled_sound (handler.Deliver id view bytes asks waiting) now d g s = either waiting _ _ (delivered_sound now id view bytes asks d g s) s
  handled_sound (handler.Produce id view) now d g s = produced_sound id view d s

  -- what a packet brings on the resolver channel
  abbrev pub PacketBrings : List ℕ → Type 0
  PacketBrings bytes = (message : ResolverMessage) → whole resolver_message bytes ≡ Ok message → BodyBrings Good Brings message.body

  abbrev pub InResolverInput : ResolverInput → Type 0
  InResolverInput (inputs.Mail message) = InResolverMail Good message
  InResolverInput (inputs.Handler message) = InHandler message
  InResolverInput (inputs.Packet sender bytes) = PacketBrings bytes
  InResolverInput inputs.Timer = Unit {0}

  acted_sound : (input : ResolverInput) (now : ℕ) (d : Doing) → InResolverInput input → IsSoundDoing d → IsSoundDoing (acted made input now d)
  unfolding acted hearing expiring
  acted_sound (inputs.Mail message) now d g s = mail_sound message now d g s
  acted_sound (inputs.Handler message) now d g s = handled_sound message now d g s
  acted_sound (inputs.Packet sender bytes) now d g s = after_sound (fetch.heard sender bytes now d.standing.fetcher) d (heard_out Good Brings sender bytes now d.standing.fetcher g) s
  acted_sound inputs.Timer now d g s = after_sound (fetch.expired now d.standing.fetcher) d (expired_out Good Brings now d.standing.fetcher) s

  pub step_sound : (standing : Standing) (input : ResolverInput) (now : ℕ) → IsSound standing → InResolverInput input → IsSoundDoing (step made standing input now)
  unfolding step
  step_sound standing input now h g = acted_sound input now (begun standing) g (record { standing = h; handed = tt; blocks = tt; sends = tt })

  -- ---- a history

  abbrev pub InGiven : Given → Type 0
  InGiven (Stepped input now) = InResolverInput input
  InGiven HandlerTaken = Unit {0}
  InGiven (Blocked member) = Unit {0}

  pub standing_sound : (past : List Given) → Each InGiven past → IsSound (standing_after made past)
  unfolding standing_after at_first after_taking after_blocking
  standing_sound [] h = record { held = tt; handler = holds_nothing InHandler made.handler_size }
  standing_sound (Stepped input now ∷ past) h = (let done = step_sound (standing_after made past) input now (standing_sound past h.1) h.0 in done.standing)
  standing_sound (HandlerTaken ∷ past) h =
      let old = standing_sound past h.1 in
      record { held = old.held; handler = holds_after InHandler has_left (standing_after made past).handler old.handler }
  standing_sound (Blocked member ∷ past) h = (let old = standing_sound past h.1 in record { held = old.held; handler = old.handler })

  pub handler_sound : (past : List Given) (message : HandlerMessage) → Each InGiven past → handler_message made past ≡ Some message → InHandler message
  unfolding handler_message
  handler_sound past message h e = (let s = standing_sound past h in holds_received InHandler (standing_after made past).handler message s.handler e)

  -- ---- what a step gives

  sends_in : (list : List Sending) → Each InSend list → Each (InCall Good) (map send_call list)
  sends_in [] h = tt
  sends_in (s ∷ list) h = (h.0, sends_in list h.1)

  turned : (xs ys : List Sending) → Each InSend xs → Each InSend ys → Each InSend (reverse_aux xs ys)
  turned [] ys h k = k
  turned (x ∷ xs) ys h k = turned xs (x ∷ ys) h.1 (h.0, k)

  blocks_in : (list : List Call) → Each IsBlock list → Each (InCall Good) list
  blocks_in [] h = tt
  blocks_in (calls.Block who why ∷ list) h = (tt, blocks_in list h.1)
  blocks_in (calls.Send channel to bytes ∷ list) h = absurd h.0
  blocks_in (calls.Append n a ∷ list) h = absurd h.0
  blocks_in (calls.Sync n ∷ list) h = absurd h.0
  blocks_in (calls.Prune n ∷ list) h = absurd h.0
  blocks_in (calls.Report a ∷ list) h = absurd h.0
  blocks_in (calls.Relay payload plan ∷ list) h = absurd h.0

  pub resolver_calls : (past : List Given) (input : ResolverInput) (now : ℕ) → Each InGiven past → InResolverInput input → Each (InCall Good) (step_out made past input now).calls
  unfolding step_out send_calls
  resolver_calls past input now h g =
      let d = step made (standing_after made past) input now in
      let s = step_sound (standing_after made past) input now (standing_sound past h) g in
      Each-append (InCall Good) d.blocks (map send_call (reverse d.sends)) (blocks_in d.blocks s.blocks) (sends_in (reverse d.sends) (turned d.sends [] s.sends tt))

  pub resolver_handed : (past : List Given) (input : ResolverInput) (now : ℕ) → Each InGiven past → InResolverInput input → Each InHandedOn (step_out made past input now).handed
  unfolding step_out
  resolver_handed past input now h g = (let s = step_sound (standing_after made past) input now (standing_sound past h) g in s.handed)
