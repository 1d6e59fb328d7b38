-- The members that a resolver's fetcher asks no more are those that it was told and those that its steps blocked.
use Rattle.std.proofs.Common.{◌≡◌, ℕ, Err, ◌||◌, nat_le, Bool, true, false, List, [], ◌∷◌, ◌++◌, map, reverse, Option, Some, None, refl, sym, ap, ◌∙◌, append-nil, append_assoc, if◌then◌else◌}
use mathlib.Core.List.{reverse_aux}
use Rattle.std.specs.List.{filter_map, cons_option}
use Rattle.std.proofs.lemmas.List.Elements.{filter_map-append}
use Rattle.simplex_values.specs.declared.ask.Ask.{Ask}
use Rattle.simplex_values.specs.declared.ask.Kind.{Kind}
use Rattle.simplex_values.specs.declared.ask.Outcome.{Outcome}
use Rattle.simplex_values.specs.declared.ask.Outcome.TheVariants as outcomes
use Rattle.simplex_wire.specs.declared.certificate.Certificate.{Certificate}
use Rattle.simplex_wire.specs.declared.error.DecodeError.{DecodeError}
use Rattle.simplex_wire.specs.Format.{whole}
use Rattle.simplex_wire.specs.ResolverMessage.{resolver_message}
use Rattle.simplex_types.specs.declared.cause.BlockCause.{BlockCause}
use Rattle.simplex_types.specs.declared.cause.BlockCause.TheVariants.{Undecodable, InvalidResponse}
use Rattle.model_rules.specs.declared.effect.Effect.{Effect}
use Rattle.model_rules.specs.Repair as repair
use Rattle.model_rules.specs.Repair.{RepairCall, Updated, Certified, Replayed}
use Rattle.simplex_messages.specs.declared.call.Call.{Call}
use Rattle.simplex_messages.specs.declared.call.Call.TheVariants as calls
use Rattle.simplex_messages.specs.declared.resolver.MailboxMessage.{MailboxMessage}
use Rattle.simplex_messages.specs.declared.resolver.MailboxMessage.TheVariants as mail
use Rattle.simplex_messages.specs.declared.resolver.HandlerMessage.{HandlerMessage}
use Rattle.simplex_messages.specs.declared.resolver.HandlerMessage.TheVariants as handler
use Rattle.simplex_messages.specs.declared.resolver.ResolverInput.{ResolverInput}
use Rattle.simplex_messages.specs.declared.resolver.ResolverInput.TheVariants as inputs
use Rattle.simplex_messages.specs.Step.{blocked_member, blocked_by_calls}
use Rattle.simplex_mailbox.specs.Mail.{feedback_of}
use Rattle.model_resolver.specs.declared.out.Out.{Out}
use Rattle.model_resolver.specs.declared.out.Out.TheVariants as outs
use Rattle.model_resolver.specs.declared.retire.Retire.{Retire}
use Rattle.model_resolver.specs.declared.sending.Sending.{Sending}
use Rattle.model_resolver.specs.Fetcher as fetch
use Rattle.model_resolver.specs.Sends.{send_call, send_calls}
use Rattle.model_resolver.specs.Resolver.{Made, Given, Stepped, HandlerTaken, Blocked, Doing, begun, with_fetcher, called, called_all, putting, leaving, serving, is_backoff, requested, minded, minded_all, after_fetcher, judging, hearing, expiring, retiring, retiring_all, fetching, retire_of, fetch_of, with_effects, recorded, repairing, validated, is_excepted, passed_over, accepted, answered, delivered, produced, ancestry, resolving, took_mail, took_handled, acted, step, after_taking, after_blocking, standing_after, step_out, blocked_after}
use Rattle.law_run.proofs.Inserting.{inserted, inserted-append}
use Rattle.law_run.specs.Sayings.{Each}
use Rattle.law_run.proofs.Speaking.{Each-append}
use Rattle.law_run.proofs.FetchBlocks.{IsGrown, same_grown, blocked_out, blocked_outs, FairOut, none_fair, fetched_same, retained_same, judged_grown, judged_fair, expired_same, served_same, heard_grown, heard_fair}

-- What is kept of whom the fetcher asks no more, of the blocks so far, and of what is still wanted
pub record Walks (Hears : ℕ → List ℕ → Type 0) (Q : List ℕ → List Call → List Out → Type 0) : Type 0 where
  pub block : (blocked : List ℕ) (made : List Call) (who : ℕ) (why : BlockCause) (wanted : List Out) → Q blocked made (outs.Block who why ∷ wanted) → Q blocked (made ++ calls.Block who why ∷ []) wanted
  pub other : (blocked : List ℕ) (made : List Call) (out : Out) (wanted : List Out) → blocked_out out ≡ None → Q blocked made (out ∷ wanted) → Q blocked made wanted
  pub serves : (id : ℕ) (bytes : Option (List ℕ)) (m : fetch.Machine) (made : List Call) (wanted : List Out) → Q m.blocked made wanted → Q (fetch.served id bytes m).fetcher.blocked made ((fetch.served id bytes m).outs ++ wanted)
  pub judges : (id : ℕ) (verdict : Option Outcome) (now : ℕ) (m : fetch.Machine) (made : List Call) → Q m.blocked made [] → Q (fetch.judged id verdict now m).fetcher.blocked made (fetch.judged id verdict now m).outs
  pub retires : (retire : Retire) (m : fetch.Machine) (made : List Call) → Q m.blocked made [] → Q (fetch.retained retire m).fetcher.blocked made (fetch.retained retire m).outs
  pub fetches : (list : List fetch.Fetching) (now : ℕ) (m : fetch.Machine) (made : List Call) → Q m.blocked made [] → Q (fetch.fetched list now m).fetcher.blocked made (fetch.fetched list now m).outs
  pub expires : (now : ℕ) (m : fetch.Machine) (made : List Call) → Q m.blocked made [] → Q (fetch.expired now m).fetcher.blocked made (fetch.expired now m).outs
  pub hears : (sender : ℕ) (bytes : List ℕ) (now : ℕ) (m : fetch.Machine) (made : List Call) → Hears sender bytes → Q m.blocked made [] → Q (fetch.heard sender bytes now m).fetcher.blocked made (fetch.heard sender bytes now m).outs

module _ (Hears : ℕ → List ℕ → Type 0) (Q : List ℕ → List Call → List Out → Type 0) (k : Walks Hears Q) where
  abbrev Owes : List Out → Doing → Type 0
  Owes wanted d = Q d.standing.fetcher.blocked d.blocks wanted

  abbrev Is : Doing → Type 0
  Is d = Owes [] d

  either : (b : Bool) (wanted : List Out) (x y : Doing) → Owes wanted x → Owes wanted y → Owes wanted (if b then x else y)
  either true wanted x y p q = p
  either false wanted x y p q = q

  called_owes : (out : Out) (wanted : List Out) (d : Doing) → Owes (out ∷ wanted) d → Owes wanted (called out d)
  unfolding called
  called_owes (outs.Send to bytes) wanted d p = k.other d.standing.fetcher.blocked d.blocks (outs.Send to bytes) wanted refl p
  called_owes (outs.Deliver id view bytes asks) wanted d p = k.other d.standing.fetcher.blocked d.blocks (outs.Deliver id view bytes asks) wanted refl p
  called_owes (outs.Produce id view) wanted d p = k.other d.standing.fetcher.blocked d.blocks (outs.Produce id view) wanted refl p
  called_owes (outs.Left id) wanted d p = k.other d.standing.fetcher.blocked d.blocks (outs.Left id) wanted refl p
  called_owes (outs.Block who why) wanted d p = k.block d.standing.fetcher.blocked d.blocks who why wanted p

  -- nothing comes of those that go to the handler but that they are no longer wanted
  passed_by : (out : Out) (wanted : List Out) (d : Doing) → blocked_out out ≡ None → Owes (out ∷ wanted) d → Owes wanted d
  passed_by out wanted d e p = k.other d.standing.fetcher.blocked d.blocks out wanted e p

  called_all_owes : (list wanted : List Out) (d : Doing) → Owes (list ++ wanted) d → Owes wanted (called_all list d)
  unfolding called_all
  called_all_owes [] wanted d p = p
  called_all_owes (out ∷ others) wanted d p = called_all_owes others wanted (called out d) (called_owes out (others ++ wanted) d p)

  putting_owes : (message : HandlerMessage) (wanted : List Out) (d : Doing) → Owes wanted d → Owes wanted (putting message d)
  unfolding putting
  putting_owes message wanted d p = p

  leaving_owes : (id : ℕ) (wanted : List Out) (d : Doing) → Owes wanted d → Owes wanted (leaving id d)
  unfolding leaving
  leaving_owes id wanted d p = p

  serving_owes : (id : ℕ) (bytes : Option (List ℕ)) (wanted : List Out) (d : Doing) → Owes wanted d → Owes wanted (serving id bytes d)
  unfolding serving
  serving_owes id bytes wanted d p =
      let served = fetch.served id bytes d.standing.fetcher in
      called_all_owes served.outs wanted (with_fetcher served.fetcher d) (k.serves id bytes d.standing.fetcher d.blocks wanted p)

  requested_owes : (id view : ℕ) (wanted : List Out) (d : Doing) → Owes wanted d → Owes wanted (requested id view d)
  unfolding requested
  requested_owes id view wanted d p =
      let put = putting_owes (handler.Produce id view) wanted d p in
      either (is_backoff (feedback_of d.standing.handler)) wanted _ _ (serving_owes id None wanted (putting (handler.Produce id view) d) put) put

  minded_owes : (out : Out) (wanted : List Out) (d : Doing) → Owes (out ∷ wanted) d → Owes wanted (minded out d)
  unfolding minded
  minded_owes (outs.Deliver id view bytes asks) wanted d p = putting_owes (handler.Deliver id view bytes asks true) wanted d (passed_by (outs.Deliver id view bytes asks) wanted d refl p)
  minded_owes (outs.Produce id view) wanted d p = requested_owes id view wanted d (passed_by (outs.Produce id view) wanted d refl p)
  minded_owes (outs.Left id) wanted d p = leaving_owes id wanted d (passed_by (outs.Left id) wanted d refl p)
  minded_owes (outs.Send to bytes) wanted d p = called_owes (outs.Send to bytes) wanted d p
  minded_owes (outs.Block who why) wanted d p = called_owes (outs.Block who why) wanted d p

  minded_all_is : (list : List Out) (d : Doing) → Owes list d → Is (minded_all list d)
  unfolding minded_all
  minded_all_is [] d p = p
  minded_all_is (out ∷ others) d p = minded_all_is others (minded out d) (minded_owes out others d p)

  after_is : (after : fetch.After) (d : Doing) → Q after.fetcher.blocked d.blocks after.outs → Is (after_fetcher after d)
  after_is after d p = minded_all_is after.outs (with_fetcher after.fetcher d) p

  judging_is : (now id : ℕ) (verdict : Option Outcome) (d : Doing) → Is d → Is (judging now id verdict d)
  unfolding judging
  judging_is now id verdict d p = after_is (fetch.judged id verdict now d.standing.fetcher) d (k.judges id verdict now d.standing.fetcher d.blocks p)

  retiring_all_is : (list : List Retire) (d : Doing) → Is d → Is (retiring_all list d)
  unfolding retiring_all retiring
  retiring_all_is [] d p = p
  retiring_all_is (retire ∷ others) d p =
      retiring_all_is others (retiring retire d) (after_is (fetch.retained retire d.standing.fetcher) d (k.retires retire d.standing.fetcher d.blocks p))

  fetching_is : (list : List fetch.Fetching) (now : ℕ) (d : Doing) → Is d → Is (fetching list now d)
  unfolding fetching
  fetching_is list now d p = after_is (fetch.fetched list now d.standing.fetcher) d (k.fetches list now d.standing.fetcher d.blocks p)

  effects_is : (now : ℕ) (follows : List Effect) (d : Doing) → Is d → Is (with_effects now follows d)
  unfolding with_effects
  effects_is now follows d p =
      fetching_is (map fetch.of_all (filter_map fetch_of follows)) now (retiring_all (filter_map retire_of follows) d) (retiring_all_is (filter_map retire_of follows) d p)

  repairing_is : (made : Made) (now : ℕ) (call : RepairCall) (d : Doing) → Is d → Is (repairing made now call d)
  unfolding repairing
  repairing_is made now call d p = effects_is now (repair.effects_of made.term d.standing.held call) (recorded call d) p

  passed_is : (made : Made) (now id view : ℕ) (asks : List Ask) (d : Doing) → Is d → Is (passed_over made now id view asks d)
  unfolding passed_over
  passed_is made now id view asks d p = judging_is now id _ d p

  accepted_is : (made : Made) (now id view : ℕ) (asks : List Ask) (c : Certificate) (d : Doing) → Is d → Is (accepted made now id view asks c d)
  unfolding accepted
  accepted_is made now id view asks c d p = effects_is now _ _ (judging_is now id _ (recorded (Updated c) d) p)

  answered_is : (made : Made) (now id view : ℕ) (asks : List Ask) (o : Option Certificate) (d : Doing) → Is d → Is (answered made now id view asks o d)
  unfolding answered
  answered_is made now id view asks None d p = judging_is now id (Some outcomes.Invalid) d p
  answered_is made now id view asks (Some c) d p =
      either (is_excepted d.standing.held c) [] _ _ (passed_is made now id view asks d p) (accepted_is made now id view asks c d p)

  delivered_is : (made : Made) (now id view : ℕ) (bytes : List ℕ) (asks : List Ask) (d : Doing) → Is d → Is (delivered made now id view bytes asks d)
  unfolding delivered
  delivered_is made now id view bytes asks d p =
      either (repair.is_key_settled made.term d.standing.held view) [] _ _ (judging_is now id (Some outcomes.Ignored) d p)
      (answered_is made now id view asks (validated made view bytes) d p)

  produced_is : (made : Made) (id view : ℕ) (d : Doing) → Is d → Is (produced made id view d)
  unfolding produced
  produced_is made id view d p = serving_owes id _ [] d p

  resolving_is : (made : Made) (now proposal view : ℕ) (kind : Kind) (target : Option ℕ) (d : Doing) → Is d → Is (resolving made now proposal view kind target d)
  unfolding resolving
  resolving_is made now proposal view kind target d p =
      either (nat_le proposal view || repair.is_settled made.term d.standing.held view kind) [] _ _ p (fetching_is (ancestry view kind target ∷ []) now d p)

  mail_is : (made : Made) (message : MailboxMessage) (now : ℕ) (d : Doing) → Is d → Is (took_mail made message now d)
  unfolding took_mail
  mail_is made (mail.Updated c) now d p = repairing_is made now (Updated c) d p
  mail_is made (mail.Certified n success) now d p = repairing_is made now (Certified n success) d p
  mail_is made (mail.Resolve proposal view kind target) now d p = resolving_is made now proposal view kind target d p
  mail_is made mail.Replayed now d p = repairing_is made now Replayed d p

  handled_is : (made : Made) (message : HandlerMessage) (now : ℕ) (d : Doing) → Is d → Is (took_handled made message now d)
  unfolding took_handled
  handled_is made (handler.Deliver id view bytes asks waiting) now d p = either waiting [] _ _ (delivered_is made now id view bytes asks d p) p
  handled_is made (handler.Produce id view) now d p = produced_is made id view d p

  abbrev HearsInput : ResolverInput → Type 0
  HearsInput (inputs.Packet sender bytes) = Hears sender bytes
  HearsInput _ = Unit {0}

  acted_is : (made : Made) (input : ResolverInput) (now : ℕ) (d : Doing) → HearsInput input → Is d → Is (acted made input now d)
  unfolding acted hearing expiring
  acted_is made (inputs.Mail message) now d h p = mail_is made message now d p
  acted_is made (inputs.Handler message) now d h p = handled_is made message now d p
  acted_is made (inputs.Packet sender bytes) now d h p = after_is (fetch.heard sender bytes now d.standing.fetcher) d (k.hears sender bytes now d.standing.fetcher d.blocks h p)
  acted_is made inputs.Timer now d h p = after_is (fetch.expired now d.standing.fetcher) d (k.expires now d.standing.fetcher d.blocks p)

-- ---- the members blocked so far, and those that are still wanted to be, were put among those blocked before

module _ (before : List ℕ) where
  abbrev Puts : List ℕ → List Call → List Out → Type 0
  Puts blocked made wanted = blocked ≡ inserted before (blocked_by_calls made ++ blocked_outs wanted)

  grown : (m : fetch.Machine) (after : fetch.After) (made : List Call) → IsGrown m after → Puts m.blocked made [] → Puts after.fetcher.blocked made after.outs
  grown m after made g p =
      g ∙ ap (λ xs. inserted xs (blocked_outs after.outs)) (p ∙ ap (inserted before) (append-nil (blocked_by_calls made)))
      ∙ sym (inserted-append before (blocked_by_calls made) (blocked_outs after.outs))

  puts : Walks (λ sender bytes. Unit {0}) Puts
  puts = record {
    block = λ blocked made who why wanted p.
        p ∙ ap (inserted before) (sym (ap (λ xs. xs ++ blocked_outs wanted) (filter_map-append blocked_member made (calls.Block who why ∷ []))
        ∙ append_assoc (blocked_by_calls made) (who ∷ []) (blocked_outs wanted)));
    other = λ blocked made out wanted e p. p ∙ ap (λ (o : Option ℕ). inserted before (blocked_by_calls made ++ cons_option o (blocked_outs wanted))) e;
    serves = λ id bytes m made wanted p.
        (let same = served_same id bytes m in
        let nothing : blocked_outs ((fetch.served id bytes m).outs ++ wanted) ≡ blocked_outs wanted = filter_map-append blocked_out (fetch.served id bytes m).outs wanted ∙ ap (λ xs. xs ++ blocked_outs wanted) same.1 in
        same.0 ∙ p ∙ ap (λ xs. inserted before (blocked_by_calls made ++ xs)) (sym nothing));
    judges = λ id verdict now m made p. grown m (fetch.judged id verdict now m) made (judged_grown id verdict now m) p;
    retires = λ retire m made p. grown m (fetch.retained retire m) made (same_grown m (fetch.retained retire m) (retained_same retire m)) p;
    fetches = λ list now m made p. grown m (fetch.fetched list now m) made (same_grown m (fetch.fetched list now m) (fetched_same list now m)) p;
    expires = λ now m made p. grown m (fetch.expired now m) made (same_grown m (fetch.expired now m) (expired_same now m)) p;
    hears = λ sender bytes now m made h p. grown m (fetch.heard sender bytes now m) made (heard_grown sender bytes now m) p;
  }

-- ---- each block is for its cause

module _ (Fair : ℕ → BlockCause → Type 0) (late : (peer : ℕ) → Fair peer InvalidResponse) where
  abbrev pub FairCall : Call → Type 0
  FairCall (calls.Block who why) = Fair who why
  FairCall _ = Unit {0}

  -- bytes that are no message are a cause
  abbrev pub FairBytes : ℕ → List ℕ → Type 0
  FairBytes sender bytes = (fault : DecodeError) → whole resolver_message bytes ≡ Err fault → Fair sender Undecodable

  abbrev AreFair : List ℕ → List Call → List Out → Type 0
  AreFair blocked made wanted = Each FairCall made × Each (FairOut Fair) wanted

  fair : Walks FairBytes AreFair
  fair = record {
    block = λ blocked made who why wanted p. (Each-append FairCall made (calls.Block who why ∷ []) p.0 (p.1.0, tt), p.1.1);
    other = λ blocked made out wanted e p. (p.0, p.1.1);
    serves = λ id bytes m made wanted p.
        (p.0, Each-append (FairOut Fair) (fetch.served id bytes m).outs wanted (none_fair Fair (fetch.served id bytes m).outs (served_same id bytes m).1) p.1);
    judges = λ id verdict now m made p. (p.0, judged_fair Fair late id verdict now m);
    retires = λ retire m made p. (p.0, none_fair Fair (fetch.retained retire m).outs (retained_same retire m).1);
    fetches = λ list now m made p. (p.0, none_fair Fair (fetch.fetched list now m).outs (fetched_same list now m).1);
    expires = λ now m made p. (p.0, none_fair Fair (fetch.expired now m).outs (expired_same now m).1);
    hears = λ sender bytes now m made h p. (p.0, heard_fair Fair sender bytes now m h);
  }

  abbrev pub FairInput : ResolverInput → Type 0
  FairInput (inputs.Packet sender bytes) = FairBytes sender bytes
  FairInput _ = Unit {0}

  is_fair : (input : ResolverInput) → FairInput input → HearsInput FairBytes AreFair fair input
  is_fair (inputs.Packet sender bytes) h = h
  is_fair (inputs.Mail message) h = tt
  is_fair (inputs.Handler message) h = tt
  is_fair inputs.Timer h = tt

  fair_sends : (list : List Sending) → Each FairCall (map send_call list)
  fair_sends [] = tt
  fair_sends (s ∷ list) = (tt, fair_sends list)

  pub step_fair : (made : Made) (past : List Given) (input : ResolverInput) (now : ℕ) → FairInput input → Each FairCall (step_out made past input now).calls
  unfolding step step_out send_calls
  step_fair made past input now h =
      let standing = standing_after made past in
      let d = step made standing input now in
      Each-append FairCall d.blocks (map send_call (reverse d.sends))
      (acted_is FairBytes AreFair fair made input now (begun standing) (is_fair input h) (tt, tt)).0 (fair_sends (reverse d.sends))

-- ---- a history

no_blocks : (list : List Sending) → blocked_by_calls (map send_call list) ≡ []
no_blocks [] = refl
no_blocks (s ∷ list) = no_blocks list

heard_any : (before : List ℕ) (input : ResolverInput) → HearsInput (λ sender bytes. Unit {0}) (Puts before) (puts before) input
heard_any before (inputs.Packet sender bytes) = tt
heard_any before (inputs.Mail message) = tt
heard_any before (inputs.Handler message) = tt
heard_any before inputs.Timer = tt

-- a step puts those that it blocks among them
pub step_blocks : (made : Made) (past : List Given) (input : ResolverInput) (now : ℕ)
    → blocked_after made (Stepped input now ∷ past) ≡ inserted (blocked_after made past) (blocked_by_calls (step_out made past input now).calls)
unfolding blocked_after standing_after step step_out send_calls inserted
step_blocks made past input now =
    let standing = standing_after made past in
    let d = step made standing input now in
    let sends = map send_call (reverse d.sends) in
    acted_is (λ sender bytes. Unit {0}) (Puts standing.fetcher.blocked) (puts standing.fetcher.blocked) made input now (begun standing) (heard_any standing.fetcher.blocked input) refl
    ∙ ap (λ xs. inserted standing.fetcher.blocked (blocked_by_calls d.blocks ++ xs)) (sym (no_blocks (reverse d.sends)))
    ∙ ap (inserted standing.fetcher.blocked) (sym (filter_map-append blocked_member d.blocks sends))

-- a message that is taken blocks nobody
pub taking_blocks : (made : Made) (past : List Given) → blocked_after made (HandlerTaken ∷ past) ≡ blocked_after made past
unfolding blocked_after standing_after after_taking
taking_blocks made past = refl

-- so are those that it is told, the last first
turned_blocks : (made : Made) (members : List ℕ) (told past : List Given)
    → blocked_after made (reverse_aux (map (λ member. Blocked member) members) told ++ past) ≡ inserted (blocked_after made (told ++ past)) members
unfolding inserted blocked_after standing_after after_blocking fetch.blocking
turned_blocks made [] told past = refl
turned_blocks made (member ∷ members) told past = turned_blocks made members (Blocked member ∷ told) past

pub told_blocks : (made : Made) (members : List ℕ) (past : List Given)
    → blocked_after made (reverse (map (λ member. Blocked member) members) ++ past) ≡ inserted (blocked_after made past) members
told_blocks made members past = turned_blocks made members [] past
