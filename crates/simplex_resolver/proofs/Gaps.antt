-- Each gap is asked for, whatever came: what a step keeps of the fetcher, of the handler's mailbox and of what was taken.
use Rattle.std.proofs.Common.{◌≡◌, inl, inr, ℕ, nat_le, ◌||◌, Bool, true, false, List, [], ◌∷◌, map, Option, Some, None, Result, Ok, Err, if◌then◌else◌, refl, sym, subst, arith}
use Rattle.std.proofs.lemmas.Grind.{common_steps}
use Rattle.std.specs.List.{list_all, filter_map}
use Rattle.std.specs.List.Sorted.{IsStrictlySortedBy}
use Rattle.simplex_values.specs.declared.ask.Ask.{Ask}
use Rattle.simplex_values.specs.declared.ask.Kind.{Kind}
use Rattle.simplex_values.specs.declared.ask.Outcome.{Outcome}
use Rattle.simplex_values.specs.declared.ask.Outcome.TheVariants as outcomes
use Rattle.simplex_wire.specs.declared.error.DecodeError.{DecodeError}
use Rattle.simplex_wire.specs.declared.certificate.Certificate.{Certificate}
use Rattle.simplex_wire.specs.declared.resolver.ResolverMessage.{ResolverMessage}
use Rattle.simplex_wire.specs.declared.resolver.ResolverBody.{ResolverBody}
use Rattle.simplex_wire.specs.declared.resolver.ResolverBody.TheVariants as body
use Rattle.simplex_wire.specs.Format.{whole}
use Rattle.simplex_wire.specs.ResolverMessage.{resolver_message}
use Rattle.model_rules.specs.Repair.{RepairCall, Updated, is_gap, is_key_settled, is_settled, effects_of}
use Rattle.simplex_messages.specs.declared.resolver.ResolverInput.{ResolverInput}
use Rattle.simplex_messages.specs.declared.resolver.ResolverInput.TheVariants as inputs
use Rattle.simplex_messages.specs.declared.resolver.MailboxMessage.{MailboxMessage}
use Rattle.simplex_messages.specs.declared.resolver.MailboxMessage.TheVariants as mail
use Rattle.simplex_messages.specs.declared.resolver.HandlerMessage.{HandlerMessage}
use Rattle.simplex_messages.specs.declared.resolver.HandlerMessage.TheVariants as handler
use Rattle.simplex_messages.specs.Policies.{handler_leave}
use Rattle.model_resolver.specs.declared.entry.Entry.{Entry}
use Rattle.model_resolver.specs.declared.out.Out.{Out}
use Rattle.model_resolver.specs.declared.out.Out.TheVariants as outs
use Rattle.model_resolver.specs.declared.retire.Retire.{Retire}
use Rattle.model_resolver.specs.Asks.{asks_of, holds_ask, same_ask}
use Rattle.simplex_fetch.specs.Index.{has_ask}
use Rattle.model_resolver.specs.Views.{entry_at, asked_view}
use Rattle.model_resolver.specs.Fetcher as fetch
use Rattle.model_resolver.specs.Fetcher.{is_done}
use Rattle.simplex_fetch.proofs.Entries.{Rising}
use Rattle.model_resolver.specs.Resolver.{Made, Given, Stepped, HandlerTaken, Blocked, Standing, Doing, at_first, begun, with_fetcher, recorded, putting, leaving, serving, requested, is_backoff, minded, minded_all, called, after_fetcher, judging, hearing, expiring, retiring, retiring_all, fetching, ancestry, backfill, fetch_of, retire_of, with_effects, repairing, validated, is_excepted, passed_over, accepted, answered, delivered, produced, resolving, took_mail, took_handled, acted, step, after_taking, after_blocking, standing_after, handler_message}
use Rattle.simplex_resolver.specs.Laws.{WasTaken, HandlesTaken}
use Rattle.simplex_resolver.proofs.Moving.{called-all-stays}
use Rattle.simplex_resolver.proofs.Opening.{gap-asked}
use Rattle.simplex_resolver.proofs.Numbers.{Fits, Right, Kept, are_plain, is_plain, spares, expired-kept, beside-right, retained-kept, judged-kept, refused-right, delivered-right}
use Rattle.simplex_resolver.proofs.Mailed.{AllMail, none-mailed, weaker-mailed, enqueued-mailed, recv-mailed, received-is, leave-mailed}
use Rattle.simplex_resolver.proofs.Settling.{gap-key, verdict-spares, effects-spare}

-- what a message of the handler delivers is so
abbrev pub MessageIn : (ℕ → ℕ → List Ask → Type 0) → HandlerMessage → Type 0
MessageIn F (handler.Deliver id view bytes asks waiting) = F id view asks
MessageIn F (handler.Produce id view) = Unit {0}

message-more : (F G : ℕ → ℕ → List Ask → Type 0) → ((id view : ℕ) (asks : List Ask) → F id view asks → G id view asks)
    → (message : HandlerMessage) → MessageIn F message → MessageIn G message
message-more F G more (handler.Deliver id view bytes asks waiting) p = more id view asks p
message-more F G more (handler.Produce id view) p = tt

leave-in : (F : ℕ → ℕ → List Ask → Type 0) (left : ℕ) (message : HandlerMessage) → MessageIn F message → MessageIn F (handler_leave left message)
leave-in F left (handler.Deliver id view bytes asks waiting) p = p
leave-in F left (handler.Produce id view) p = tt

abbrev Gap : ℕ → List RepairCall → ℕ → Type 0
Gap term held view = is_gap term held view ≡ true

-- ---- within a step

pub record Open (F : ℕ → ℕ → List Ask → Type 0) (Wants : ℕ → Type 0) (held : List RepairCall) (standing : Standing) : Type 0 where
  pub held_is : standing.held ≡ held
  pub right : Right F Wants standing.fetcher.next_id standing.fetcher.views
  pub mailed : AllMail (MessageIn F) standing.handler

module _ (F : ℕ → ℕ → List Ask → Type 0) (Wants : ℕ → Type 0) (held : List RepairCall) where
  abbrev Opens : Doing → Type 0
  Opens doing = Open F Wants held doing.standing

  either-open : (test : Bool) (one other : Doing) → Opens one → Opens other → Opens (if test then one else other)
  either-open true one other p q = p
  either-open false one other p q = q

  serving-open : (id : ℕ) (bytes : Option (List ℕ)) (doing : Doing) → Opens doing → Opens (serving id bytes doing)
  unfolding serving fetch.served
  serving-open id bytes doing o =
      let begun : Opens (with_fetcher (fetch.served id bytes doing.standing.fetcher).fetcher doing) = record { held_is = o.held_is; right = o.right; mailed = o.mailed } in
      subst (Open F Wants held) (sym (called-all-stays (fetch.served id bytes doing.standing.fetcher).outs _)) begun

  putting-open : (message : HandlerMessage) (doing : Doing) → MessageIn F message → Opens doing → Opens (putting message doing)
  unfolding putting
  putting-open message doing p o = record { held_is = o.held_is; right = o.right; mailed = enqueued-mailed (MessageIn F) doing.standing.handler message p o.mailed }

  minded-open : (out : Out) (doing : Doing) → is_plain out ≡ true → Opens doing → Opens (minded out doing)
  unfolding minded requested leaving called
  minded-open (outs.Deliver id view bytes asks) doing plain o = cc
  minded-open (outs.Produce id view) doing plain o =
      let put = putting-open (handler.Produce id view) doing tt o in either-open (is_backoff _) _ _ (serving-open id None _ put) put
  minded-open (outs.Left id) doing plain o =
      record { held_is = o.held_is; right = o.right; mailed = leave-mailed (MessageIn F) (leave-in F) id doing.standing.handler o.mailed }
  minded-open (outs.Send to bytes) doing plain o = o
  minded-open (outs.Block member why) doing plain o = o

  minded-all-open : (all : List Out) (doing : Doing) → are_plain all ≡ true → Opens doing → Opens (minded_all all doing)
  unfolding minded_all
  minded-all-open [] doing plain o = o
  minded-all-open (out ∷ others) doing plain o =
      let here : is_plain out ≡ true = grind (arith, common_steps, plain) in
      let later : are_plain others ≡ true = grind (arith, common_steps, plain) in
      minded-all-open others (minded out doing) later (minded-open out doing here o)

  after-open : (after : fetch.After) (doing : Doing) → Kept F Wants after → Opens doing → Opens (after_fetcher after doing)
  after-open after doing kept o = minded-all-open after.outs _ kept.plain (record { held_is = o.held_is; right = kept.right; mailed = o.mailed })

  judging-open : (now id view : ℕ) (asks : List Ask) (verdict : Option Outcome) (doing : Doing) → F id view asks
      → (is_done verdict ≡ true → Wants view → holds_ask asks (backfill 0).ask ≡ false) → Opens doing → Opens (judging now id verdict doing)
  unfolding judging
  judging-open now id view asks verdict doing f spared o =
      after-open _ doing (judged-kept F Wants id view asks verdict now doing.standing.fetcher (o.right.fits id view asks f) spared o.right) o

  retiring-all-open : (retires : List Retire) (doing : Doing) → ((view : ℕ) → Wants view → list_all (λ retire. spares retire view) retires ≡ true)
      → Opens doing → Opens (retiring_all retires doing)
  unfolding retiring_all retiring
  retiring-all-open [] doing spared o = o
  retiring-all-open (retire ∷ others) doing spared o =
      retiring-all-open others _ (λ view wants. let all = spared view wants in grind (arith, common_steps, all))
      (after-open _ doing (retained-kept F Wants retire doing.standing.fetcher (λ view wants. let all = spared view wants in grind (arith, common_steps, all)) o.right) o)

  fetching-open : (fetchings : List fetch.Fetching) (now : ℕ) (doing : Doing) → Opens doing → Opens (fetching fetchings now doing)
  unfolding fetching
  fetching-open fetchings now doing o = after-open _ doing (beside-right F Wants fetchings now [] doing.standing.fetcher o.right) o

right-for : (F : ℕ → ℕ → List Ask → Type 0) (Wants Others : ℕ → Type 0) (next_id : ℕ) (views : List (ℕ × Entry)) → Right F Wants next_id views
    → ((view : ℕ) → Others view → has_ask (same_ask (backfill 0).ask) (entry_at views view) ≡ true) → Right F Others next_id views
right-for F Wants Others next_id views r asked = record { rising = r.rising; drawn = r.drawn; once = r.once; fits = r.fits; asked = asked }

-- ---- a step's parts, from where each gap is asked for to where each gap is

abbrev Stays : ℕ → (ℕ → ℕ → List Ask → Type 0) → Standing → Type 0
Stays term F standing = Open F (Gap term standing.held) standing.held standing

stays-from : (term : ℕ) (F : ℕ → ℕ → List Ask → Type 0) (held : List RepairCall) (standing : Standing) → Open F (Gap term held) held standing → Stays term F standing
stays-from term F held standing o = subst (λ calls. Open F (Gap term calls) calls standing) (sym o.held_is) o

module _ (made : Made) (F : ℕ → ℕ → List Ask → Type 0) where
  -- the gaps that stay gaps
  abbrev GapStays : List RepairCall → RepairCall → ℕ → Type 0
  GapStays before call view = Gap made.term before view × Gap made.term (call ∷ before) view

  recorded-open : (call : RepairCall) (doing : Doing) → Stays made.term F doing.standing
      → Open F (GapStays doing.standing.held call) (call ∷ doing.standing.held) (recorded call doing).standing
  recorded-open call doing o = record {
    held_is = refl;
    right = right-for F (Gap made.term doing.standing.held) (GapStays doing.standing.held call) _ _ o.right (λ view both. o.right.asked view both.0);
    mailed = o.mailed;
  }

  effects-open : (now : ℕ) (before : List RepairCall) (call : RepairCall) (doing : Doing) → Open F (GapStays before call) (call ∷ before) doing.standing
      → Stays made.term F (with_effects now (effects_of made.term before call) doing).standing
  unfolding with_effects
  effects-open now before call doing o =
      let follows = effects_of made.term before call in
      let kept = fetching-open F (GapStays before call) (call ∷ before) (map fetch.of_all (filter_map fetch_of follows)) now (retiring_all (filter_map retire_of follows) doing)
      (retiring-all-open F (GapStays before call) (call ∷ before) (filter_map retire_of follows) doing (λ view both. effects-spare made.term before call view both.1) o) in
      stays-from made.term F (call ∷ before) _ (record {
        held_is = kept.held_is;
        right = right-for F (GapStays before call) (Gap made.term (call ∷ before)) _ _ kept.right (λ view gap.
            elim (is_gap made.term before view) as (λ b. is_gap made.term before view ≡ b → has_ask (same_ask (backfill 0).ask) (entry_at (with_effects now follows doing).standing.fetcher.views view) ≡ true) [
              | true ↦ λ was. kept.right.asked view (was, gap)
              | false ↦ λ new. gap-asked made.term before call now doing view gap new
            ] refl);
        mailed = kept.mailed;
      })

  repairing-stays : (now : ℕ) (call : RepairCall) (doing : Doing) → Stays made.term F doing.standing → Stays made.term F (repairing made now call doing).standing
  unfolding repairing
  repairing-stays now call doing o = effects-open now doing.standing.held call (recorded call doing) (recorded-open call doing o)

  either-stays : (test : Bool) (one other : Doing) → (test ≡ true → Stays made.term F one.standing) → (test ≡ false → Stays made.term F other.standing)
      → Stays made.term F (if test then one else other).standing
  either-stays true one other p q = p refl
  either-stays false one other p q = q refl

  -- a verdict that leaves the asks for gaps
  judging-stays : (now id view : ℕ) (asks : List Ask) (verdict : Option Outcome) (doing : Doing) → F id view asks
      → (is_done verdict ≡ true → Gap made.term doing.standing.held view → holds_ask asks (backfill 0).ask ≡ false)
      → Stays made.term F doing.standing → Stays made.term F (judging now id verdict doing).standing
  judging-stays now id view asks verdict doing f spared o =
      stays-from made.term F doing.standing.held _ (judging-open F (Gap made.term doing.standing.held) doing.standing.held now id view asks verdict doing f spared o)

  accepted-stays : (now id view : ℕ) (asks : List Ask) (certificate : Certificate) (doing : Doing) → F id view asks
      → Stays made.term F doing.standing → Stays made.term F (accepted made now id view asks certificate doing).standing
  unfolding accepted
  accepted-stays now id view asks certificate doing f o =
      let before = doing.standing.held in
      let call = Updated certificate in
      effects-open now before call _
      (judging-open F (GapStays before call) (call ∷ before) now id view asks _ (recorded call doing) f
      (λ done both. verdict-spares made.term before (call ∷ before) view asks both.0 both.1 done) (recorded-open call doing o))

  answered-stays : (now id view : ℕ) (asks : List Ask) (answer : Option Certificate) (doing : Doing) → F id view asks
      → Stays made.term F doing.standing → Stays made.term F (answered made now id view asks answer doing).standing
  unfolding answered passed_over
  answered-stays now id view asks None doing f o = judging-stays now id view asks (Some outcomes.Invalid) doing f (λ done gap. cc) o
  answered-stays now id view asks (Some certificate) doing f o =
      either-stays (is_excepted doing.standing.held certificate) _ _
      (λ _. judging-stays now id view asks _ doing f (λ done gap. verdict-spares made.term doing.standing.held doing.standing.held view asks gap gap done) o)
      (λ _. accepted-stays now id view asks certificate doing f o)

  delivered-stays : (now id view : ℕ) (bytes : List ℕ) (asks : List Ask) (doing : Doing) → F id view asks
      → Stays made.term F doing.standing → Stays made.term F (delivered made now id view bytes asks doing).standing
  unfolding delivered
  delivered-stays now id view bytes asks doing f o =
      either-stays (is_key_settled made.term doing.standing.held view) _ _
      (λ settled. judging-stays now id view asks (Some outcomes.Ignored) doing f (λ done gap. let left = gap-key made.term doing.standing.held view gap in cc) o)
      (λ _. answered-stays now id view asks (validated made view bytes) doing f o)

  handled-stays : (message : HandlerMessage) (now : ℕ) (doing : Doing) → MessageIn F message
      → Stays made.term F doing.standing → Stays made.term F (took_handled made message now doing).standing
  unfolding took_handled produced
  handled-stays (handler.Deliver id view bytes asks waiting) now doing f o =
      either-stays waiting _ _ (λ _. delivered-stays now id view bytes asks doing f o) (λ _. o)
  handled-stays (handler.Produce id view) now doing f o =
      stays-from made.term F doing.standing.held _ (serving-open F (Gap made.term doing.standing.held) doing.standing.held id _ doing o)

  resolving-stays : (now proposal view : ℕ) (kind : Kind) (target : Option ℕ) (doing : Doing) → Stays made.term F doing.standing
      → Stays made.term F (resolving made now proposal view kind target doing).standing
  unfolding resolving
  resolving-stays now proposal view kind target doing o =
      let asked = fetching-open F (Gap made.term doing.standing.held) doing.standing.held (ancestry view kind target ∷ []) now doing o in
      either-stays (nat_le proposal view || is_settled made.term doing.standing.held view kind) doing (fetching (ancestry view kind target ∷ []) now doing)
      (λ _. o) (λ _. stays-from made.term F doing.standing.held _ asked)

  mail-stays : (message : MailboxMessage) (now : ℕ) (doing : Doing) → Stays made.term F doing.standing → Stays made.term F (took_mail made message now doing).standing
  unfolding took_mail
  mail-stays (mail.Updated certificate) now doing o = repairing-stays now _ doing o
  mail-stays (mail.Certified notarization success) now doing o = repairing-stays now _ doing o
  mail-stays (mail.Resolve proposal view kind target) now doing o = resolving-stays now proposal view kind target doing o
  mail-stays mail.Replayed now doing o = repairing-stays now _ doing o

  after-stays : (after : fetch.After) (doing : Doing) → Kept F (Gap made.term doing.standing.held) after → Stays made.term F doing.standing → Stays made.term F (after_fetcher after doing).standing
  after-stays after doing kept o = stays-from made.term F doing.standing.held _ (after-open F (Gap made.term doing.standing.held) doing.standing.held after doing kept o)

-- ---- a step

-- what was delivered under this number was of this view and these asks, as far as the fetcher goes
abbrev FitsNow : Standing → ℕ → ℕ → List Ask → Type 0
FitsNow standing id view asks = Fits id view asks standing.fetcher.next_id standing.fetcher.views

-- each gap is asked for, and each message in the handler's mailbox is of what was delivered
abbrev Holds : ℕ → Standing → Type 0
Holds term standing = Stays term (FitsNow standing) standing

-- they still are, and so is each message that was taken
pub record Leads (term : ℕ) (before after : Standing) : Type 0 where
  pub holds : Holds term after
  pub still : (id view : ℕ) (asks : List Ask) → FitsNow before id view asks → FitsNow after id view asks

stays-leads : (term : ℕ) (before after : Standing) → Stays term (FitsNow before) after → Leads term before after
stays-leads term before after o = record {
  holds = record {
    held_is = refl;
    right = record { rising = o.right.rising; drawn = o.right.drawn; once = o.right.once; fits = λ id view asks f. f; asked = o.right.asked };
    mailed = weaker-mailed (MessageIn (FitsNow before)) (MessageIn (FitsNow after)) (message-more (FitsNow before) (FitsNow after) o.right.fits) after.handler o.mailed;
  };
  still = o.right.fits;
}

module _ (made : Made) where
  kept-leads : (after : fetch.After) (doing : Doing) → Kept (FitsNow doing.standing) (Gap made.term doing.standing.held) after → Holds made.term doing.standing
      → Leads made.term doing.standing (after_fetcher after doing).standing
  kept-leads after doing kept h = stays-leads made.term doing.standing _ (after-stays made (FitsNow doing.standing) after doing kept h)

  -- an answer
  came-leads : (sender id : ℕ) (bytes : List ℕ) (view : ℕ) (o : Option Entry) (doing : Doing) → asked_view id sender doing.standing.fetcher.views ≡ Some view
      → entry_at doing.standing.fetcher.views view ≡ o → Holds made.term doing.standing
      → Leads made.term doing.standing (after_fetcher (fetch.delivered sender id bytes view doing.standing.fetcher o) doing).standing
  unfolding fetch.delivered minded_all minded putting
  came-leads sender id bytes view None doing found at h = kept-leads (fetch.quiet doing.standing.fetcher) doing (record { right = h.right; plain = refl }) h
  came-leads sender id bytes view (Some entry) doing found at h =
      let both = delivered-right (FitsNow doing.standing) (Gap made.term doing.standing.held) sender id view entry doing.standing.fetcher found at h.right in
      let after = (after_fetcher (fetch.delivered sender id bytes view doing.standing.fetcher (Some entry)) doing).standing in
      record {
        holds = record {
          held_is = refl;
          right = record { rising = both.0.rising; drawn = both.0.drawn; once = both.0.once; fits = λ id view asks f. f; asked = both.0.asked };
          mailed = enqueued-mailed (MessageIn (FitsNow after)) doing.standing.handler (handler.Deliver id view bytes (asks_of entry.arrivals) true) both.1
              (weaker-mailed (MessageIn (FitsNow doing.standing)) (MessageIn (FitsNow after)) (message-more (FitsNow doing.standing) (FitsNow after) both.0.fits) doing.standing.handler h.mailed);
        };
        still = both.0.fits;
      }

  came-at-leads : (sender id : ℕ) (bytes : List ℕ) (o : Option ℕ) (doing : Doing) → asked_view id sender doing.standing.fetcher.views ≡ o → Holds made.term doing.standing
      → Leads made.term doing.standing (after_fetcher (fetch.answered sender id bytes doing.standing.fetcher o) doing).standing
  unfolding fetch.answered
  came-at-leads sender id bytes None doing found h = kept-leads _ doing (record { right = h.right; plain = refl }) h
  came-at-leads sender id bytes (Some view) doing found h = came-leads sender id bytes view (entry_at doing.standing.fetcher.views view) doing found refl h

  body-leads : (sender id now : ℕ) (about : ResolverBody) (doing : Doing) → Holds made.term doing.standing
      → Leads made.term doing.standing (after_fetcher (fetch.heard_body sender id now doing.standing.fetcher about) doing).standing
  unfolding fetch.heard_body fetch.requested
  body-leads sender id now (body.Request view) doing h = kept-leads _ doing (record { right = h.right; plain = refl }) h
  body-leads sender id now (body.Response bytes) doing h = came-at-leads sender id bytes (asked_view id sender doing.standing.fetcher.views) doing refl h
  body-leads sender id now body.Error doing h =
      kept-leads _ doing (record { right = refused-right (FitsNow doing.standing) (Gap made.term doing.standing.held) now doing.standing.fetcher (asked_view id sender doing.standing.fetcher.views) h.right; plain = refl }) h

  packet-leads : (sender now : ℕ) (read : Result ResolverMessage DecodeError) (doing : Doing) → Holds made.term doing.standing
      → Leads made.term doing.standing (after_fetcher (fetch.heard_message sender now doing.standing.fetcher read) doing).standing
  unfolding fetch.heard_message fetch.blocking
  packet-leads sender now (Err fault) doing h = kept-leads _ doing (record { right = h.right; plain = refl }) h
  packet-leads sender now (Ok message) doing h = body-leads sender message.id now message.body doing h

  -- what a handled message is to be
  abbrev Fitting : ResolverInput → Standing → Type 0
  Fitting (inputs.Handler message) standing = MessageIn (FitsNow standing) message
  Fitting _ standing = Unit {0}

  step-leads : (standing : Standing) (input : ResolverInput) (now : ℕ) → Fitting input standing → Holds made.term standing → Leads made.term standing (step made standing input now).standing
  unfolding step acted hearing expiring fetch.heard
  step-leads standing (inputs.Mail message) now fits h = stays-leads made.term standing _ (mail-stays made (FitsNow standing) message now (begun standing) h)
  step-leads standing (inputs.Handler message) now fits h = stays-leads made.term standing _ (handled-stays made (FitsNow standing) message now (begun standing) fits h)
  step-leads standing (inputs.Packet sender bytes) now fits h = packet-leads sender now (whole resolver_message bytes) (begun standing) h
  step-leads standing inputs.Timer now fits h = kept-leads _ (begun standing) (expired-kept (FitsNow standing) (Gap made.term standing.held) now standing.fetcher h.right) h

  -- ---- a history

  pub record Stood (past : List Given) : Type 0 where
    pub holds : Holds made.term (standing_after made past)
    pub taken : (message : HandlerMessage) → WasTaken made message past → MessageIn (FitsNow (standing_after made past)) message

  no-gap : (view : ℕ) → is_gap made.term [] view ≡ true → ⊥
  unfolding is_gap
  no-gap view gap = grind (arith, common_steps, gap)

  none-rise : Rising []
  unfolding IsStrictlySortedBy
  none-rise = tt

  first-stands : Stood []
  unfolding standing_after at_first entry_at WasTaken
  first-stands = record {
    holds = record {
      held_is = refl;
      right = record {
        rising = none-rise;
        drawn = λ id view has. cc;
        once = λ id v w has also. cc;
        fits = λ id view asks f. f;
        asked = λ view gap. absurd (no-gap view gap);
      };
      mailed = none-mailed _ made.handler_size;
    };
    taken = λ message was. absurd was;
  }

  taking-stands : (past : List Given) → Stood past → Stood (HandlerTaken ∷ past)
  unfolding standing_after after_taking WasTaken handler_message
  taking-stands past s = record {
    holds = record { held_is = refl; right = s.holds.right; mailed = recv-mailed _ (standing_after made past).handler s.holds.mailed };
    taken = λ message was. elim was [
      | inl now ↦ received-is _ (standing_after made past).handler message s.holds.mailed now
      | inr before ↦ s.taken message before
    ];
  }

  blocking-stands : (past : List Given) (member : ℕ) → Stood past → Stood (Blocked member ∷ past)
  unfolding standing_after after_blocking fetch.blocking WasTaken
  blocking-stands past member s = record {
    holds = record { held_is = refl; right = s.holds.right; mailed = s.holds.mailed };
    taken = λ message was. s.taken message was;
  }

  step-stands : (past : List Given) (input : ResolverInput) (now : ℕ) → Fitting input (standing_after made past) → Stood past → Stood (Stepped input now ∷ past)
  unfolding standing_after WasTaken
  step-stands past input now fits s =
      let leads = step-leads (standing_after made past) input now fits s.holds in
      record {
        holds = leads.holds;
        taken = λ message was. message-more _ _ leads.still message (s.taken message was);
      }

  stood : (past : List Given) → HandlesTaken made past → Stood past
  unfolding HandlesTaken
  stood [] handled = first-stands
  stood (HandlerTaken ∷ past) handled = taking-stands past (stood past handled)
  stood (Blocked member ∷ past) handled = blocking-stands past member (stood past handled)
  stood (Stepped (inputs.Handler message) now ∷ past) handled = let s = stood past handled.1 in step-stands past (inputs.Handler message) now (s.taken message handled.0) s
  stood (Stepped (inputs.Mail message) now ∷ past) handled = step-stands past (inputs.Mail message) now tt (stood past handled)
  stood (Stepped (inputs.Packet sender bytes) now ∷ past) handled = step-stands past (inputs.Packet sender bytes) now tt (stood past handled)
  stood (Stepped inputs.Timer now ∷ past) handled = step-stands past inputs.Timer now tt (stood past handled)

  pub each-gap-asked : (past : List Given) (view : ℕ) → HandlesTaken made past → is_gap made.term (standing_after made past).held view ≡ true
      → has_ask (same_ask (backfill view).ask) (entry_at (standing_after made past).fetcher.views view) ≡ true
  each-gap-asked past view handled gap = (stood past handled).holds.right.asked view gap
