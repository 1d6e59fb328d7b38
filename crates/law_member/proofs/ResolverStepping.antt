-- What a resolver's step leaves of the asks.
use Rattle.std.proofs.Common.{◌≡◌, ◌<◌, ◌≤◌, ℕ, nat_le, ◌||◌, Bool, true, false, List, [], ◌∷◌, map, Option, Some, None, if◌then◌else◌, refl, sym, subst, arith, All}
use Rattle.std.proofs.lemmas.Grind.{common_steps}
use Rattle.std.proofs.lemmas.List.Elements.{All-nil, All-cons, All-head, All-tail}
use Rattle.std.specs.List.{list_all, filter_map}
use Rattle.std.specs.List.Sorted.{IsStrictlySortedBy}
use Rattle.simplex_values.specs.declared.ask.Ask.{Ask}
use Rattle.simplex_values.specs.declared.ask.Kind.{Kind}
use Rattle.simplex_values.specs.declared.ask.Kind.TheVariants as kinds
use Rattle.simplex_values.specs.declared.ask.Until.{Until}
use Rattle.simplex_values.specs.declared.ask.Until.TheVariants as untils
use Rattle.simplex_values.specs.declared.ask.Outcome.{Outcome}
use Rattle.simplex_values.specs.Terms.{greatest_view}
use Rattle.simplex_wire.specs.declared.certificate.Certificate.{Certificate}
use Rattle.model_rules.specs.declared.effect.Effect.{Effect}
use Rattle.model_rules.specs.declared.effect.Effect.TheVariants as effects
use Rattle.model_rules.specs.Repair.{RepairCall, Updated, is_gap, is_settled, is_key_settled, effects_of}
use Rattle.simplex_messages.specs.declared.resolver.ResolverInput.{ResolverInput}
use Rattle.simplex_messages.specs.declared.resolver.ResolverInput.TheVariants as inputs
use Rattle.simplex_messages.specs.declared.resolver.MailboxMessage.{MailboxMessage}
use Rattle.simplex_messages.specs.declared.resolver.MailboxMessage.TheVariants as mail
use Rattle.simplex_messages.specs.declared.resolver.HandlerMessage.{HandlerMessage}
use Rattle.simplex_messages.specs.declared.resolver.HandlerMessage.TheVariants as handler
use Rattle.model_resolver.specs.declared.out.Out.{Out}
use Rattle.model_resolver.specs.declared.out.Out.TheVariants as outs
use Rattle.model_resolver.specs.declared.retire.Retire.{Retire}
use Rattle.model_resolver.specs.Views.{entry_at}
use Rattle.model_resolver.specs.Fetcher as fetch
use Rattle.model_resolver.specs.Resolver.{Made, Given, Stepped, HandlerTaken, Blocked, Standing, Doing, at_first, begun, recorded, putting, leaving, serving, requested, minded, minded_all, called, called_all, after_fetcher, judging, hearing, expiring, retiring, retiring_all, fetching, ancestry, backfill, fetch_of, retire_of, with_effects, repairing, validated, is_excepted, passed_over, accepted, answered, delivered, produced, resolving, took_mail, took_handled, acted, step, after_taking, after_blocking, standing_after}
use Rattle.law_member.specs.Resolver.{IsUnsettled, IsForGap, AllAsks}
use Rattle.law_member.proofs.Settling.{gap_unsettled, FetchesGap, effects_fetch_gaps}
use Rattle.law_member.proofs.RepairEnding.{spares, Spared, unsettled-kept, gap-kept}
use Rattle.law_member.proofs.Asking.{AllAre, weaker-at, weaker-are, judged-are, heard-are, expired-are, retained-are, beside-are}

-- ---- calls of the fetcher

-- this is held, and each ask is so
pub record Stands (held : List RepairCall) (P : ℕ → Ask → Type 0) (doing : Doing) : Type 0 where
  pub held_is : doing.standing.held ≡ held
  pub are : AllAre P doing.standing.fetcher.views

module _ (held : List RepairCall) (P : ℕ → Ask → Type 0) where
  abbrev S : Doing → Type 0
  S doing = Stands held P doing

  either : (test : Bool) (one other : Doing) → S one → S other → S (if test then one else other)
  either true one other p q = p
  either false one other p q = q

  called-stands : (out : Out) (doing : Doing) → S doing → S (called out doing)
  unfolding called
  called-stands (outs.Send to bytes) doing s = record { held_is = s.held_is; are = s.are }
  called-stands (outs.Block member why) doing s = record { held_is = s.held_is; are = s.are }
  called-stands (outs.Deliver id view bytes asks) doing s = s
  called-stands (outs.Produce id view) doing s = s
  called-stands (outs.Left id) doing s = s

  called-all-stands : (all : List Out) (doing : Doing) → S doing → S (called_all all doing)
  unfolding called_all
  called-all-stands [] doing s = s
  called-all-stands (out ∷ others) doing s = called-all-stands others (called out doing) (called-stands out doing s)

  serving-stands : (id : ℕ) (bytes : Option (List ℕ)) (doing : Doing) → S doing → S (serving id bytes doing)
  unfolding serving fetch.served
  serving-stands id bytes doing s = called-all-stands _ _ (record { held_is = s.held_is; are = s.are })

  putting-stands : (message : HandlerMessage) (doing : Doing) → S doing → S (putting message doing)
  unfolding putting
  putting-stands message doing s = record { held_is = s.held_is; are = s.are }

  minded-stands : (out : Out) (doing : Doing) → S doing → S (minded out doing)
  unfolding minded requested leaving
  minded-stands (outs.Deliver id view bytes asks) doing s = putting-stands _ doing s
  minded-stands (outs.Produce id view) doing s =
      let put = putting-stands (handler.Produce id view) doing s in either _ _ _ (serving-stands id None _ put) put
  minded-stands (outs.Left id) doing s = record { held_is = s.held_is; are = s.are }
  minded-stands (outs.Send to bytes) doing s = called-stands (outs.Send to bytes) doing s
  minded-stands (outs.Block member why) doing s = called-stands (outs.Block member why) doing s

  minded-all-stands : (all : List Out) (doing : Doing) → S doing → S (minded_all all doing)
  unfolding minded_all
  minded-all-stands [] doing s = s
  minded-all-stands (out ∷ others) doing s = minded-all-stands others (minded out doing) (minded-stands out doing s)

  after-stands : (after : fetch.After) (doing : Doing) → doing.standing.held ≡ held → AllAre P after.fetcher.views → S (after_fetcher after doing)
  after-stands after doing is all = minded-all-stands after.outs _ (record { held_is = is; are = all })

  judging-stands : (now id : ℕ) (verdict : Option Outcome) (doing : Doing) → S doing → S (judging now id verdict doing)
  unfolding judging
  judging-stands now id verdict doing s = after-stands _ doing s.held_is (judged-are P id verdict now doing.standing.fetcher s.are)

  hearing-stands : (sender : ℕ) (bytes : List ℕ) (now : ℕ) (doing : Doing) → S doing → S (hearing sender bytes now doing)
  unfolding hearing
  hearing-stands sender bytes now doing s = after-stands _ doing s.held_is (heard-are P sender bytes now doing.standing.fetcher s.are)

  expiring-stands : (now : ℕ) (doing : Doing) → S doing → S (expiring now doing)
  unfolding expiring
  expiring-stands now doing s = after-stands _ doing s.held_is (expired-are P now doing.standing.fetcher s.are)

  fetching-stands : (fetchings : List fetch.Fetching) (now : ℕ) (doing : Doing) → All (λ f. P f.view f.arrival.ask) fetchings → S doing → S (fetching fetchings now doing)
  unfolding fetching
  fetching-stands fetchings now doing news s = after-stands _ doing s.held_is (beside-are P fetchings now [] doing.standing.fetcher news s.are)

weaker-stands : (held : List RepairCall) (P Q : ℕ → Ask → Type 0) (doing : Doing) → ((q : ℕ) (ask : Ask) → P q ask → Q q ask) → Stands held P doing → Stands held Q doing
weaker-stands held P Q doing more s = record { held_is = s.held_is; are = weaker-are P Q doing.standing.fetcher.views more s.are }

-- no ask that is left was ended by one of these
abbrev Unended : (ℕ → Ask → Type 0) → List Retire → ℕ → Ask → Type 0
Unended P retires q ask = P q ask × (list_all (spares q ask) retires ≡ true)

retiring-stands : (held : List RepairCall) (P : ℕ → Ask → Type 0) (retire : Retire) (doing : Doing) → Stands held P doing
    → Stands held (λ q ask. P q ask × (spares q ask retire ≡ true)) (retiring retire doing)
unfolding retiring
retiring-stands held P retire doing s =
    after-stands held (λ q ask. P q ask × (spares q ask retire ≡ true)) _ doing s.held_is (retained-are P retire doing.standing.fetcher s.are)

retiring-all-stands : (held : List RepairCall) (P : ℕ → Ask → Type 0) (retires : List Retire) (doing : Doing) → Stands held P doing → Stands held (Unended P retires) (retiring_all retires doing)
unfolding retiring_all
retiring-all-stands held P [] doing s = weaker-stands held P (Unended P []) doing (λ q ask p. (p, refl)) s
retiring-all-stands held P (retire ∷ others) doing s =
    let Q : ℕ → Ask → Type 0 = λ q ask. P q ask × (spares q ask retire ≡ true) in
    weaker-stands held (Unended Q others) (Unended P (retire ∷ others)) _
    (λ q ask left. let here = left.0.1 in let later = left.1 in (left.0.0, grind (arith, common_steps, here, later)))
    (retiring-all-stands held Q others (retiring retire doing) (retiring-stands held P retire doing s))

-- ---- what an ask is

-- up to the greatest view it is not settled, and until the floor it is for a gap
abbrev pub IsOpen : ℕ → List RepairCall → ℕ → Ask → Type 0
IsOpen term held q ask = q ≤ greatest_view → IsUnsettled term held q ask × IsForGap term held q ask

module _ (made : Made) (some : 0 < made.term) where
  -- what is open and was ended by no effect of a call stays open
  open-kept : (held : List RepairCall) (call : RepairCall) (q : ℕ) (ask : Ask) → Unended (IsOpen made.term held) (filter_map retire_of (effects_of made.term held call)) q ask
      → IsOpen made.term (call ∷ held) q ask
  open-kept held call q ask left small = kept ask.kind ask.until (left.0 small).0 (left.0 small).1 left.1
    where
      kept : (kind : Kind) (until : Until) → is_settled made.term held q kind ≡ false → (until ≡ untils.Floor → (kind ≡ kinds.Nullification) × (is_gap made.term held q ≡ true))
          → Spared q (record { kind = kind; until = until }) (effects_of made.term held call)
          → (is_settled made.term (call ∷ held) q kind ≡ false) × (until ≡ untils.Floor → (kind ≡ kinds.Nullification) × (is_gap made.term (call ∷ held) q ≡ true))
      kept kind until open_at for_gap spared = (
        unsettled-kept made.term held call q kind until some small open_at spared,
        λ floor. let is = for_gap floor in (
          is.0,
          gap-kept made.term held call q some small is.1 (subst (λ (u : Until). Spared q (record { kind = kinds.Nullification; until = u }) (effects_of made.term held call)) floor
              (subst (λ (k : Kind). Spared q (record { kind = k; until = until }) (effects_of made.term held call)) is.0 spared)),
        ),
      )

  -- what follows of a call asks for gaps
  gaps-open : (held : List RepairCall) (call : RepairCall) (follows : List Effect) → All (FetchesGap made.term held call) follows
      → All (λ (f : fetch.Fetching). IsOpen made.term (call ∷ held) f.view f.arrival.ask) (map fetch.of_all (filter_map fetch_of follows))
  gaps-open held call [] all = All-nil (λ (f : fetch.Fetching). IsOpen made.term (call ∷ held) f.view f.arrival.ask)
  gaps-open held call (effects.Fetch view ∷ others) all =
      let gap = (All-head (FetchesGap made.term held call) (effects.Fetch view) others all).0 in
      All-cons (λ (f : fetch.Fetching). IsOpen made.term (call ∷ held) f.view f.arrival.ask) (fetch.of_all (backfill view)) _
      (λ small. (gap_unsettled made.term (call ∷ held) view gap, λ floor. (refl, gap)))
      (gaps-open held call others (All-tail (FetchesGap made.term held call) (effects.Fetch view) others all))
  gaps-open held call (effects.Settled kind start end ∷ others) all = gaps-open held call others (All-tail (FetchesGap made.term held call) (effects.Settled kind start end) others all)
  gaps-open held call (effects.Finalized view ∷ others) all = gaps-open held call others (All-tail (FetchesGap made.term held call) (effects.Finalized view) others all)
  gaps-open held call (effects.Raised view ∷ others) all = gaps-open held call others (All-tail (FetchesGap made.term held call) (effects.Raised view) others all)

  -- ---- a step

  abbrev pub Opens : List RepairCall → Doing → Type 0
  Opens held doing = Stands held (IsOpen made.term held) doing

  -- each ask that stands is open
  abbrev pub AreOpen : Standing → Type 0
  AreOpen standing = AllAre (IsOpen made.term standing.held) standing.fetcher.views

  opened : (held : List RepairCall) (doing : Doing) → Opens held doing → AreOpen doing.standing
  opened held doing s = subst (λ (calls : List RepairCall). AllAre (IsOpen made.term calls) doing.standing.fetcher.views) (sym s.held_is) s.are

  effects-open : (now : ℕ) (held : List RepairCall) (call : RepairCall) (doing : Doing) → Stands (call ∷ held) (IsOpen made.term held) doing
      → Opens (call ∷ held) (with_effects now (effects_of made.term held call) doing)
  unfolding with_effects
  effects-open now held call doing s =
      let follows = effects_of made.term held call in
      fetching-stands (call ∷ held) (IsOpen made.term (call ∷ held)) _ now _ (gaps-open held call follows (effects_fetch_gaps made.term held call))
      (weaker-stands (call ∷ held) (Unended (IsOpen made.term held) (filter_map retire_of follows)) (IsOpen made.term (call ∷ held)) _ (open-kept held call)
      (retiring-all-stands (call ∷ held) (IsOpen made.term held) (filter_map retire_of follows) doing s))

  repairing-open : (now : ℕ) (call : RepairCall) (doing : Doing) → AreOpen doing.standing → AreOpen (repairing made now call doing).standing
  unfolding repairing
  repairing-open now call doing all =
      opened (call ∷ doing.standing.held) _ (effects-open now doing.standing.held call (recorded call doing) (record { held_is = refl; are = all }))

  either-open : (test : Bool) (one other : Doing) → (test ≡ true → AreOpen one.standing) → (test ≡ false → AreOpen other.standing) → AreOpen (if test then one else other).standing
  either-open true one other p q = p refl
  either-open false one other p q = q refl

  judging-open : (now id : ℕ) (verdict : Option Outcome) (doing : Doing) → AreOpen doing.standing → AreOpen (judging now id verdict doing).standing
  judging-open now id verdict doing all =
      opened doing.standing.held _ (judging-stands doing.standing.held (IsOpen made.term doing.standing.held) now id verdict doing (record { held_is = refl; are = all }))

  accepted-open : (now id view : ℕ) (asks : List Ask) (certificate : Certificate) (doing : Doing) → AreOpen doing.standing → AreOpen (accepted made now id view asks certificate doing).standing
  unfolding accepted
  accepted-open now id view asks certificate doing all =
      let held = doing.standing.held in
      let call = Updated certificate in
      opened (call ∷ held) _
      (effects-open now held call _ (judging-stands (call ∷ held) (IsOpen made.term held) now id _ (recorded call doing) (record { held_is = refl; are = all })))

  answered-open : (now id view : ℕ) (asks : List Ask) (answer : Option Certificate) (doing : Doing) → AreOpen doing.standing → AreOpen (answered made now id view asks answer doing).standing
  unfolding answered passed_over
  answered-open now id view asks None doing all = judging-open now id _ doing all
  answered-open now id view asks (Some certificate) doing all =
      either-open (is_excepted doing.standing.held certificate) _ _ (λ _. judging-open now id _ doing all) (λ _. accepted-open now id view asks certificate doing all)

  delivered-open : (now id view : ℕ) (bytes : List ℕ) (asks : List Ask) (doing : Doing) → AreOpen doing.standing → AreOpen (delivered made now id view bytes asks doing).standing
  unfolding delivered
  delivered-open now id view bytes asks doing all =
      either-open (is_key_settled made.term doing.standing.held view) _ _ (λ _. judging-open now id _ doing all)
      (λ _. answered-open now id view asks (validated made view bytes) doing all)

  resolving-open : (now proposal view : ℕ) (kind : Kind) (target : Option ℕ) (doing : Doing) → AreOpen doing.standing → AreOpen (resolving made now proposal view kind target doing).standing
  unfolding resolving
  resolving-open now proposal view kind target doing all =
      let held = doing.standing.held in
      either-open (nat_le proposal view || is_settled made.term held view kind) doing _ (λ _. all)
      (λ open_at.
      let unsettled : is_settled made.term held view kind ≡ false = grind (arith, common_steps, open_at) in
      opened held _ (fetching-stands held (IsOpen made.term held) (ancestry view kind target ∷ []) now doing
      (All-cons (λ (f : fetch.Fetching). IsOpen made.term held f.view f.arrival.ask) (ancestry view kind target) [] (λ small. (unsettled, λ floor. cc)) (All-nil (λ (f : fetch.Fetching). IsOpen made.term held f.view f.arrival.ask)))
      (record { held_is = refl; are = all })))

  mail-open : (message : MailboxMessage) (now : ℕ) (doing : Doing) → AreOpen doing.standing → AreOpen (took_mail made message now doing).standing
  unfolding took_mail
  mail-open (mail.Updated certificate) now doing all = repairing-open now _ doing all
  mail-open (mail.Certified notarization success) now doing all = repairing-open now _ doing all
  mail-open (mail.Resolve proposal view kind target) now doing all = resolving-open now proposal view kind target doing all
  mail-open mail.Replayed now doing all = repairing-open now _ doing all

  handled-open : (message : HandlerMessage) (now : ℕ) (doing : Doing) → AreOpen doing.standing → AreOpen (took_handled made message now doing).standing
  unfolding took_handled produced
  handled-open (handler.Deliver id view bytes asks waiting) now doing all = either-open waiting _ _ (λ _. delivered-open now id view bytes asks doing all) (λ _. all)
  handled-open (handler.Produce id view) now doing all =
      opened doing.standing.held _ (serving-stands doing.standing.held (IsOpen made.term doing.standing.held) id _ doing (record { held_is = refl; are = all }))

  acted-open : (input : ResolverInput) (now : ℕ) (doing : Doing) → AreOpen doing.standing → AreOpen (acted made input now doing).standing
  unfolding acted
  acted-open (inputs.Mail message) now doing all = mail-open message now doing all
  acted-open (inputs.Handler message) now doing all = handled-open message now doing all
  acted-open (inputs.Packet sender bytes) now doing all =
      opened doing.standing.held _ (hearing-stands doing.standing.held (IsOpen made.term doing.standing.held) sender bytes now doing (record { held_is = refl; are = all }))
  acted-open inputs.Timer now doing all =
      opened doing.standing.held _ (expiring-stands doing.standing.held (IsOpen made.term doing.standing.held) now doing (record { held_is = refl; are = all }))

  -- ---- a history

  pub history-open : (past : List Given) → AreOpen (standing_after made past)
  unfolding standing_after at_first after_taking after_blocking fetch.blocking step entry_at IsStrictlySortedBy
  history-open [] = record { rising = tt; asks = λ view. tt }
  history-open (HandlerTaken ∷ past) = let all = history-open past in record { rising = all.rising; asks = all.asks }
  history-open (Blocked member ∷ past) = let all = history-open past in record { rising = all.rising; asks = all.asks }
  history-open (Stepped input now ∷ past) = acted-open input now (begun (standing_after made past)) (history-open past)

  pub asks-unsettled : (past : List Given) (view : ℕ) → view ≤ greatest_view → AllAsks made (standing_after made past) view IsUnsettled
  asks-unsettled past view small =
      let standing = standing_after made past in
      weaker-at (IsOpen made.term standing.held) (IsUnsettled made.term standing.held) view (λ ask open_at. (open_at small).0) (entry_at standing.fetcher.views view) ((history-open past).asks view)

  pub asks-for-gaps : (past : List Given) (view : ℕ) → view ≤ greatest_view → AllAsks made (standing_after made past) view IsForGap
  asks-for-gaps past view small =
      let standing = standing_after made past in
      weaker-at (IsOpen made.term standing.held) (IsForGap made.term standing.held) view (λ ask open_at. (open_at small).1) (entry_at standing.fetcher.views view) ((history-open past).asks view)
