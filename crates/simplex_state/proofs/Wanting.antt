-- What the application is asked to verify, by the records of views, and walking from record to record.
use Rattle.std.proofs.Common.{◌≡◌, ℕ, zero, suc, ◌+◌, ◌-◌, ◌<◌, ◌≤◌, ◌==◌, ◌&&◌, ◌⊎◌, inl, inr, not, Bool, true, false, List, ◌∷◌, Option, Some, None, find, refl, sym, arith, if◌then◌else◌}
use Rattle.std.proofs.lemmas.Grind.{common_steps}
use Rattle.std.specs.Prelude.{unwrap_or}
use Rattle.std.specs.List.{range_with_len}
use Rattle.std.specs.Option.{option_map, option_or, option_and_then, is_none, is_some}
use Rattle.std.specs.BTreeMap.{BTreeMap}
use Rattle.simplex_values.specs.declared.proposal.Proposal.{Proposal}
use Rattle.model_rules.specs.declared.request.Verify.TheVariants.{Wait}
use Rattle.model_rules.specs.Known.{Made, Fact, VerifyAsked, view_of, has_nullified}
use Rattle.model_rules.specs.Slot.{slot_of, is_own_slot}
use Rattle.model_rules.specs.Requests.{wants_verify, is_founded, verify_of, verify_asked, ready_verify, missing_verify, resolve_of, missing_below, verify_request, admitted_views}
use Rattle.simplex_values.specs.Terms.{admission_limit}
use Rattle.model_rules.specs.Views.{last_finalized, current_of}
use Rattle.model_rules.specs.Ancestry.{has_ancestry}
use Rattle.model_rules.proofs.Soundness.{slot_view}
use Rattle.simplex_wire.specs.declared.scheme.Scheme as scheme
use Rattle.simplex_types.specs.declared.elector.Elector as elector
use Rattle.simplex_state.specs.declared.rounds.RoundRecord.{RoundRecord}
use Rattle.simplex_state.specs.declared.state.State.{State}
use Rattle.simplex_state.specs.Rounds.{round_in, round_of, learn_round, slot_in, blank}
use Rattle.simplex_state.specs.Verifying.{wants_in}
use Rattle.simplex_state.specs.Progress.{progress_of, learn_progress}
use Rattle.simplex_state.specs.Stands.{Keeps, IsSound}
use Rattle.simplex_state.proofs.Quiet.{keeps_quiet}
use Rattle.simplex_state.proofs.Sound.{sound_verify_asked, timely_step}
use Rattle.simplex_state.proofs.Checking.{own_slot_is}
use Rattle.simplex_state.proofs.Proposing.{slot_is}
use Rattle.simplex_state.proofs.Walking.{skip_failed, find_some, find_here}

-- ---- one view

wants_at : (known : List Fact) (view : ℕ) (slot : Option Proposal) → slot_of known view ≡ slot → IsSound known
    → wants_verify known view ≡ (wants_in (round_of known view) && not (has_nullified known view))
unfolding wants_verify wants_in round_of is_own_slot
wants_at known view None e s = grind (arith, common_steps, e, slot_is known view)
wants_at known view (Some p) e s = grind (arith, common_steps, e, slot_is known view, own_slot_is known view s)

-- whether the slot waits, by the record of its view
pub wants_by : (known : List Fact) (view : ℕ) → IsSound known → wants_verify known view ≡ (wants_in (round_of known view) && not (has_nullified known view))
wants_by known view s = wants_at known view _ refl s

empty_slot : (r : RoundRecord) → r ≡ blank → slot_in r ≡ None
unfolding slot_in
empty_slot r e = rw e refl

-- nothing waits where nothing is known
pub blank_waits : (known : List Fact) (view : ℕ) → round_of known view ≡ blank → wants_verify known view ≡ false
unfolding wants_verify
blank_waits known view e = grind (arith, common_steps, slot_is known view, empty_slot (round_of known view) e)

-- ---- walking

apart : (a q : ℕ) → a ≤ q → (q ≡ a) ⊎ (a + 1 ≤ q)
apart a q l = grind (arith, l)

none_is_some : (x : ℕ) → ◌≡◌ {A = Option ℕ} None (Some x) → ⊥
none_is_some x e = cc

-- before the first that passes, none does
pub find_before : (test : ℕ → Bool) (a n g : ℕ) → find test (range_with_len a n) ≡ Some g → (q : ℕ) → a ≤ q → q < g → test q ≡ false
find_before test a zero g e q l h = absurd (none_is_some g e)
find_before test a (suc n) g e q l h =
    elim (apart a q l) [
      | inl s ↦ grind (arith, common_steps, e, s, h)
      | inr s ↦ grind (arith, common_steps, e, h, l, s, find_before test (a + 1) n g)
    ]

-- where none is found, none passes
pub find_fails : (test : ℕ → Bool) (a n : ℕ) → find test (range_with_len a n) ≡ None → (q : ℕ) → a ≤ q → q < a + n → test q ≡ false
find_fails test a zero e q l h = absurd (omega (arith, l, h))
find_fails test a (suc n) e q l h =
    elim (apart a q l) [
      | inl s ↦ grind (arith, common_steps, e, s)
      | inr s ↦ grind (arith, common_steps, e, h, l, s, find_fails test (a + 1) n)
    ]

-- a walk that comes to the first that passes
pub walk_here : (test : ℕ → Bool) (a g n : ℕ) → a ≤ g → g < n → ((q : ℕ) → a ≤ q → q < g → test q ≡ false) → test g ≡ true
    → find test (range_with_len a (n - a)) ≡ Some g
walk_here test a g n l h none here =
    (let w = skip_failed test a (g - a) n (λ q k m o. none q k (omega (arith, m, l))) in
    let v = find_here test g n here h in
    grind (arith, w, v, l))

-- a walk past one that fails
pub walk_on : (test : ℕ → Bool) (a g next n : ℕ) → a ≤ g → next ≡ g + 1 → ((q : ℕ) → a ≤ q → q < g → test q ≡ false) → test g ≡ false
    → find test (range_with_len next (n - next)) ≡ find test (range_with_len a (n - a))
walk_on test a g next n l e none here =
    (let w = skip_failed test a (next - a) n (λ q k m o. elim (apart q g (omega (arith, m, e, l))) [
      | inl s ↦ grind (arith, s, here)
      | inr s ↦ none q k (omega (arith, s))
    ]) in
    grind (arith, w, e, l))

fails_all : (test : ℕ → Bool) (a n : ℕ) → ((q : ℕ) → a ≤ q → q < a + n → test q ≡ false) → find test (range_with_len a n) ≡ None
fails_all test a zero none = refl
fails_all test a (suc n) none = grind (arith, common_steps, none a (omega arith) (omega arith), fails_all test (a + 1) n (λ q l h. none q (omega (arith, l)) (omega (arith, h))))

-- a walk past all
pub walk_out : (test : ℕ → Bool) (a n : ℕ) → ((q : ℕ) → a ≤ q → q < n → test q ≡ false) → find test (range_with_len a (n - a)) ≡ None
walk_out test a n none = fails_all test a (n - a) (λ q l h. none q l (omega (arith, h, l)))

-- ---- the request

-- a slot that waits was not given to verify yet
pub unasked_slot : (known : List Fact) (view : ℕ) (p : Proposal) → slot_of known view ≡ Some p → wants_verify known view ≡ true
    → is_none (verify_asked known (view_of p)) ≡ true
unfolding wants_verify
unasked_slot known view p e w = (let v = slot_view known view p e in grind (arith, common_steps, w, v))

-- where the slot is founded there is one, and its parent is not before the last final view
founded_at : (made : Made) (known : List Fact) (view : ℕ) (slot : Option Proposal) → slot_of known view ≡ slot → is_founded made known view ≡ true
    → is_some slot ≡ true
unfolding is_founded
founded_at made known view None e f = grind (arith, common_steps, e, f)
founded_at made known view (Some p) e f = refl

pub founded_some : (made : Made) (known : List Fact) (view : ℕ) → is_founded made known view ≡ true → is_some (slot_of known view) ≡ true
founded_some made known view f = founded_at made known view _ refl f

pub founded_above : (made : Made) (known : List Fact) (view : ℕ) (p : Proposal) → slot_of known view ≡ Some p → is_founded made known view ≡ true → last_finalized known ≤ p.parent
unfolding is_founded has_ancestry
founded_above made known view p e f = grind (arith, common_steps, e, f)

both_none : (made : Made) (known : List Fact) (a n : ℕ) → find (wants_verify known) (range_with_len a n) ≡ None
    → find (λ view. wants_verify known view && is_founded made known view) (range_with_len a n) ≡ None
both_none made known a n e =
    fails_all (λ view. wants_verify known view && is_founded made known view) a n (λ q l h. grind (arith, common_steps, find_fails (wants_verify known) a n e q l h))

-- the first that is ready is not before the first that waits
pub both_from : (made : Made) (known : List Fact) (a n f : ℕ) → find (wants_verify known) (range_with_len a (n - a)) ≡ Some f
    → find (λ view. wants_verify known view && is_founded made known view) (range_with_len f (n - f))
    ≡ find (λ view. wants_verify known view && is_founded made known view) (range_with_len a (n - a))
both_from made known a n f e =
    (let s = find_some (wants_verify known) a (n - a) f e in
    let w = skip_failed (λ view. wants_verify known view && is_founded made known view) a (f - a) n
    (λ q l h k. grind (arith, common_steps, find_before (wants_verify known) a (n - a) f e q l (omega (arith, h, s.0)))) in
    grind (arith, w, s.0))

pub request_wait : (made : Made) (known : List Fact) → find (wants_verify known) (admitted_views made known) ≡ None → verify_request made known ≡ Wait
unfolding verify_request ready_verify missing_verify admitted_views
request_wait made known e = grind (arith, common_steps, e, both_none made known (current_of made known) _ e)

ready_at : (made : Made) (known : List Fact) (view : ℕ) (slot : Option Proposal) → slot_of known view ≡ slot → is_some slot ≡ true
    → find (λ v. wants_verify known v && is_founded made known v) (admitted_views made known) ≡ Some view
    → unwrap_or (option_map (verify_of made known view) slot) Wait ≡ verify_request made known
unfolding verify_request ready_verify
ready_at made known view None s some e = grind (arith, common_steps, some)
ready_at made known view (Some p) s some e = grind (arith, common_steps, s, e)

pub request_ready : (made : Made) (known : List Fact) (view : ℕ) → find (λ v. wants_verify known v && is_founded made known v) (admitted_views made known) ≡ Some view
    → is_founded made known view ≡ true
    → unwrap_or (option_map (verify_of made known view) (slot_of known view)) Wait ≡ verify_request made known
request_ready made known view e f = ready_at made known view _ refl (founded_some made known view f) e

pub request_missing : (made : Made) (known : List Fact) (view : ℕ) → find (λ v. wants_verify known v && is_founded made known v) (admitted_views made known) ≡ None
    → find (wants_verify known) (admitted_views made known) ≡ Some view
    → unwrap_or (option_and_then (resolve_of made known view) (option_and_then (missing_below made known view) (slot_of known view))) Wait ≡ verify_request made known
unfolding verify_request ready_verify missing_verify
request_missing made known view none e = grind (arith, common_steps, none, e)

module _ {S L : Type 0} {g : scheme.Ghosts S} {h : elector.Ghosts L} where
  -- the application was asked to verify a proposal of a view for the first time
  pub keeps_verify_asked : (state : State S L g h) (made : Made) (known : List Fact) (p : Proposal) (rounds : BTreeMap ℕ RoundRecord)
      → Keeps state made known
      → verify_asked known (view_of p) ≡ None
      → ((q : ℕ) → round_in rounds q ≡ (if view_of p == q then record (round_in state.rounds (view_of p)) { asked = option_or (round_in state.rounds (view_of p)).asked (Some p) } else round_in state.rounds q))
      → Keeps (record state { rounds = rounds }) made (VerifyAsked p ∷ known)
  unfolding learn_round learn_progress round_of
  keeps_verify_asked state made known p rounds k none e =
      keeps_quiet state made (VerifyAsked p) known rounds state.progress k refl
      (sound_verify_asked known p none k.sound)
      (timely_step made (VerifyAsked p) known (omega arith) k.timely)
      refl
      (λ q. grind (arith, common_steps, e q))

  -- ---- walking from record to record

  bare : (state : State S L g h) (made : Made) (known : List Fact) (q : ℕ) → Keeps state made known → (progress_of made known).pruned ≤ q
      → round_in state.rounds q ≡ blank → wants_verify known q ≡ false
  bare state made known q k low e = blank_waits known q (grind (arith, k.rounds q low, e))

  pub wanting_here : (state : State S L g h) (made : Made) (known : List Fact) (from view n : ℕ) → Keeps state made known → (progress_of made known).pruned ≤ from
      → from ≤ view → view < n → ((q : ℕ) → from ≤ q → q < view → round_in state.rounds q ≡ blank) → wants_verify known view ≡ true
      → Some view ≡ find (wants_verify known) (range_with_len from (n - from))
  wanting_here state made known from view n k low l h blanks wants =
      sym (walk_here (wants_verify known) from view n l h (λ q a b. bare state made known q k (omega (arith, a, low)) (blanks q a b)) wants)

  pub wanting_on : (state : State S L g h) (made : Made) (known : List Fact) (from view next n : ℕ) → Keeps state made known → (progress_of made known).pruned ≤ from
      → from ≤ view → next ≡ view + 1 → ((q : ℕ) → from ≤ q → q < view → round_in state.rounds q ≡ blank) → wants_verify known view ≡ false
      → find (wants_verify known) (range_with_len next (n - next)) ≡ find (wants_verify known) (range_with_len from (n - from))
  wanting_on state made known from view next n k low l e blanks wants =
      walk_on (wants_verify known) from view next n l e (λ q a b. bare state made known q k (omega (arith, a, low)) (blanks q a b)) wants

  pub wanting_end : (state : State S L g h) (made : Made) (known : List Fact) (from view n : ℕ) → Keeps state made known → (progress_of made known).pruned ≤ from
      → from ≤ view → n ≡ view + 1 → ((q : ℕ) → from ≤ q → q < view → round_in state.rounds q ≡ blank) → wants_verify known view ≡ false
      → None ≡ find (wants_verify known) (range_with_len from (n - from))
  wanting_end state made known from view n k low l e blanks wants =
      sym (walk_out (wants_verify known) from n (λ q a b. elim (apart q view (omega (arith, b, e))) [
        | inl s ↦ grind (arith, s, wants)
        | inr s ↦ bare state made known q k (omega (arith, a, low)) (blanks q a (omega (arith, s)))
      ]))

  pub wanting_out : (state : State S L g h) (made : Made) (known : List Fact) (from n : ℕ) → Keeps state made known → (progress_of made known).pruned ≤ from
      → ((q : ℕ) → from ≤ q → q < n → round_in state.rounds q ≡ blank) → None ≡ find (wants_verify known) (range_with_len from (n - from))
  wanting_out state made known from n k low blanks =
      sym (walk_out (wants_verify known) from n (λ q a b. bare state made known q k (omega (arith, a, low)) (blanks q a b)))

-- ---- from one that waits to the next

module _ (made : Made) (known : List Fact) where
  unready : (a n f : ℕ) → Some f ≡ find (wants_verify known) (range_with_len a (n - a)) → (q : ℕ) → a ≤ q → q < f → (wants_verify known q && is_founded made known q) ≡ false
  unready a n f e q l h = grind (arith, common_steps, find_before (wants_verify known) a (n - a) f (sym e) q l h)

  pub ready_here : (a n f : ℕ) → Some f ≡ find (wants_verify known) (range_with_len a (n - a)) → is_founded made known f ≡ true
      → Some f ≡ find (λ view. wants_verify known view && is_founded made known view) (range_with_len a (n - a))
  ready_here a n f e founded =
      (let s = find_some (wants_verify known) a (n - a) f (sym e) in
      sym (walk_here (λ view. wants_verify known view && is_founded made known view) a f n s.0 (omega (arith, s.0, s.1)) (unready a n f e) (grind (arith, common_steps, s.2, founded))))

  pub ready_on : (a n f next : ℕ) → Some f ≡ find (wants_verify known) (range_with_len a (n - a)) → is_founded made known f ≡ false → next ≡ f + 1
      → find (λ view. wants_verify known view && is_founded made known view) (range_with_len next (n - next))
      ≡ find (λ view. wants_verify known view && is_founded made known view) (range_with_len a (n - a))
  ready_on a n f next e founded is =
      (let s = find_some (wants_verify known) a (n - a) f (sym e) in
      walk_on (λ view. wants_verify known view && is_founded made known view) a f next n s.0 is (unready a n f e) (grind (arith, common_steps, founded)))

  pub ready_end : (a n f : ℕ) → Some f ≡ find (wants_verify known) (range_with_len a (n - a)) → is_founded made known f ≡ false → n ≡ f + 1
      → None ≡ find (λ view. wants_verify known view && is_founded made known view) (range_with_len a (n - a))
  ready_end a n f e founded is =
      sym (walk_out (λ view. wants_verify known view && is_founded made known view) a n (λ q l h. elim (apart q f (omega (arith, h, is))) [
        | inl s ↦ grind (arith, common_steps, s, founded)
        | inr s ↦ unready a n f e q l (omega (arith, s))
      ]))

  pub ready_out : (a n : ℕ) → None ≡ find (wants_verify known) (range_with_len a (n - a))
      → None ≡ find (λ view. wants_verify known view && is_founded made known view) (range_with_len a (n - a))
  ready_out a n e = sym (both_none made known a (n - a) (sym e))

  pub ready_facts : (a n f : ℕ) → Some f ≡ find (λ view. wants_verify known view && is_founded made known view) (range_with_len a (n - a))
      → (a ≤ f) × (is_founded made known f ≡ true) × (wants_verify known f ≡ true)
  ready_facts a n f e =
      (let s = find_some (λ view. wants_verify known view && is_founded made known view) a (n - a) f (sym e) in
      (s.0, grind (arith, common_steps, s.2), grind (arith, common_steps, s.2)))

module _ {S L : Type 0} {g : scheme.Ghosts S} {h : elector.Ghosts L} where
  pub current_kept : (state : State S L g h) (made : Made) (known : List Fact) → Keeps state made known → (progress_of made known).pruned ≤ state.progress.current
  current_kept state made known k = grind (arith, k.ahead, k.progress)

  -- the admitted views, by what the state keeps
  pub admitted_find : (state : State S L g h) (made : Made) (known : List Fact) (limit : ℕ) (test : ℕ → Bool) → Keeps state made known
      → limit ≡ admission_limit state.settings.terms.length state.settings.terms.lookahead state.progress.current
      → find test (range_with_len state.progress.current (limit + 1 - state.progress.current)) ≡ find test (admitted_views made known)
  unfolding progress_of admitted_views
  admitted_find state made known limit test k e = grind (arith, k.progress, k.settings.term_length, k.settings.lookahead, e)
