-- Ahead of the current view only a view whose parent has the member's vote can follow.
use Rattle.std.proofs.Common.{◌≡◌, ℕ, ◌+◌, ◌-◌, ◌<◌, ◌≤◌, ◌⊎◌, inl, inr, Bool, true, false, max, find, List, [], ◌∷◌, Option, Some, None, refl, sym, ◌∙◌, arith}
use Rattle.std.proofs.lemmas.Grind.{common_steps}
use Rattle.std.specs.List.{list_any}
use Rattle.std.specs.Option.{option_or}
use Rattle.simplex_values.specs.Covers.{covers}
use Rattle.simplex_values.specs.Terms.{greatest_view, next_of, term_index, term_end, next_term_start, admission_limit}
use Rattle.simplex_wire.specs.declared.certificate.Certificate.TheVariants as certificates
use Rattle.model_rules.specs.Lists.{first_of, greatest_of}
use Rattle.model_rules.specs.Known.{Made, Fact, Added, Judged, verdict_in, verdict_of}
use Rattle.model_rules.specs.Views.{last_finalized, current_of, finalized_view, opened_view}
use Rattle.model_rules.specs.Ancestry.{is_covered, is_covered_in, has_true_verdict, is_certified, is_met}
use Rattle.model_rules.specs.Requests.{may_propose, admitted_views}
use Rattle.simplex_wire.specs.declared.scheme.Scheme as scheme
use Rattle.simplex_types.specs.declared.elector.Elector as elector
use Rattle.simplex_state.specs.Rounds.{round_in, round_of, blank}
use Rattle.simplex_state.specs.Progress.{progress_of}
use Rattle.simplex_state.specs.Stands.{Keeps}
use Rattle.simplex_state.specs.declared.rounds.RoundRecord.{RoundRecord}
use Rattle.simplex_state.specs.declared.state.State.{State}
use Rattle.simplex_state.proofs.Walking.{term_ends_later, parent_unmet, find_here}
use Rattle.simplex_state.proofs.Wanting.{walk_here, walk_out, admitted_find, current_kept}

-- ---- what is known opens no view past the current one

verdict_one : (length view : ℕ) (fact : Fact) → verdict_in view fact ≡ Some true → next_of view ≤ opened_view length fact
verdict_one length view (Judged v true now) e = grind (arith, common_steps, e)
verdict_one length view (Judged v false now) e = grind (arith, common_steps, e)
verdict_one length view _ e = cc

either : (o p : Option Bool) → option_or o p ≡ Some true → (o ≡ Some true) ⊎ (p ≡ Some true)
either None p e = inr e
either (Some x) p e = inl e

verdict_opens : (length view : ℕ) (known : List Fact) → first_of (verdict_in view) known ≡ Some true → next_of view ≤ greatest_of (opened_view length) known
unfolding first_of greatest_of
verdict_opens length view [] e = cc
verdict_opens length view (fact ∷ known) e =
    elim (either (first_of (verdict_in view) known) (verdict_in view fact) e) [
      | inl h ↦ (let rest = verdict_opens length view known h in omega (arith, rest))
      | inr h ↦ (let here = verdict_one length view fact h in omega (arith, here))
    ]

cover_one : (length view : ℕ) (fact : Fact) → is_covered_in length view fact ≡ true → next_term_start length view ≤ opened_view length fact
unfolding covers next_term_start term_end
cover_one length view (Added (certificates.Nullification n) now) e = grind (arith, common_steps, e)
cover_one length view (Added (certificates.Notarization n) now) e = cc
cover_one length view (Added (certificates.Finalization n) now) e = cc
cover_one length view _ e = cc

covered_by : (length view : ℕ) (fact : Fact) (known : List Fact) → list_any (is_covered_in length view) (fact ∷ known) ≡ true
    → (is_covered_in length view fact ≡ true) ⊎ (list_any (is_covered_in length view) known ≡ true)
covered_by length view fact known e = one (is_covered_in length view fact) refl
  where
    one : (b : Bool) → is_covered_in length view fact ≡ b → (is_covered_in length view fact ≡ true) ⊎ (list_any (is_covered_in length view) known ≡ true)
    one true h = inl h
    one false h = inr (grind (arith, common_steps, e, h))

cover_opens : (length view : ℕ) (known : List Fact) → list_any (is_covered_in length view) known ≡ true → next_term_start length view ≤ greatest_of (opened_view length) known
unfolding greatest_of
cover_opens length view [] e = cc
cover_opens length view (fact ∷ known) e =
    elim (covered_by length view fact known e) [
      | inl h ↦ (let here = cover_one length view fact h in omega (arith, here))
      | inr h ↦ (let rest = cover_opens length view known h in omega (arith, rest))
    ]

-- a view that is opened is one
opened_low : (length : ℕ) (fact : Fact) → opened_view length fact ≤ greatest_view
unfolding next_term_start next_of
opened_low length (Added (certificates.Notarization n) now) = omega arith
opened_low length (Added (certificates.Nullification n) now) = omega arith
opened_low length (Added (certificates.Finalization f) now) = omega arith
opened_low length (Judged view true now) = omega arith
opened_low length (Judged view false now) = omega arith
opened_low length _ = omega arith

all_low : (length : ℕ) (known : List Fact) → greatest_of (opened_view length) known ≤ greatest_view
unfolding greatest_of
all_low length [] = omega arith
all_low length (fact ∷ known) = omega (arith, opened_low length fact, all_low length known)

final_one : (length : ℕ) (fact : Fact) → opened_view length fact < greatest_view → finalized_view fact < max 1 (opened_view length fact)
unfolding next_of
final_one length (Added (certificates.Notarization n) now) h = omega arith
final_one length (Added (certificates.Nullification n) now) h = omega arith
final_one length (Added (certificates.Finalization f) now) h = omega (arith, h)
final_one length (Judged view true now) h = omega arith
final_one length (Judged view false now) h = omega arith
final_one length _ h = omega arith

final_opens : (length : ℕ) (known : List Fact) → greatest_of (opened_view length) known < greatest_view
    → greatest_of finalized_view known < max 1 (greatest_of (opened_view length) known)
unfolding greatest_of
final_opens length [] h = omega arith
final_opens length (fact ∷ known) h = omega (arith, h, final_one length fact (omega (arith, h)), final_opens length known (omega (arith, h)))

module _ (made : Made) (known : List Fact) where
  current_low : current_of made known ≤ greatest_view
  unfolding current_of
  current_low = let w = all_low made.term_length known in omega (arith, w)

  final_apart : (q : ℕ) → current_of made known ≤ q → q < greatest_view → last_finalized known < q
  unfolding current_of last_finalized
  final_apart q ahead low = let w = final_opens made.term_length known (omega (arith, ahead, low)) in omega (arith, w, ahead)

  unjudged : (q : ℕ) → current_of made known ≤ q → q < greatest_view → (b : Bool) → has_true_verdict known q ≡ b → b ≡ false
  unfolding current_of has_true_verdict verdict_of next_of
  unjudged q ahead low false e = refl
  unjudged q ahead low true e =
      let w = verdict_opens made.term_length q known (grind (arith, common_steps, e)) in absurd (omega (arith, w, ahead, low))

  uncertified : (q : ℕ) → current_of made known ≤ q → q < greatest_view → is_certified known q ≡ false
  unfolding is_certified
  uncertified q ahead low = grind (arith, common_steps, final_apart q ahead low, unjudged q ahead low _ refl)

  uncovered : (q : ℕ) → 0 < made.term_length → current_of made known ≤ q → q < greatest_view → (b : Bool) → is_covered made known q ≡ b → b ≡ false
  unfolding current_of is_covered
  uncovered q some ahead low false e = refl
  uncovered q some ahead low true e =
      let w = cover_opens made.term_length q known e in
      let later = term_ends_later made.term_length q some low in
      absurd (omega (arith, w, later, ahead))

  -- a view that the current one or a later one comes before has a parent only by the member's vote there
  pub unmet_view : (q view : ℕ) → view ≡ q + 1 → 0 < made.term_length → current_of made known ≤ q → view ≤ greatest_view → is_met known q view ≡ false
      → may_propose made known view ≡ false
  unfolding may_propose
  unmet_view q view e some ahead low unmet =
      let none = parent_unmet made known q view e (uncertified q ahead (omega (arith, e, low))) (uncovered q some ahead (omega (arith, e, low)) _ refl) unmet in
      grind (arith, common_steps, none)

  bare_vote : (q view : ℕ) → (r : RoundRecord) → r ≡ round_of known q → r ≡ blank → is_met known q view ≡ false
  unfolding is_met round_of
  bare_vote q view r e b = grind (arith, common_steps, e, b)

  pub blank_view : (q view : ℕ) → round_of known q ≡ blank → is_met known q view ≡ false
  blank_view q view b = bare_vote q view _ refl b

-- ---- the walk

-- a window has its first view
window_some : (length lookahead current : ℕ) → 0 < length → current ≤ greatest_view → current ≤ admission_limit length lookahead current
unfolding admission_limit term_end term_index
window_some length lookahead current some low = grind arith

pub at_same : (test : ℕ → Bool) (a q : ℕ) → a ≤ q → q ≤ a → test a ≡ false → test q ≡ false
at_same test a q l h e = let s : q ≡ a = omega (arith, l, h) in rw s e

pub behind : (q view : ℕ) → (q ≤ view) ⊎ (view < q)
behind q view = grind arith

module _ {S L : Type 0} {g : scheme.Ghosts S} {h : elector.Ghosts L} (state : State S L g h) (made : Made) (known : List Fact) where
  at_current : Keeps state made known → state.progress.current ≡ current_of made known
  unfolding progress_of
  at_current k = grind (arith, k.progress)

  -- the member does not propose behind a view of which nothing is known
  bare_view : (q view : ℕ) → Keeps state made known → view ≡ q + 1 → state.progress.current ≤ q → view ≤ greatest_view
      → round_in state.rounds q ≡ blank → may_propose made known view ≡ false
  bare_view q view k e ahead low bare =
      let low_kept = current_kept state made known k in
      let same = at_current k in
      let kept = k.rounds q (omega (arith, low_kept, ahead)) in
      unmet_view made known q view e k.settings.some_length (omega (arith, same, ahead)) low (blank_view made known q view (sym kept ∙ bare))

  -- nor in those up to such a view
  pub none_to : (view upto : ℕ) → Keeps state made known → state.progress.current ≤ view → upto ≤ greatest_view
      → ((p : ℕ) → view ≤ p → p < upto → round_in state.rounds p ≡ blank)
      → ((p : ℕ) → state.progress.current ≤ p → p ≤ view → may_propose made known p ≡ false)
      → (q : ℕ) → state.progress.current ≤ q → q ≤ upto → may_propose made known q ≡ false
  none_to view upto k ahead low bare before q l h =
      elim (behind q view) [
        | inl le ↦ before q l le
        | inr lt ↦ bare_view (q - 1) q k (omega (arith, lt)) (omega (arith, lt, ahead)) (omega (arith, h, low)) (bare (q - 1) (omega (arith, lt)) (omega (arith, lt, h)))
      ]

  pub unmet_next : (parent view : ℕ) → Keeps state made known → view ≡ parent + 1 → state.progress.current ≤ parent → view ≤ greatest_view
      → is_met known parent view ≡ false → may_propose made known view ≡ false
  unmet_next parent view k e ahead low unmet =
      let same = at_current k in unmet_view made known parent view e k.settings.some_length (omega (arith, same, ahead)) low unmet

  pub propose_here : (limit : ℕ) → Keeps state made known
      → limit ≡ admission_limit state.settings.terms.length state.settings.terms.lookahead state.progress.current
      → may_propose made known state.progress.current ≡ true
      → Some state.progress.current ≡ find (may_propose made known) (admitted_views made known)
  propose_here limit k e here =
      let same = at_current k in
      let low = current_low made known in
      let some = window_some state.settings.terms.length state.settings.terms.lookahead state.progress.current (grind (arith, k.settings.some_length, k.settings.term_length)) (omega (arith, low, same)) in
      sym (find_here (may_propose made known) state.progress.current (limit + 1) here (omega (arith, e, some)))
      ∙ admitted_find state made known limit (may_propose made known) k e

  pub propose_later : (limit view : ℕ) → Keeps state made known
      → limit ≡ admission_limit state.settings.terms.length state.settings.terms.lookahead state.progress.current
      → state.progress.current ≤ view → view ≤ limit
      → ((q : ℕ) → state.progress.current ≤ q → q < view → may_propose made known q ≡ false)
      → may_propose made known view ≡ true
      → Some view ≡ find (may_propose made known) (admitted_views made known)
  propose_later limit view k e ahead within none here =
      sym (walk_here (may_propose made known) state.progress.current view (limit + 1) ahead (omega (arith, within)) none here)
      ∙ admitted_find state made known limit (may_propose made known) k e

  pub propose_never : (limit : ℕ) → Keeps state made known
      → limit ≡ admission_limit state.settings.terms.length state.settings.terms.lookahead state.progress.current
      → ((q : ℕ) → state.progress.current ≤ q → q ≤ limit → may_propose made known q ≡ false)
      → None ≡ find (may_propose made known) (admitted_views made known)
  propose_never limit k e none =
      sym (walk_out (may_propose made known) state.progress.current (limit + 1) (λ q a b. none q a (omega (arith, b))))
      ∙ admitted_find state made known limit (may_propose made known) k e
