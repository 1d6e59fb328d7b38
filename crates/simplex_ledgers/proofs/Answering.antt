-- The first bad answer, event by event.
use Rattle.std.proofs.Common.{◌≡◌, ℕ, zero, suc, ◌+◌, ◌<◌, Bool, true, false, List, [], ◌∷◌, length, get_or, drop, Option, Some, None, refl, sym, ap, ◌∙◌, arith}
use Rattle.std.specs.Prelude.{if◌then◌else◌}
use Rattle.simplex_transcript.specs.declared.entry.Entry.{Entry}
use Rattle.simplex_transcript.specs.declared.event.Event.{Event}
use Rattle.simplex_transcript.specs.declared.setup.Setup.{Setup}
use Rattle.simplex_ledger.proofs.Transfers.{rest_item}
use Rattle.law_ledger.specs.Answers.{is_bad_answer, bad_answer_from, bad_answer}

module _ (test : List ℕ → Bool) (setup : Setup) (entries : List Entry) (events : List Event) where
  at_event : (i : ℕ) (event : Event) (rest : List Event) (bad : Bool) → is_bad_answer test setup entries event ≡ bad
      → bad_answer_from test setup entries i (event ∷ rest) ≡ (if bad then Some i else bad_answer_from test setup entries (i + 1) rest)
  unfolding bad_answer_from
  at_event i event rest bad e = ap (λ (b : Bool). if b then Some i else bad_answer_from test setup entries (i + 1) rest) e

  at_end : (i : ℕ) → bad_answer_from test setup entries i [] ≡ None
  unfolding bad_answer_from
  at_end i = refl

  pub goes_on : (i : ℕ) (event : Event) → i < length events → event ≡ get_or events i event → is_bad_answer test setup entries event ≡ false
      → bad_answer test setup entries events ≡ bad_answer_from test setup entries (i + 1) (drop i events)
      → bad_answer test setup entries events ≡ bad_answer_from test setup entries (i + 1 + 1) (drop (i + 1) events)
  goes_on i event low is fine so_far =
      so_far ∙ ap (bad_answer_from test setup entries (i + 1)) (rest_item events i event low is) ∙ at_event (i + 1) event (drop (i + 1) events) false fine

  pub stops : (i : ℕ) (event : Event) → i < length events → event ≡ get_or events i event → is_bad_answer test setup entries event ≡ true
      → bad_answer test setup entries events ≡ bad_answer_from test setup entries (i + 1) (drop i events) → bad_answer test setup entries events ≡ Some (i + 1)
  stops i event low is bad so_far =
      so_far ∙ ap (bad_answer_from test setup entries (i + 1)) (rest_item events i event low is) ∙ at_event (i + 1) event (drop (i + 1) events) true bad

  pub is_over : (i : ℕ) → drop i events ≡ [] → bad_answer test setup entries events ≡ bad_answer_from test setup entries (i + 1) (drop i events) → bad_answer test setup entries events ≡ None
  is_over i none so_far = so_far ∙ ap (bad_answer_from test setup entries (i + 1)) none ∙ at_end (i + 1)
