-- What a call of the journal that fails leaves, by the calls that the rules make.
use Rattle.std.proofs.Common.{◌≡◌, ℕ, ◌-◌, ◌==◌, nat_lt, Bool, true, false, List, [], ◌∷◌, Option, Some, None, refl, sym, ap, ◌∙◌, if◌then◌else◌}
use Rattle.std.specs.Option.{option_map_or}
use Rattle.simplex_journal.specs.Journal.{Section, crashed}
use Rattle.simplex_messages.specs.declared.call.Call.{Call}
use Rattle.simplex_messages.specs.declared.step.Outcome.{Outcome}
use Rattle.simplex_messages.specs.declared.step.Outcome.TheVariants as outcomes
use Rattle.simplex_messages.specs.declared.step.Stop.{Stop}
use Rattle.simplex_messages.specs.declared.step.Stop.TheVariants as stops
use Rattle.model_steps.specs.Performed.{journal_place, stop_place, kept_by, after_calls, after_failing, failing_at}
use Rattle.model_audit.specs.Journal.{after_failure, sections_behind}
use Rattle.model_audit.specs.Running.{is_done, is_broken}
use Rattle.simplex_reader.specs.Failing.{is_failed, ArePrunedBy}

-- ---- without a failure

pub none_fails : (ruled : List Call) (sections : List Section) → after_failure stops.None ruled sections ≡ sections
unfolding stop_place
none_fails ruled sections = refl

cut_at : (call keep : ℕ) (ruled : List Call) (place : ℕ) (sections : List Section) → failing_at (stops.Cut call keep) ruled place sections ≡ sections
cut_at call keep [] place sections = refl
cut_at call keep (c ∷ ruled) place sections = at (place == 0) (cut_at call keep ruled (place - 1) sections)
  where
    at : (b : Bool) → failing_at (stops.Cut call keep) ruled (place - 1) sections ≡ sections
        → (if b then after_failing (stops.Cut call keep) c sections else failing_at (stops.Cut call keep) ruled (place - 1) sections) ≡ sections
    at true same = refl
    at false same = same

pub cut_fails : (call keep : ℕ) (ruled : List Call) (sections : List Section) → after_failure (stops.Cut call keep) ruled sections ≡ sections
cut_fails call keep ruled sections = at (stop_place (stops.Cut call keep) ruled)
  where
    at : (o : Option ℕ) → option_map_or (λ place. failing_at (stops.Cut call keep) ruled place sections) o sections ≡ sections
    at None = refl
    at (Some place) = cut_at call keep ruled place sections

-- where no call is made, none fails
pub none_made : ArePrunedBy [] None
unfolding stop_place journal_place
none_made call keep sections = at (nat_lt 0 call)
  where
    at : (b : Bool) → option_map_or (λ place. failing_at (stops.Fail call keep) [] place sections) (if b then None else None) sections ≡ sections
    at true = refl
    at false = refl

-- ---- behind an entry

module _ (stop : Stop) (ruled made : List Call) (sections new : List Section) where
  pub behind_cut : (outcome : Outcome) → outcome ≡ outcomes.Cut → new ≡ crashed (kept_by stop) (after_calls made sections)
      → new ≡ sections_behind outcome stop ruled made sections
  unfolding sections_behind
  behind_cut outcome e is = is ∙ ap (λ o. sections_behind o stop ruled made sections) (sym e)

  pub behind_failure : (outcome : Outcome) → outcome ≡ outcomes.Journal → new ≡ crashed (kept_by stop) (after_failure stop ruled (after_calls made sections))
      → new ≡ sections_behind outcome stop ruled made sections
  unfolding sections_behind
  behind_failure outcome e is = is ∙ ap (λ o. sections_behind o stop ruled made sections) (sym e)

  pub behind_done : (outcome : Outcome) → outcome ≡ outcomes.Done → new ≡ after_calls made sections → new ≡ sections_behind outcome stop ruled made sections
  unfolding sections_behind
  behind_done outcome e is = is ∙ ap (λ o. sections_behind o stop ruled made sections) (sym e)

  pub behind_idle : (outcome : Outcome) → outcome ≡ outcomes.Idle → new ≡ after_calls made sections → new ≡ sections_behind outcome stop ruled made sections
  unfolding sections_behind
  behind_idle outcome e is = is ∙ ap (λ o. sections_behind o stop ruled made sections) (sym e)

  pub behind_refused : (outcome : Outcome) → outcome ≡ outcomes.Refused → new ≡ after_calls made sections → new ≡ sections_behind outcome stop ruled made sections
  unfolding sections_behind
  behind_refused outcome e is = is ∙ ap (λ o. sections_behind o stop ruled made sections) (sym e)

-- where none failed, it is not asked which the rules make
pub ruled_apart : (outcome : Outcome) (stop : Stop) (a b made : List Call) (sections : List Section) → is_failed outcome ≡ false
    → sections_behind outcome stop a made sections ≡ sections_behind outcome stop b made sections
unfolding sections_behind
ruled_apart outcomes.Done stop a b made sections e = refl
ruled_apart outcomes.Idle stop a b made sections e = refl
ruled_apart outcomes.Cut stop a b made sections e = refl
ruled_apart outcomes.Journal stop a b made sections e = cc
ruled_apart outcomes.Refused stop a b made sections e = refl

pub true_false : {A : Type 0} → true ≡ false → A
true_false e = absurd cc

-- an entry of which one failed is broken, and not whole
pub failed_breaks : (outcome : Outcome) → is_failed outcome ≡ true → is_broken outcome ≡ true
failed_breaks outcomes.Done e = cc
failed_breaks outcomes.Idle e = cc
failed_breaks outcomes.Cut e = refl
failed_breaks outcomes.Journal e = refl
failed_breaks outcomes.Refused e = cc

pub failed_undone : (outcome : Outcome) → is_failed outcome ≡ true → is_done outcome ≡ false
failed_undone outcomes.Done e = cc
failed_undone outcomes.Idle e = refl
failed_undone outcomes.Cut e = refl
failed_undone outcomes.Journal e = refl
failed_undone outcomes.Refused e = refl
