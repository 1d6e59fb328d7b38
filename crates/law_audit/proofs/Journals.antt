-- The journal that is read of a step is the one that the step leaves.
use Rattle.std.proofs.Common.{◌≡◌, ℕ, ◌+◌, ◌-◌, ◌==◌, nat_lt, Bool, true, false, cond, List, [], ◌∷◌, map, filter, take, Option, Some, None, refl, sym, ap, ◌∙◌, arith, if◌then◌else◌}
use Rattle.std.specs.List.{filter_map, cons_option}
use Rattle.std.specs.Option.{option_map, option_map_or}
use Rattle.simplex_types.specs.declared.activity.Activity.{Activity}
use Rattle.simplex_types.specs.declared.activity.Activity.TheVariants as activities
use Rattle.simplex_journal.specs.Journal.{Section, crashed}
use Rattle.simplex_messages.specs.declared.call.Call.{Call}
use Rattle.simplex_messages.specs.declared.call.Call.TheVariants as calls
use Rattle.simplex_messages.specs.declared.step.Outcome.TheVariants as outcomes
use Rattle.simplex_messages.specs.declared.step.Stop.{Stop}
use Rattle.simplex_messages.specs.declared.step.Stop.TheVariants as stops
use Rattle.model_steps.specs.Desk.{Doing}
use Rattle.model_steps.specs.Performed.{is_of_journal, journal_place, stop_place, after_call, after_calls, after_failing, failing_at, whole, broken, performed}
use Rattle.model_audit.specs.Record.{call_of}
use Rattle.model_audit.specs.Rebuilt.{call_for}
use Rattle.law_audit.specs.Recording.{prune_in, shape_of}
use Rattle.model_audit.specs.Journal.{after_failure, sections_behind}

-- ---- the calls that a record tells leave the same journal

abbrev pub told : List Call → List Call
told made = filter_map call_for (map call_of made)

same_report : (a : Activity) (sections : List Section) → option_map_or (λ x. after_call x sections) (call_for (call_of (calls.Report a))) sections ≡ sections
same_report (activities.Notarize v) sections = refl
same_report (activities.Notarization c) sections = refl
same_report (activities.Certification c) sections = refl
same_report (activities.Nullify v) sections = refl
same_report (activities.Nullification c) sections = refl
same_report (activities.Finalize v) sections = refl
same_report (activities.Finalization c) sections = refl
same_report (activities.ConflictingNotarize e) sections = refl
same_report (activities.ConflictingFinalize e) sections = refl
same_report (activities.NullifyFinalize e) sections = refl

same_call : (c : Call) (sections : List Section) → option_map_or (λ x. after_call x sections) (call_for (call_of c)) sections ≡ after_call c sections
same_call (calls.Append section artifact) sections = refl
same_call (calls.Sync section) sections = refl
same_call (calls.Prune least) sections = refl
same_call (calls.Send channel to bytes) sections = refl
same_call (calls.Report a) sections = same_report a sections
same_call (calls.Relay payload plan) sections = refl
same_call (calls.Block member cause) sections = refl

told_first : (o : Option Call) (rest : List Call) (sections : List Section) → after_calls (cons_option o rest) sections ≡ after_calls rest (option_map_or (λ x. after_call x sections) o sections)
unfolding after_calls
told_first None rest sections = refl
told_first (Some x) rest sections = refl

pub same_journal : (made : List Call) (sections : List Section) → after_calls (told made) sections ≡ after_calls made sections
unfolding after_calls
same_journal [] sections = refl
same_journal (c ∷ made) sections =
    told_first (call_for (call_of c)) (told made) sections ∙ ap (after_calls (told made)) (same_call c sections) ∙ same_journal made (after_call c sections)

-- ---- which call fails is told by the calls of the journal alone

unfoldable pub failed : Stop → ℕ → List Call → List Section → List Section
failed stop number made sections = option_map_or (λ place. failing_at stop made place sections) (journal_place number made) sections

further : (stop : Stop) (c : Call) (made : List Call) (sections : List Section) (o : Option ℕ)
    → option_map_or (λ place. failing_at stop (c ∷ made) place sections) (option_map (λ n. n + 1) o) sections ≡ option_map_or (λ place. failing_at stop made place sections) o sections
further stop c made sections None = refl
further stop c made sections (Some n) = at (n + 1 == 0) (not_zero n) (n + 1 - 1) (omega arith)
  where
    not_zero : (n : ℕ) → (n + 1 == 0) ≡ false
    not_zero n = grind arith

    at : (b : Bool) → b ≡ false → (m : ℕ) → m ≡ n → (if b then after_failing stop c sections else failing_at stop made m sections) ≡ failing_at stop made n sections
    at true e m f = cc
    at false e m f = ap (λ k. failing_at stop made k sections) f

-- what the failing call of this number leaves, by which calls of the journal are prunes
abbrev pub after_prune : Stop → Option ℕ → List Section → List Section
after_prune stop None sections = sections
after_prune stop (Some least) sections = after_failing stop (calls.Prune least) sections

unfoldable pub by_shape : Stop → ℕ → List (Option ℕ) → List Section → List Section
by_shape stop number [] sections = sections
by_shape stop number (p ∷ rest) sections = if number == 1 then after_prune stop p sections else by_shape stop (number - 1) rest sections

prune_alone : (stop : Stop) (c : Call) (sections : List Section) → after_failing stop c sections ≡ after_prune stop (prune_in c) sections
prune_alone stop (calls.Prune least) sections = refl
prune_alone stops.None (calls.Append section artifact) sections = refl
prune_alone (stops.Cut call keep) (calls.Append section artifact) sections = refl
prune_alone (stops.Fail call keep) (calls.Append section artifact) sections = refl
prune_alone stops.None (calls.Sync section) sections = refl
prune_alone (stops.Cut call keep) (calls.Sync section) sections = refl
prune_alone (stops.Fail call keep) (calls.Sync section) sections = refl
prune_alone stops.None (calls.Send channel to bytes) sections = refl
prune_alone (stops.Cut call keep) (calls.Send channel to bytes) sections = refl
prune_alone (stops.Fail call keep) (calls.Send channel to bytes) sections = refl
prune_alone stops.None (calls.Report a) sections = refl
prune_alone (stops.Cut call keep) (calls.Report a) sections = refl
prune_alone (stops.Fail call keep) (calls.Report a) sections = refl
prune_alone stops.None (calls.Relay payload plan) sections = refl
prune_alone (stops.Cut call keep) (calls.Relay payload plan) sections = refl
prune_alone (stops.Fail call keep) (calls.Relay payload plan) sections = refl
prune_alone stops.None (calls.Block member cause) sections = refl
prune_alone (stops.Cut call keep) (calls.Block member cause) sections = refl
prune_alone (stops.Fail call keep) (calls.Block member cause) sections = refl

pub failed_alone : (stop : Stop) (number : ℕ) (made : List Call) (sections : List Section) → failed stop number made sections ≡ by_shape stop number (shape_of made) sections
unfolding failed journal_place by_shape
failed_alone stop number [] sections = refl
failed_alone stop number (c ∷ made) sections = at (is_of_journal c) refl (failed_alone stop number made sections) (failed_alone stop (number - 1) made sections)
  where
    first : (b : Bool) → failed stop (number - 1) made sections ≡ by_shape stop (number - 1) (shape_of made) sections
        → option_map_or (λ place. failing_at stop (c ∷ made) place sections) (if b then Some 0 else option_map (λ n. n + 1) (journal_place (number - 1) made)) sections
        ≡ (if b then after_prune stop (prune_in c) sections else by_shape stop (number - 1) (shape_of made) sections)
    first true less = prune_alone stop c sections
    first false less = further stop c made sections (journal_place (number - 1) made) ∙ less

    at : (j : Bool) → is_of_journal c ≡ j
        → failed stop number made sections ≡ by_shape stop number (shape_of made) sections
        → failed stop (number - 1) made sections ≡ by_shape stop (number - 1) (shape_of made) sections
        → failed stop number (c ∷ made) sections ≡ by_shape stop number (map prune_in (cond j (c ∷ filter is_of_journal made) (filter is_of_journal made))) sections
    at true e same less = rw e (first (number == 1) less)
    at false e same less = rw e (further stop c made sections (journal_place number made) ∙ same)

-- a cut fails no call
cut_fails_none : (call keep : ℕ) (made : List Call) (place : ℕ) (sections : List Section) → failing_at (stops.Cut call keep) made place sections ≡ sections
cut_fails_none call keep [] place sections = refl
cut_fails_none call keep (c ∷ made) place sections = at (place == 0) (cut_fails_none call keep made (place - 1) sections)
  where
    at : (b : Bool) → failing_at (stops.Cut call keep) made (place - 1) sections ≡ sections
        → (if b then after_failing (stops.Cut call keep) c sections else failing_at (stops.Cut call keep) made (place - 1) sections) ≡ sections
    at true same = refl
    at false same = same

same_failure : (stop : Stop) (ruled made : List Call) (sections : List Section) → shape_of ruled ≡ shape_of made → after_failure stop ruled sections ≡ after_failure stop made sections
unfolding stop_place failed
same_failure stops.None ruled made sections e = refl
same_failure (stops.Cut call keep) ruled made sections e =
    none (stop_place (stops.Cut call keep) ruled) ruled ∙ sym (none (stop_place (stops.Cut call keep) made) made)
  where
    none : (o : Option ℕ) (some : List Call) → option_map_or (λ place. failing_at (stops.Cut call keep) some place sections) o sections ≡ sections
    none None some = refl
    none (Some place) some = cut_fails_none call keep some place sections
same_failure (stops.Fail call keep) ruled made sections e = at (nat_lt 0 call)
  where
    both : failed (stops.Fail call keep) call ruled sections ≡ failed (stops.Fail call keep) call made sections
    both = failed_alone (stops.Fail call keep) call ruled sections ∙ ap (λ shape. by_shape (stops.Fail call keep) call shape sections) e ∙ sym (failed_alone (stops.Fail call keep) call made sections)

    at : (b : Bool) → option_map_or (λ place. failing_at (stops.Fail call keep) ruled place sections) (if b then journal_place call ruled else None) sections
        ≡ option_map_or (λ place. failing_at (stops.Fail call keep) made place sections) (if b then journal_place call made else None) sections
    at true = both
    at false = refl

-- ---- a step

same_whole : (stop : Stop) (ruled made : List Call) (sections : List Section) → sections_behind outcomes.Done stop ruled (told made) sections ≡ after_calls made sections
unfolding sections_behind
same_whole stop ruled made sections = same_journal made sections

same_broken : (stop : Stop) (doing : Doing) (sections : List Section) (ruled : List Call) (place : ℕ) → shape_of ruled ≡ shape_of doing.calls
    → stop_place stop doing.calls ≡ Some place
    → sections_behind (broken stop doing sections place).outcome stop ruled (told (broken stop doing sections place).out.calls) sections ≡ (broken stop doing sections place).sections
unfolding sections_behind stop_place
same_broken stops.None doing sections ruled place e f = cc
same_broken (stops.Cut call keep) doing sections ruled place e f =
    ap (crashed keep) (same_journal (take place doing.calls) sections ∙ sym (cut_fails_none call keep doing.calls place (after_calls (take place doing.calls) sections)))
same_broken (stops.Fail call keep) doing sections ruled place e f =
    let left = after_calls (take place doing.calls) sections in
    ap (crashed keep)
    (ap (after_failure (stops.Fail call keep) ruled) (same_journal (take place doing.calls) sections) ∙ same_failure (stops.Fail call keep) ruled doing.calls left e
    ∙ ap (λ o. option_map_or (λ place. failing_at (stops.Fail call keep) doing.calls place left) o left) f)

pub journal_is_read : (stop : Stop) (doing : Doing) (sections : List Section) (ruled : List Call) → shape_of ruled ≡ shape_of doing.calls
    → sections_behind (performed stop doing sections).outcome stop ruled (told (performed stop doing sections).out.calls) sections ≡ (performed stop doing sections).sections
unfolding performed
journal_is_read stop doing sections ruled e = at (stop_place stop doing.calls) refl
  where
    at : (o : Option ℕ) → stop_place stop doing.calls ≡ o
        → sections_behind (option_map_or (broken stop doing sections) o (whole doing sections)).outcome stop ruled (told (option_map_or (broken stop doing sections) o (whole doing sections)).out.calls) sections
        ≡ (option_map_or (broken stop doing sections) o (whole doing sections)).sections
    at None f = same_whole stop ruled doing.calls sections
    at (Some place) f = same_broken stop doing sections ruled place e f
