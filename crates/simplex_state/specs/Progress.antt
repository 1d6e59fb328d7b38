-- How far a member is, from what it knows.
use Rattle.std.specs.Prelude.{ℕ, ◌+◌, ◌==◌, max, nat_lt, true, List, if◌then◌else◌}
use Rattle.simplex_values.specs.declared.timeout.TimeoutReason.TheVariants.{Inactivity}
use Rattle.simplex_wire.specs.declared.certificate.Certificate.TheVariants as certificates
use Rattle.simplex_values.specs.Terms.{next_of, next_term_start, term_index}
use Rattle.model_rules.specs.Lists.{greatest_of}
use Rattle.model_rules.specs.Known.{Made, Fact, Added, Judged, Expired, Pruned, view_of}
use Rattle.model_rules.specs.Views.{last_finalized, current_of, entered_at, term_entered_at, finalized_at}
use Rattle.model_rules.specs.Deadline.{inactivity_count}
use Rattle.model_rules.specs.Calls.{pruned_view}
use Rattle.simplex_state.specs.declared.progress.Progress.{Progress}

-- how far the member is
unfoldable pub progress_of : Made → List Fact → Progress
progress_of made known =
    record {
      last_finalized = last_finalized known;
      current = current_of made known;
      entered = entered_at made known;
      term_entered = term_entered_at made known;
      finalized_at = finalized_at made known;
      skipped = inactivity_count known;
      pruned = greatest_of pruned_view known;
    }

-- how far it is where nothing is known
abbrev pub beginning : ℕ → Progress
beginning start =
    record {
      last_finalized = 0;
      current = 1;
      entered = start;
      term_entered = start;
      finalized_at = start;
      skipped = 0;
      pruned = 0;
    }

-- a view opens
unfoldable pub opens : ℕ → ℕ → ℕ → Progress → Progress
opens length view now p =
    if nat_lt p.current view
    then record p {
      current = view;
      entered = now;
      term_entered = if term_index length view == term_index length p.current then p.term_entered else now;
    }
    else p

-- a view is final
unfoldable pub ends : ℕ → ℕ → ℕ → Progress → Progress
ends length view now p =
    if nat_lt p.last_finalized view
    then record (opens length (next_of view) now p) { last_finalized = view; finalized_at = now; skipped = 0 }
    else opens length (next_of view) now p

-- what one more fact changes of it
unfoldable pub learn_progress : Made → Fact → Progress → Progress
learn_progress made (Added (certificates.Finalization f) now) p = ends made.term_length (view_of f.proposal) now p
learn_progress made (Added (certificates.Nullification n) now) p =
    opens made.term_length (next_term_start made.term_length n.round.view) now p
learn_progress made (Judged view true now) p = opens made.term_length (next_of view) now p
learn_progress made (Expired view Inactivity now) p = record p { skipped = 1 + p.skipped }
learn_progress made (Pruned view) p = record p { pruned = max view p.pruned }
learn_progress made _ p = p
