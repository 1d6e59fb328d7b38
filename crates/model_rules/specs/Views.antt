-- Which views matter to a member.
use Rattle.std.specs.Prelude.{ℕ, ◌-◌, ◌&&◌, max, nat_le, Bool, true, List}
use Rattle.simplex_wire.specs.declared.certificate.Certificate.TheVariants as certificates
use Rattle.simplex_values.specs.Terms.{next_of, next_term_start, term_index, admits, is_in_window}
use Rattle.model_rules.specs.Known.{Made, Fact, Added, Judged, reached, view_of}
use Rattle.model_rules.specs.Lists.{greatest_of}

abbrev pub finalized_view : Fact → ℕ
finalized_view (Added (certificates.Finalization f) now) = view_of f.proposal
finalized_view _ = 0

-- the greatest view that is known to be final, or 0
unfoldable pub last_finalized : List Fact → ℕ
last_finalized known = greatest_of finalized_view known

-- the view that a fact opens: the next one for a finalization or a true verdict, the next term's first for a nullification
abbrev pub opened_view : ℕ → Fact → ℕ
opened_view length (Added (certificates.Finalization f) now) = next_of (view_of f.proposal)
opened_view length (Added (certificates.Nullification n) now) = next_term_start length n.round.view
opened_view length (Judged view true now) = next_of view
opened_view length _ = 0

-- the view that the member is in: the greatest that was opened, and at first 1
unfoldable pub current_of : Made → List Fact → ℕ
current_of made known = max 1 (greatest_of (opened_view made.term_length) known)

-- when the member came into its current view
unfoldable pub entered_at : Made → List Fact → ℕ
entered_at made known = reached (current_of made) made.start known

-- when it came into the current view's term
unfoldable pub term_entered_at : Made → List Fact → ℕ
term_entered_at made known = reached (λ facts. term_index made.term_length (current_of made facts)) made.start known

-- when the last final view last rose, or the start
unfoldable pub finalized_at : Made → List Fact → ℕ
finalized_at made known = reached last_finalized made.start known

-- the least view whose certificates are still added
unfoldable pub least_active : Made → List Fact → ℕ
least_active made known = last_finalized known - made.retention

-- whether a certificate of the view is still of use, and whether a vote or a proposal is
unfoldable pub admits_certificate : Made → List Fact → ℕ → Bool
admits_certificate made known view = nat_le (least_active made known) view

unfoldable pub admits_vote : Made → List Fact → ℕ → Bool
admits_vote made known view =
    admits_certificate made known view && admits made.term_length made.lookahead (current_of made known) view

-- whether the view is ahead of the current one, and admitted
unfoldable pub is_ahead : Made → List Fact → ℕ → Bool
is_ahead made known view = is_in_window made.term_length made.lookahead (current_of made known) view
