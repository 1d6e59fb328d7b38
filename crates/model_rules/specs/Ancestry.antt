-- Which view a proposal may stand on.
use Rattle.std.specs.Prelude.{ℕ, ◌+◌, ◌-◌, ◌==◌, ◌&&◌, ◌||◌, nat_lt, nat_le, not, Bool, true, false, List, Option, Some, None, find, unwrap_or, if◌then◌else◌}
use Rattle.std.specs.List.{list_any, range_with_len}
use Rattle.std.specs.Option.{option_or, option_map, is_some, is_none}
use Rattle.simplex_values.specs.declared.proposal.Proposal.{Proposal}
use Rattle.simplex_wire.specs.declared.certificate.Certificate.TheVariants as certificates
use Rattle.model_rules.specs.Lists.{first_of, greatest_below}
use Rattle.simplex_values.specs.Covers.{covers}
use Rattle.model_rules.specs.Known.{Made, Fact, FloorAt, Added, verdict_of, finalization_of, own_notarize, has_nullified}
use Rattle.model_rules.specs.Views.{last_finalized}
use Rattle.model_rules.specs.Slot.{slot_of}

abbrev pub is_covered_in : ℕ → ℕ → Fact → Bool
is_covered_in length view (Added (certificates.Nullification n) now) = covers length n.round.view view
is_covered_in length view _ = false

-- whether a known nullification covers the view
unfoldable pub is_covered : Made → List Fact → ℕ → Bool
is_covered made known view = list_any (is_covered_in made.term_length view) known

-- the least view strictly between a parent and a view that no known nullification covers
unfoldable pub gap_between : Made → List Fact → ℕ → ℕ → Option ℕ
gap_between made known parent view =
    find (λ v. not (is_covered made known v)) (range_with_len (parent + 1) (view - (parent + 1)))

unfoldable pub has_true_verdict : List Fact → ℕ → Bool
has_true_verdict known view = unwrap_or (verdict_of known view) false

unfoldable pub has_false_verdict : List Fact → ℕ → Bool
has_false_verdict known view = not (unwrap_or (verdict_of known view) true)

-- whether the parent is the last final view, or a later one with a true verdict
unfoldable pub is_certified : List Fact → ℕ → Bool
is_certified known parent =
    parent == last_finalized known || (nat_lt (last_finalized known) parent && has_true_verdict known parent)

-- whether the parent is the view just before, and the member voted for it and did not give it up
unfoldable pub is_met : List Fact → ℕ → ℕ → Bool
is_met known parent view =
    parent + 1 == view && is_some (own_notarize known parent) && not (has_nullified known parent)

-- whether a proposal of the view may stand on the parent
unfoldable pub has_ancestry : Made → List Fact → ℕ → ℕ → Bool
has_ancestry made known parent view =
    nat_le (last_finalized known) parent && nat_lt parent view
    && is_none (gap_between made known parent view)
    && (is_certified known parent || is_met known parent view)

-- the greatest parent that a proposal of the view may stand on
unfoldable pub greatest_parent : Made → List Fact → ℕ → Option ℕ
greatest_parent made known view = greatest_below (λ parent. has_ancestry made known parent view) view

abbrev pub floor_in : ℕ → Fact → Option (List ℕ)
floor_in view (FloorAt v payload) = if v == view then Some payload else None
floor_in view _ = None

-- the payload of a parent: the floor's, else the finalized one, else the slot's, else that of genesis
unfoldable pub payload_at : Made → List Fact → ℕ → List ℕ
payload_at made known view =
    unwrap_or
    (option_or (first_of (floor_in view) known)
    (option_or (option_map (λ f. f.proposal.payload) (finalization_of known view))
    (option_map (λ (p : Proposal). p.payload) (slot_of known view))))
    made.genesis
