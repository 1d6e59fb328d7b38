-- What a member holds for others, and which nullifications it lacks.
use Rattle.std.specs.Prelude.{ℕ, ◌+◌, ◌-◌, ◌==◌, ◌&&◌, ◌||◌, max, nat_lt, nat_le, not, Bool, true, false, List, [], ◌∷◌, ◌++◌, filter, map, Option, Some, None, if◌then◌else◌}
use Rattle.std.specs.List.{list_any, range_with_len}
use Rattle.std.specs.Option.{option_or, option_map, option_map_or, is_some, is_none}
use Rattle.simplex_wire.specs.declared.certificate.Notarization.{Notarization}
use Rattle.simplex_wire.specs.declared.certificate.Nullification.{Nullification}
use Rattle.simplex_wire.specs.declared.certificate.Finalization.{Finalization}
use Rattle.simplex_wire.specs.declared.certificate.Certificate.{Certificate}
use Rattle.simplex_wire.specs.declared.certificate.Certificate.TheVariants as certificates
use Rattle.simplex_values.specs.declared.ask.Kind.{Kind}
use Rattle.simplex_values.specs.declared.ask.Kind.TheVariants as kinds
use Rattle.model_rules.specs.declared.effect.Effect.{Effect}
use Rattle.model_rules.specs.declared.effect.Effect.TheVariants as effects
use Rattle.model_rules.specs.Lists.{first_of, greatest_of}
use Rattle.simplex_values.specs.Terms.{next_of, term_start, term_end, next_term_start}
use Rattle.simplex_values.specs.Covers.{covers}
use Rattle.model_rules.specs.Known.{view_of}

-- a call that changes a repair state. A history is a list of calls, the newest first
pub data RepairCall : Type 0 where
  Updated : (certificate : Certificate) → RepairCall
  Certified : (notarization : Notarization) → (good : Bool) → RepairCall
  Replayed : RepairCall

-- ---- what is held: of one view and kind the first

abbrev pub notarization_taken : ℕ → RepairCall → Option Notarization
notarization_taken view (Updated (certificates.Notarization n)) = if view_of n.proposal == view then Some n else None
notarization_taken view (Certified n good) = if view_of n.proposal == view then Some n else None
notarization_taken view _ = None

unfoldable pub notarization_held : List RepairCall → ℕ → Option Notarization
notarization_held calls view = first_of (notarization_taken view) calls

abbrev pub nullification_taken : ℕ → RepairCall → Option Nullification
nullification_taken view (Updated (certificates.Nullification n)) = if n.round.view == view then Some n else None
nullification_taken view _ = None

unfoldable pub nullification_held : List RepairCall → ℕ → Option Nullification
nullification_held calls view = first_of (nullification_taken view) calls

-- the greatest finalization
unfoldable pub finalization_held : List RepairCall → Option Finalization
finalization_held [] = None
finalization_held (Updated (certificates.Finalization f) ∷ calls) =
    if option_map_or (λ held. nat_lt (view_of held.proposal) (view_of f.proposal)) (finalization_held calls) true
    then Some f else finalization_held calls
finalization_held (_ ∷ calls) = finalization_held calls

abbrev pub is_verdict_in : ℕ → Bool → RepairCall → Bool
is_verdict_in view true (Certified n true) = view_of n.proposal == view
is_verdict_in view false (Certified n false) = view_of n.proposal == view
is_verdict_in view good _ = false

-- whether the view has a true verdict, or a false one
unfoldable pub is_good : List RepairCall → ℕ → Bool
is_good calls view = list_any (is_verdict_in view true) calls

unfoldable pub is_failed : List RepairCall → ℕ → Bool
is_failed calls view = list_any (is_verdict_in view false) calls

-- the view of the greatest finalization, or 0
unfoldable pub final_view : List RepairCall → ℕ
final_view calls = option_map_or (λ f. view_of f.proposal) (finalization_held calls) 0

abbrev pub good_view : RepairCall → ℕ
good_view (Certified n true) = view_of n.proposal
good_view _ = 0

-- the greatest view that is final or has a true verdict, or 0
unfoldable pub repair_floor : List RepairCall → ℕ
repair_floor calls = max (final_view calls) (greatest_of good_view calls)

-- ---- what is settled

-- whether a finalization at or above the view is held
unfoldable pub is_final : List RepairCall → ℕ → Bool
is_final calls view = option_map_or (λ f. nat_le view (view_of f.proposal)) (finalization_held calls) false

abbrev pub is_covering : ℕ → ℕ → RepairCall → Bool
is_covering length view (Updated (certificates.Nullification n)) = covers length n.round.view view
is_covering length view _ = false

-- whether a nullification that covers the view is held
unfoldable pub is_nullified : ℕ → List RepairCall → ℕ → Bool
is_nullified length calls view = list_any (is_covering length view) calls

unfoldable pub is_settled : ℕ → List RepairCall → ℕ → Kind → Bool
is_settled length calls view kinds.Nullification = is_final calls view || is_nullified length calls view
is_settled length calls view kinds.Notarization =
    is_final calls view || is_some (notarization_held calls view) || is_failed calls view

unfoldable pub is_key_settled : ℕ → List RepairCall → ℕ → Bool
is_key_settled length calls view =
    is_settled length calls view kinds.Nullification && is_settled length calls view kinds.Notarization

-- whether the view failed, and no later view is final
unfoldable pub is_uncertifiable : List RepairCall → ℕ → Bool
is_uncertifiable calls view = is_failed calls view && nat_lt (final_view calls) view

-- ---- what is given to one who asks for a view

-- the held nullification of the least view that covers this one
unfoldable pub covering_nullification : ℕ → List RepairCall → ℕ → Option Nullification
covering_nullification length [] view = None
covering_nullification length (Updated (certificates.Nullification n) ∷ calls) view =
    if covers length n.round.view view
    && option_map_or (λ m. nat_lt n.round.view m.round.view) (covering_nullification length calls view) true
    then Some n else covering_nullification length calls view
covering_nullification length (_ ∷ calls) view = covering_nullification length calls view

-- the finalization at or above it, its own notarization with a true verdict, a nullification that covers it, or the floor's notarization
unfoldable pub produced : ℕ → List RepairCall → ℕ → Option Certificate
produced length calls view =
    if is_final calls view then option_map certificates.Finalization (finalization_held calls)
    else if is_good calls view then option_map certificates.Notarization (notarization_held calls view)
    else option_or
    (option_map certificates.Nullification (covering_nullification length calls view))
    (if nat_le view (repair_floor calls) && is_good calls (repair_floor calls)
    then option_map certificates.Notarization (notarization_held calls (repair_floor calls)) else None)

-- ---- which views lack a nullification

abbrev pub top_view : ℕ → RepairCall → ℕ
top_view length (Updated (certificates.Finalization f)) = next_of (view_of f.proposal)
top_view length (Updated (certificates.Notarization n)) = view_of n.proposal
top_view length (Updated (certificates.Nullification n)) = next_term_start length n.round.view
top_view length (Certified n true) = next_of (view_of n.proposal)
top_view length (Certified n false) = view_of n.proposal
top_view length Replayed = 0

-- the view up to which certificates are known to lead
unfoldable pub top_of : ℕ → List RepairCall → ℕ
top_of length calls = greatest_of (top_view length) calls

abbrev pub is_replayed_in : RepairCall → Bool
is_replayed_in Replayed = true
is_replayed_in _ = false

-- whether the view is its term's first above the floor. As a nullification covers the rest of its term,
-- the least view of a term that is not covered is this one or none
unfoldable pub is_first_above : ℕ → ℕ → ℕ → Bool
is_first_above length floor view = view == max (floor + 1) (term_start length view)

-- whether a nullification of the view has to be asked for
unfoldable pub is_gap : ℕ → List RepairCall → ℕ → Bool
is_gap length calls view =
    list_any is_replayed_in calls
    && nat_lt (repair_floor calls) view && not (is_nullified length calls view)
    && ((nat_lt view (top_of length calls) && is_first_above length (repair_floor calls) view) || is_failed calls view)

-- the gaps, in rising order. A failed view is at most the top
unfoldable pub gaps_of : ℕ → List RepairCall → List ℕ
gaps_of length calls =
    filter (is_gap length calls) (range_with_len (repair_floor calls + 1) (top_of length calls - repair_floor calls))

-- ---- what a call leads to

unfoldable pub settled_by : ℕ → List RepairCall → RepairCall → List Effect
settled_by length calls (Updated (certificates.Nullification n)) =
    if is_none (nullification_held calls n.round.view)
    then effects.Settled kinds.Nullification n.round.view (term_end length n.round.view) ∷ [] else []
settled_by length calls (Updated (certificates.Notarization n)) =
    if is_none (notarization_held calls (view_of n.proposal))
    then effects.Settled kinds.Notarization (view_of n.proposal) (view_of n.proposal) ∷ [] else []
settled_by length calls (Certified n good) =
    if is_none (notarization_held calls (view_of n.proposal))
    || (not good && not (is_failed calls (view_of n.proposal)))
    then effects.Settled kinds.Notarization (view_of n.proposal) (view_of n.proposal) ∷ [] else []
settled_by length calls _ = []

unfoldable pub finalized_by : List RepairCall → RepairCall → List Effect
finalized_by calls (Updated (certificates.Finalization f)) =
    if is_final calls (view_of f.proposal) then [] else effects.Finalized (view_of f.proposal) ∷ []
finalized_by calls _ = []

unfoldable pub raised_by : List RepairCall → RepairCall → List Effect
raised_by calls call =
    if nat_lt (repair_floor calls) (repair_floor (call ∷ calls))
    then effects.Raised (repair_floor (call ∷ calls)) ∷ [] else []

-- a fetch of each gap that was none before
unfoldable pub fetched_by : ℕ → List RepairCall → RepairCall → List Effect
fetched_by length calls call =
    map effects.Fetch (filter (λ view. not (is_gap length calls view)) (gaps_of length (call ∷ calls)))

unfoldable pub effects_of : ℕ → List RepairCall → RepairCall → List Effect
effects_of length calls call =
    settled_by length calls call ++ finalized_by calls call ++ raised_by calls call ++ fetched_by length calls call
