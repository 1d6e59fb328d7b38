-- When a member gives its current view up, and why.
use Rattle.std.specs.Prelude.{ℕ, ◌+◌, ◌==◌, ◌&&◌, ◌||◌, max, nat_lt, nat_le, not, Bool, true, false, List, [], ◌∷◌, Option, Some, None, if◌then◌else◌}
use Rattle.std.specs.Option.{option_or, option_map, option_map_or, is_some, is_none}
use Rattle.simplex_values.specs.declared.timeout.TimeoutReason.{TimeoutReason}
use Rattle.simplex_values.specs.declared.timeout.TimeoutReason.TheVariants.{LeaderTimeout, CertificationTimeout, StallTimeout, Inactivity, MissingProposal, IgnoredProposal, InvalidProposal, FailedCertification}
use Rattle.model_rules.specs.Known.{Made, Fact, Published, Expired, Failed}
use Rattle.model_rules.specs.Lists.{first_of, last_of}
use Rattle.model_rules.specs.Views.{last_finalized, current_of, entered_at, term_entered_at, finalized_at}
use Rattle.model_rules.specs.Slot.{slot_of}

-- a clock, and the reason to give the view up then
abbrev pub Moment : Type 0
Moment = ℕ × TimeoutReason

abbrev pub published_in : ℕ → Fact → Option ℕ
published_in view (Published v now) = if v == view then Some now else None
published_in view _ = None

-- when the own nullify of the view last went out
unfoldable pub published_at : List Fact → ℕ → Option ℕ
published_at known view = last_of (published_in view) known

abbrev pub expired_in : ℕ → Fact → Option Moment
expired_in view (Expired v reason now) = if v == view then Some (now, reason) else None
expired_in view _ = None

abbrev pub failed_in : ℕ → Fact → Option TimeoutReason
failed_in view (Failed v reason) = if v == view then Some reason else None
failed_in view _ = None

-- the expiry of the current view: as it happened, or on entry where the view had failed before
unfoldable pub expiry_of : Made → List Fact → Option Moment
expiry_of made known =
    option_or (first_of (expired_in (current_of made known)) known)
    (option_map (λ reason. (entered_at made known, reason)) (first_of (failed_in (current_of made known)) known))

-- the sooner moment, and the first where they tie
abbrev pub sooner : Moment → Moment → Moment
sooner a b = if nat_le a.0 b.0 then a else b

-- how long the current view has for its proposal, or with one for its certificate
unfoldable pub own_moment : Made → List Fact → Moment
own_moment made known =
    if is_some (slot_of known (current_of made known))
    then (entered_at made known + made.certification_timeout, CertificationTimeout)
    else (entered_at made known + made.leader_timeout, LeaderTimeout)

-- how long a term has for the next final view
unfoldable pub stall_moment : Made → List Fact → Option Moment
stall_moment made known =
    option_map (λ stall. (stall + max (term_entered_at made known) (finalized_at made known), StallTimeout))
    made.stall_timeout

-- the first deadline of the current view: its expiry, its own moment or the term's, in this order on a tie
unfoldable pub first_deadline : Made → List Fact → Moment
first_deadline made known =
    let timely = option_map_or (sooner (own_moment made known)) (stall_moment made known) (own_moment made known) in
    option_map_or (λ expiry. sooner expiry timely) (expiry_of made known) timely

-- the deadline: once its nullify went out, the current view is only repeated
unfoldable pub deadline_of : Made → List Fact → Moment
deadline_of made known =
    option_map_or (λ at. (at + made.timeout_retry, LeaderTimeout)) (published_at known (current_of made known))
    (first_deadline made known)

-- ---- what makes a view expire

abbrev pub is_inactivity : TimeoutReason → Bool
is_inactivity Inactivity = true
is_inactivity _ = false

-- whether the reason is a failure of the view itself, which counts ahead of time
abbrev pub is_failure : TimeoutReason → Bool
is_failure MissingProposal = true
is_failure IgnoredProposal = true
is_failure InvalidProposal = true
is_failure FailedCertification = true
is_failure _ = false

abbrev pub inactivity_in : Fact → ℕ
inactivity_in (Expired view Inactivity now) = 1
inactivity_in _ = 0

-- how often inactivity expired a view since the last final view rose
unfoldable pub inactivity_count : List Fact → ℕ
inactivity_count [] = 0
inactivity_count (fact ∷ known) =
    if last_finalized (fact ∷ known) == last_finalized known then inactivity_in fact + inactivity_count known else 0

-- whether inactivity still counts: nothing is proposed, and the budget is not used up
unfoldable pub may_skip : Made → List Fact → Bool
may_skip made known =
    is_none (slot_of known (current_of made known)) && nat_lt (inactivity_count known) made.skip_budget

-- whether a trigger expires the view now
unfoldable pub expires : Made → List Fact → ℕ → TimeoutReason → Bool
expires made known view reason =
    view == current_of made known && is_none (expiry_of made known)
    && (not (is_inactivity reason) || may_skip made known)

-- whether a trigger expires the view later, as it becomes current
unfoldable pub fails : Made → List Fact → ℕ → TimeoutReason → Bool
fails made known view reason = nat_lt (current_of made known) view && is_failure reason

-- what a trigger adds
unfoldable pub triggered : Made → List Fact → ℕ → TimeoutReason → ℕ → List Fact
triggered made known view reason now =
    if expires made known view reason then Expired view reason now ∷ []
    else if fails made known view reason then Failed view reason ∷ [] else []
