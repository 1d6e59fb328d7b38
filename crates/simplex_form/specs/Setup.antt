-- The JSON form of a setup.
use Rattle.std.specs.Prelude.{ℕ, List, codes, Option, Some, None, option_map, if◌then◌else◌}
use Rattle.std.specs.Str.{bytes_eq}
use Rattle.serde_json.specs.Data.{Data}
use Rattle.serde_json.specs.Find.{get, as_str}
use Rattle.simplex_values.specs.declared.policy.SkipPolicy.{SkipPolicy}
use Rattle.simplex_values.specs.declared.policy.SkipPolicy.TheVariants as skips
use Rattle.simplex_values.specs.declared.policy.SkipBudget.{SkipBudget}
use Rattle.simplex_values.specs.declared.policy.SkipBudget.TheVariants as budgets
use Rattle.simplex_values.specs.declared.policy.ForwardPolicy.{ForwardPolicy}
use Rattle.simplex_values.specs.declared.policy.ForwardPolicy.TheVariants as forwards
use Rattle.simplex_transcript.specs.declared.setup.MemberKind.{MemberKind}
use Rattle.simplex_transcript.specs.declared.setup.MemberKind.TheVariants as kinds
use Rattle.simplex_transcript.specs.declared.setup.SetupRound.{SetupRound}
use Rattle.simplex_transcript.specs.declared.setup.Setup.{Setup}
use Rattle.simplex_names.specs.Names.{named_kind_of}
use Rattle.simplex_form.specs.declared.setup.Committee.{Committee}
use Rattle.simplex_form.specs.declared.setup.Timing.{Timing}
use Rattle.simplex_form.specs.declared.setup.Policies.{Policies}
use Rattle.simplex_form.specs.declared.setup.Fetching.{Fetching}
use Rattle.simplex_form.specs.Form.{◌>>=◌, has_members, is_null, number_of, number_at, text_at, flag_at, list_of}

-- {"outdated": 3}
abbrev pub outdated_of : Data → Option MemberKind
outdated_of d =
    if has_members 1 d then option_map (λ views. kinds.Outdated views) (number_at (codes "outdated") d) else None

-- a text, or else the object of an outdated member
abbrev pub kind_or : Data → Option (List ℕ) → Option MemberKind
kind_or d (Some name) = named_kind_of name
kind_or d None = outdated_of d

-- how a member behaves
abbrev pub kind_of : Data → Option MemberKind
kind_of d = kind_or d (as_str d)

-- {"leader": 0, "primary": 1, "secondary": 2}
abbrev pub round_of : Data → Option SetupRound
round_of d = if has_members 3 d then (do
  leader ← number_at (codes "leader") d
  primary ← number_at (codes "primary") d
  secondary ← number_at (codes "secondary") d
  Some (record { leader = leader; primary = primary; secondary = secondary })) else None

-- null, or a number
abbrev pub limit_of : Data → Option (Option ℕ)
limit_of d = if is_null d then Some None else option_map (λ n. Some n) (number_of d)

-- "participants", or else a number
abbrev pub budget_or : Data → Option (List ℕ) → Option SkipBudget
budget_or d (Some name) = if bytes_eq name (codes "participants") then Some budgets.Participants else None
budget_or d None = option_map (λ views. budgets.Fixed views) (number_of d)

-- how many views may be skipped
abbrev pub budget_of : Data → Option SkipBudget
budget_of d = budget_or d (as_str d)

-- {"timeout": 10, "budget": 3}
abbrev pub enabled_of : Data → Option SkipPolicy
enabled_of d = if has_members 2 d then (do
  timeout ← number_at (codes "timeout") d
  budget ← get (codes "budget") d >>= budget_of
  Some (skips.Enabled timeout budget)) else None

-- null, or an object
abbrev pub skip_of : Data → Option SkipPolicy
skip_of d = if is_null d then Some skips.Disabled else enabled_of d

-- to whom proposals are forwarded
abbrev pub forward_of : List ℕ → Option ForwardPolicy
forward_of name =
    if bytes_eq name (codes "disabled") then Some forwards.Disabled else
    if bytes_eq name (codes "voters") then Some forwards.SilentVoters else
    if bytes_eq name (codes "leader") then Some forwards.SilentLeader else
    None

-- the members of a setup that say who takes part, and in which terms
abbrev pub committee_of : Data → Option Committee
committee_of d = do
  epoch ← number_at (codes "epoch") d
  key_base ← number_at (codes "key_base") d
  members ← get (codes "members") d >>= list_of kind_of
  term ← number_at (codes "term") d
  lookahead ← number_at (codes "lookahead") d
  Some (record { epoch = epoch; key_base = key_base; members = members; term = term; lookahead = lookahead })

-- those on how long things last
abbrev pub timing_of : Data → Option Timing
timing_of d = do
  leader_timeout ← number_at (codes "leader_timeout") d
  certification_timeout ← number_at (codes "certification_timeout") d
  retry ← number_at (codes "retry") d
  stall ← get (codes "stall") d >>= limit_of
  retention ← number_at (codes "retention") d
  Some (record {
    leader_timeout = leader_timeout;
    certification_timeout = certification_timeout;
    retry = retry;
    stall = stall;
    retention = retention;
  })

-- those on what a member does beyond the rules
abbrev pub policies_of : Data → Option Policies
policies_of d = do
  skip ← get (codes "skip") d >>= skip_of
  forward ← text_at (codes "forward") d >>= forward_of
  mailbox ← number_at (codes "mailbox") d
  track ← flag_at (codes "track") d
  handoff ← flag_at (codes "handoff") d
  Some (record { skip = skip; forward = forward; mailbox = mailbox; track = track; handoff = handoff })

-- those on fetching, and the scripted rounds
abbrev pub fetching_of : Data → Option Fetching
fetching_of d = do
  fetch_timeout ← number_at (codes "fetch_timeout") d
  fetch_retry ← number_at (codes "fetch_retry") d
  scenario ← get (codes "scenario") d >>= list_of round_of
  Some (record { fetch_timeout = fetch_timeout; fetch_retry = fetch_retry; scenario = scenario })

-- the setup of these parts
abbrev pub joined : Committee → Timing → Policies → Fetching → Setup
joined c t p f = record {
  epoch = c.epoch;
  key_base = c.key_base;
  members = c.members;
  term = c.term;
  lookahead = c.lookahead;
  leader_timeout = t.leader_timeout;
  certification_timeout = t.certification_timeout;
  retry = t.retry;
  stall = t.stall;
  retention = t.retention;
  skip = p.skip;
  forward = p.forward;
  mailbox = p.mailbox;
  track = p.track;
  handoff = p.handoff;
  fetch_timeout = f.fetch_timeout;
  fetch_retry = f.fetch_retry;
  scenario = f.scenario;
}

-- an object of exactly these eighteen members
abbrev pub setup_of : Data → Option Setup
setup_of d = if has_members 18 d then (do
  committee ← committee_of d
  timing ← timing_of d
  policies ← policies_of d
  fetching ← fetching_of d
  Some (joined committee timing policies fetching)) else None
