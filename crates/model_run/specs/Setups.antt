-- Which values a setup may have.
use Rattle.std.specs.Prelude.{ℕ, ◌-◌, ◌^◌, ◌==◌, ◌&&◌, ◌||◌, nat_lt, nat_le, Bool, true, not, List, length, filter, Option, Some, None, if◌then◌else◌}
use Rattle.std.specs.List.{list_all}
use Rattle.simplex_values.specs.Quorum.{max_faulty}
use Rattle.simplex_values.specs.declared.policy.SkipPolicy.{SkipPolicy}
use Rattle.simplex_values.specs.declared.policy.SkipPolicy.TheVariants as skip
use Rattle.simplex_transcript.specs.declared.field.Field.{Field}
use Rattle.simplex_transcript.specs.declared.field.Field.TheVariants as fields
use Rattle.simplex_transcript.specs.declared.setup.Setup.{Setup}
use Rattle.simplex_transcript.specs.declared.setup.SetupRound.{SetupRound}
use Rattle.simplex_transcript.specs.declared.setup.MemberKind.{MemberKind}
pub use Rattle.model_run.specs.Kinds.{is_faulty}
use Rattle.model_run.specs.Twins.{is_in_mask}

abbrev pub is_within : ℕ → ℕ → ℕ → Bool
is_within least most value = nat_le least value && nat_le value most

-- 1 to 2^62 milliseconds
abbrev pub is_time : ℕ → Bool
is_time ms = is_within 1 (2 ^ 62) ms

abbrev pub faulty_in : List MemberKind → ℕ
faulty_in members = length (filter is_faulty members)

-- fewer where twins follow a script
abbrev pub most_members : Setup → ℕ
most_members setup = if length setup.scenario == 0 then 256 else 64

-- where there is a limit, it is above the certification timeout
abbrev pub is_stall : ℕ → Option ℕ → Bool
is_stall certification_timeout None = true
is_stall certification_timeout (Some stall) = nat_lt certification_timeout stall && nat_le stall (2 ^ 62)

abbrev pub is_skip : SkipPolicy → Bool
is_skip skip.Disabled = true
is_skip (skip.Enabled timeout budget) = is_time timeout

-- a scripted round of n members: its leader is a member, its masks have members alone, and one of them has the leader
abbrev pub is_round : ℕ → SetupRound → Bool
is_round n scripted =
    nat_lt scripted.leader n && nat_lt scripted.primary (2 ^ n) && nat_lt scripted.secondary (2 ^ n)
    && (is_in_mask scripted.primary scripted.leader || is_in_mask scripted.secondary scripted.leader)

-- The first item that breaks its limit, but for the number of events. A leader timeout above the certification timeout is
-- the leader timeout's fault.
unfoldable pub first_bad : Setup → Option Field
first_bad setup =
    if not (is_within 1 (most_members setup) (length setup.members)) then Some fields.Members
    else if nat_lt (max_faulty (length setup.members)) (faulty_in setup.members) then Some fields.Faulty
    else if not (nat_le setup.epoch (2 ^ 64 - 2)) then Some fields.Epoch
    else if not (is_within 1 (2 ^ 32) setup.term) then Some fields.Term
    else if not (nat_le setup.lookahead (2 ^ 32)) then Some fields.Lookahead
    else if not (is_time setup.leader_timeout && nat_le setup.leader_timeout setup.certification_timeout)
    then Some fields.LeaderTimeout
    else if not (is_time setup.certification_timeout) then Some fields.CertificationTimeout
    else if not (is_time setup.retry) then Some fields.Retry
    else if not (is_stall setup.certification_timeout setup.stall) then Some fields.Stall
    else if not (is_within 1 (2 ^ 32) setup.retention) then Some fields.Retention
    else if not (is_skip setup.skip) then Some fields.Skip
    else if not (is_within 1 4096 setup.mailbox) then Some fields.Mailbox
    else if not (is_time setup.fetch_timeout) then Some fields.FetchTimeout
    else if not (nat_le setup.fetch_retry (2 ^ 62)) then Some fields.FetchRetry
    else if not (list_all (is_round (length setup.members)) setup.scenario) then Some fields.Scenario
    else None
