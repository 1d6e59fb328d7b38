-- A member's chain: its logs of the epochs, each up to the height at which the epoch is closed.
use Rattle.std.specs.Prelude.{ℕ, ◌-◌, nat_le, Bool, List, [], ◌∷◌, ◌++◌, map, take, length, slice_get, Option, None, if◌then◌else◌}
use Rattle.std.specs.Option.{option_map, option_or}
use Rattle.model_log.specs.declared.entry.LogEntry.{LogEntry}
use Rattle.model_epochs.specs.declared.chain.ChainEntry.{ChainEntry}

-- the entries of an epoch's log, up to the height
abbrev pub part_of : ℕ → ℕ × List LogEntry → List ChainEntry
part_of height log = map (λ entry. record { epoch = log.0; entry = entry }) (take height log.1)

abbrev pub is_closed : ℕ → List LogEntry → Bool
is_closed height log = nat_le height (length log)

-- it ends with the first log that is shorter; each log stands with its epoch
unfoldable pub chain_of : ℕ → List (ℕ × List LogEntry) → List ChainEntry
chain_of height [] = []
chain_of height (log ∷ later) = part_of height log ++ (if is_closed height log.1 then chain_of height later else [])

-- the payload at the height
abbrev pub payload_at : ℕ → List LogEntry → Option (List ℕ)
payload_at height log = option_map (λ entry. entry.payload) (slice_get log (height - 1))

-- in the first of these logs that is so long
unfoldable pub closing_payload : ℕ → List (List LogEntry) → Option (List ℕ)
closing_payload height [] = None
closing_payload height (log ∷ rest) = option_or (payload_at height log) (closing_payload height rest)
