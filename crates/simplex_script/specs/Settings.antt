-- What is set otherwise than usual.
use Rattle.std.specs.Prelude.{ℕ, List, codes, Option, Some, None, if◌then◌else◌}
use Rattle.std.specs.Option.{option_map}
use Rattle.std.specs.Str.{bytes_eq}
use Rattle.simplex_values.specs.declared.policy.ForwardPolicy.{ForwardPolicy}
use Rattle.simplex_values.specs.declared.policy.ForwardPolicy.TheVariants as forwards
use Rattle.simplex_transcript.specs.declared.setup.Setup.{Setup}
use Rattle.simplex_script.specs.declared.change.Setting.{Setting}
use Rattle.simplex_script.specs.declared.change.Setting.TheVariants as settings
use Rattle.simplex_script.specs.declared.change.Change.{Change}
use Rattle.simplex_script.specs.declared.change.Change.TheVariants as changes
use Rattle.simplex_names.specs.Numbers.{number_of}
use Rattle.simplex_script.specs.Names.{verdict_of}

abbrev pub setting_of : List ℕ → Option Setting
setting_of name =
    if bytes_eq name (codes "epoch") then Some settings.Epoch else
    if bytes_eq name (codes "key_base") then Some settings.KeyBase else
    if bytes_eq name (codes "term") then Some settings.Term else
    if bytes_eq name (codes "lookahead") then Some settings.Lookahead else
    if bytes_eq name (codes "leader_timeout") then Some settings.LeaderTimeout else
    if bytes_eq name (codes "certification_timeout") then Some settings.CertificationTimeout else
    if bytes_eq name (codes "retry") then Some settings.Retry else
    if bytes_eq name (codes "stall") then Some settings.Stall else
    if bytes_eq name (codes "retention") then Some settings.Retention else
    if bytes_eq name (codes "mailbox") then Some settings.Mailbox else
    if bytes_eq name (codes "fetch_timeout") then Some settings.FetchTimeout else
    if bytes_eq name (codes "fetch_retry") then Some settings.FetchRetry else
    None

abbrev pub number_with : Option Setting → Option ℕ → Option Change
number_with (Some setting) (Some value) = Some (changes.Number setting value)
number_with _ _ = None

abbrev pub forward_of : List ℕ → Option ForwardPolicy
forward_of word =
    if bytes_eq word (codes "disabled") then Some forwards.Disabled else
    if bytes_eq word (codes "voters") then Some forwards.SilentVoters else
    if bytes_eq word (codes "leader") then Some forwards.SilentLeader else
    None

-- what a name and a value set
abbrev pub change_of : List ℕ → List ℕ → Option Change
change_of name value =
    if bytes_eq name (codes "track") then option_map (λ it. changes.Track it) (verdict_of value) else
    if bytes_eq name (codes "handoff") then option_map (λ it. changes.Handoff it) (verdict_of value) else
    if bytes_eq name (codes "forward") then option_map (λ it. changes.Forward it) (forward_of value) else
    number_with (setting_of name) (number_of value)

abbrev pub with_number : Setup → Setting → ℕ → Setup
with_number setup settings.Epoch value = record setup { epoch = value }
with_number setup settings.KeyBase value = record setup { key_base = value }
with_number setup settings.Term value = record setup { term = value }
with_number setup settings.Lookahead value = record setup { lookahead = value }
with_number setup settings.LeaderTimeout value = record setup { leader_timeout = value }
with_number setup settings.CertificationTimeout value = record setup { certification_timeout = value }
with_number setup settings.Retry value = record setup { retry = value }
with_number setup settings.Stall value = record setup { stall = Some value }
with_number setup settings.Retention value = record setup { retention = value }
with_number setup settings.Mailbox value = record setup { mailbox = value }
with_number setup settings.FetchTimeout value = record setup { fetch_timeout = value }
with_number setup settings.FetchRetry value = record setup { fetch_retry = value }

-- the setup with one item changed
abbrev pub changed : Setup → Change → Setup
changed setup (changes.Number setting value) = with_number setup setting value
changed setup (changes.Track value) = record setup { track = value }
changed setup (changes.Handoff value) = record setup { handoff = value }
changed setup (changes.Forward value) = record setup { forward = value }
