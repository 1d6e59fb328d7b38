-- The words for what has a name.
use Rattle.std.specs.Prelude.{ℕ, List, codes, Option, Some, None, if◌then◌else◌}
use Rattle.std.specs.Str.{bytes_eq}
use Rattle.simplex_values.specs.declared.plan.Channel.{Channel}
use Rattle.simplex_values.specs.declared.plan.Channel.TheVariants as channels
use Rattle.simplex_transcript.specs.declared.event.StepSource.{StepSource}
use Rattle.simplex_transcript.specs.declared.event.StepSource.TheVariants as sources
use Rattle.simplex_transcript.specs.declared.setup.MemberKind.{MemberKind}
use Rattle.simplex_transcript.specs.declared.setup.MemberKind.TheVariants as kinds

abbrev pub source_word : StepSource → List ℕ
source_word sources.Batcher = codes "batcher"
source_word sources.Voter = codes "voter"
source_word sources.Timer = codes "timer"
source_word sources.Propose = codes "propose"
source_word sources.Verify = codes "verify"
source_word sources.Certify = codes "certify"
source_word sources.Resolver = codes "resolver"
source_word sources.Handler = codes "handler"
source_word sources.Fetch = codes "fetch"

abbrev pub source_of : List ℕ → Option StepSource
source_of word =
    if bytes_eq word (codes "batcher") then Some sources.Batcher else
    if bytes_eq word (codes "voter") then Some sources.Voter else
    if bytes_eq word (codes "timer") then Some sources.Timer else
    if bytes_eq word (codes "propose") then Some sources.Propose else
    if bytes_eq word (codes "verify") then Some sources.Verify else
    if bytes_eq word (codes "certify") then Some sources.Certify else
    if bytes_eq word (codes "resolver") then Some sources.Resolver else
    if bytes_eq word (codes "handler") then Some sources.Handler else
    if bytes_eq word (codes "fetch") then Some sources.Fetch else
    None

abbrev pub channel_word : Channel → List ℕ
channel_word channels.Vote = codes "vote"
channel_word channels.Certificate = codes "certificate"
channel_word channels.Resolver = codes "resolver"

abbrev pub channel_of : List ℕ → Option Channel
channel_of word =
    if bytes_eq word (codes "vote") then Some channels.Vote else
    if bytes_eq word (codes "certificate") then Some channels.Certificate else
    if bytes_eq word (codes "resolver") then Some channels.Resolver else
    None

-- a kind of member that has a word of its own; an outdated one is told with its views
abbrev pub named_kind_of : List ℕ → Option MemberKind
named_kind_of word =
    if bytes_eq word (codes "honest") then Some kinds.Honest else
    if bytes_eq word (codes "silent") then Some kinds.Silent else
    if bytes_eq word (codes "conflicter") then Some kinds.Conflicter else
    if bytes_eq word (codes "equivocator") then Some kinds.Equivocator else
    if bytes_eq word (codes "impersonator") then Some kinds.Impersonator else
    if bytes_eq word (codes "nuller") then Some kinds.Nuller else
    if bytes_eq word (codes "nullify_only") then Some kinds.NullifyOnly else
    if bytes_eq word (codes "reconfigurer") then Some kinds.Reconfigurer else
    if bytes_eq word (codes "corrupt") then Some kinds.Corrupt else
    if bytes_eq word (codes "unrecovering") then Some kinds.Unrecovering else
    if bytes_eq word (codes "twin") then Some kinds.Twin else
    None
