-- The JSON form of a call.
use Rattle.std.specs.Prelude.{ℕ, List, codes, Option, Some, None, option_map, if◌then◌else◌}
use Rattle.std.specs.Option.{option_or}
use Rattle.std.specs.Str.{bytes_eq}
use Rattle.serde_json.specs.Data.{Data, string}
use Rattle.serde_json.specs.Find.{get, at, as_str}
use Rattle.simplex_wire.specs.declared.artifact.Artifact.{Artifact}
use Rattle.simplex_wire.specs.Format.{whole}
use Rattle.simplex_wire.specs.Artifact as format
use Rattle.simplex_form.specs.Form.{◌>>=◌, has_members, has_items, number_of, number_at, made}
use Rattle.simplex_form.specs.Events.{hex_of}
use Rattle.simplex_names.specs.Names.{channel_word, channel_of}
use Rattle.model_audit.specs.declared.record.AuditCall.{AuditCall}
use Rattle.model_audit.specs.declared.record.AuditCall.TheVariants as audit
use Rattle.simplex_audit_form.specs.Pieces.{certificate_of, number_data, hex_data, pair_data, certificate_data}
use Rattle.simplex_audit_form.specs.Took.{single}

-- ---- what is read

-- HEX of a record of a journal
abbrev pub artifact_of : Data → Option Artifact
artifact_of d = hex_of d >>= (λ bytes. made (whole format.artifact bytes))

-- [section, HEX]
abbrev pub append_of : Data → Option AuditCall
append_of d = if has_items 2 d then (do
  section ← at 0 d >>= number_of
  artifact ← at 1 d >>= artifact_of
  Some (audit.Append section artifact)) else None

-- [CHANNEL, HEX]
abbrev pub send_of : Data → Option AuditCall
send_of d = if has_items 2 d then (do
  name ← at 0 d >>= as_str
  channel ← channel_of name
  bytes ← at 1 d >>= hex_of
  Some (audit.Send channel bytes)) else None

-- {"append": [section, HEX]}
abbrev pub append_call_of : Data → Option AuditCall
append_call_of d = get (codes "append") d >>= append_of

-- {"sync": section}
abbrev pub sync_call_of : Data → Option AuditCall
sync_call_of d = option_map (λ section. audit.Sync section) (number_at (codes "sync") d)

-- {"prune": least}
abbrev pub prune_call_of : Data → Option AuditCall
prune_call_of d = option_map (λ least. audit.Prune least) (number_at (codes "prune") d)

-- {"send": [CHANNEL, HEX]}
abbrev pub send_call_of : Data → Option AuditCall
send_call_of d = get (codes "send") d >>= send_of

-- {"report": HEX}
abbrev pub report_call_of : Data → Option AuditCall
report_call_of d = option_map (λ certificate. audit.Report certificate) (get (codes "report") d >>= certificate_of)

-- what is written as an object of one member
abbrev pub valued_call_of : Data → Option AuditCall
valued_call_of d = if has_members 1 d then
    option_or (append_call_of d) (option_or (sync_call_of d)
    (option_or (prune_call_of d) (option_or (send_call_of d) (report_call_of d)))) else None

abbrev pub named_call_of : List ℕ → Option AuditCall
named_call_of name = if bytes_eq name (codes "other") then Some audit.Other else None

-- a text, or else an object
abbrev pub call_or : Data → Option (List ℕ) → Option AuditCall
call_or d (Some name) = named_call_of name
call_or d None = valued_call_of d

-- a call of any kind
abbrev pub call_of : Data → Option AuditCall
call_of d = call_or d (as_str d)

-- ---- what is written

abbrev pub call_data : AuditCall → Data
call_data (audit.Append section artifact) =
    single (codes "append") (pair_data (number_data section) (hex_data (format.artifact.spelling artifact)))
call_data (audit.Sync section) = single (codes "sync") (number_data section)
call_data (audit.Prune least) = single (codes "prune") (number_data least)
call_data (audit.Send channel bytes) =
    single (codes "send") (pair_data (string (channel_word channel)) (hex_data bytes))
call_data (audit.Report certificate) = single (codes "report") (certificate_data certificate)
call_data audit.Other = string (codes "other")
