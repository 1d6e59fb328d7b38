-- The JSON form of what a node took.
use Rattle.std.specs.Prelude.{ℕ, List, codes, Option, Some, None, option_map, if◌then◌else◌}
use Rattle.std.specs.Option.{option_or}
use Rattle.std.specs.Str.{bytes_eq}
use Rattle.serde_json.specs.Data.{Data, null, boolean, string, array, object, no_items, item, no_members, member}
use Rattle.serde_json.specs.Find.{get, at, as_str}
use Rattle.simplex_values.specs.declared.answer.Answer.{Answer}
use Rattle.simplex_values.specs.declared.answer.Answer.TheVariants as answers
use Rattle.simplex_values.specs.declared.answer.Handoff.TheVariants as handoffs
use Rattle.simplex_values.specs.declared.proposal.Proposal.{Proposal}
use Rattle.simplex_values.specs.declared.round.Round.{Round}
use Rattle.simplex_values.specs.declared.timeout.TimeoutReason.{TimeoutReason}
use Rattle.simplex_values.specs.declared.timeout.TimeoutReason.TheVariants as reasons
use Rattle.simplex_form.specs.Form.{◌>>=◌, has_members, has_items, is_null, number_of}
use Rattle.simplex_form.specs.Events.{digest_of, ref_of, answer_of}
use Rattle.model_audit.specs.declared.record.AuditTook.{AuditTook}
use Rattle.model_audit.specs.declared.record.AuditTook.TheVariants as taken
use Rattle.simplex_audit_form.specs.Pieces.{certificate_of, number_data, hex_data, ref_data, certificate_data}

-- ---- what is read

-- [epoch, view, parent, HEX32]
abbrev pub proposal_of : Data → Option Proposal
proposal_of d = if has_items 4 d then (do
  epoch ← at 0 d >>= number_of
  view ← at 1 d >>= number_of
  parent ← at 2 d >>= number_of
  text ← at 3 d >>= as_str
  payload ← digest_of text
  Some (record { round = record { epoch = epoch; view = view }; parent = parent; payload = payload })) else None

-- why a view is given up, by the name of the reason
abbrev pub reason_of : List ℕ → Option TimeoutReason
reason_of name =
    if bytes_eq name (codes "LeaderTimeout") then Some reasons.LeaderTimeout else
    if bytes_eq name (codes "CertificationTimeout") then Some reasons.CertificationTimeout else
    if bytes_eq name (codes "StallTimeout") then Some reasons.StallTimeout else
    if bytes_eq name (codes "LeaderNullify") then Some reasons.LeaderNullify else
    if bytes_eq name (codes "Inactivity") then Some reasons.Inactivity else
    if bytes_eq name (codes "MissingProposal") then Some reasons.MissingProposal else
    if bytes_eq name (codes "IgnoredProposal") then Some reasons.IgnoredProposal else
    if bytes_eq name (codes "InvalidProposal") then Some reasons.InvalidProposal else
    if bytes_eq name (codes "FailedCertification") then Some reasons.FailedCertification else
    None

-- [epoch, view, REASON]
abbrev pub timeout_of : Data → Option AuditTook
timeout_of d = if has_items 3 d then (do
  epoch ← at 0 d >>= number_of
  view ← at 1 d >>= number_of
  name ← at 2 d >>= as_str
  reason ← reason_of name
  Some (taken.Timeout (record { epoch = epoch; view = view }) reason)) else None

-- "mail", "timer" or "floor"
abbrev pub named_took_of : List ℕ → Option AuditTook
named_took_of name =
    if bytes_eq name (codes "mail") then Some taken.OtherMail else
    if bytes_eq name (codes "timer") then Some taken.Timer else
    if bytes_eq name (codes "floor") then Some taken.Floor else
    None

-- {"packet": REF}
abbrev pub packet_took_of : Data → Option AuditTook
packet_took_of d = option_map (λ ref. taken.Packet ref) (get (codes "packet") d >>= ref_of)

-- {"proposal": PROPOSAL}
abbrev pub proposal_took_of : Data → Option AuditTook
proposal_took_of d = option_map (λ proposal. taken.Proposal proposal) (get (codes "proposal") d >>= proposal_of)

-- {"timeout": TIMEOUT}
abbrev pub timeout_took_of : Data → Option AuditTook
timeout_took_of d = get (codes "timeout") d >>= timeout_of

-- {"certificate": HEX}
abbrev pub certificate_took_of : Data → Option AuditTook
certificate_took_of d =
    option_map (λ certificate. taken.Certificate certificate) (get (codes "certificate") d >>= certificate_of)

-- what is written as an object of one member
abbrev pub single_took_of : Data → Option AuditTook
single_took_of d =
    option_or (packet_took_of d) (option_or (proposal_took_of d)
    (option_or (timeout_took_of d) (certificate_took_of d)))

-- {"request": REF, "answer": ANSWER}
abbrev pub request_took_of : Data → Option AuditTook
request_took_of d = do
  request ← get (codes "request") d >>= ref_of
  answer ← get (codes "answer") d >>= answer_of
  Some (taken.Request request answer)

-- an object of one member, or of two
abbrev pub valued_took_of : Data → Option AuditTook
valued_took_of d =
    if has_members 1 d then single_took_of d else
    if has_members 2 d then request_took_of d else
    None

-- a text, or else an object
abbrev pub took_or : Data → Option (List ℕ) → Option AuditTook
took_or d (Some name) = named_took_of name
took_or d None = valued_took_of d

-- null, where nothing was taken, or what was
abbrev pub took_of : Data → Option AuditTook
took_of d = if is_null d then Some taken.Nothing else took_or d (as_str d)

-- ---- what is written

abbrev pub proposal_data : Proposal → Data
proposal_data p =
    array (item (number_data p.round.epoch)
    (item (number_data p.round.view) (item (number_data p.parent) (item (hex_data p.payload) no_items))))

abbrev pub reason_name : TimeoutReason → List ℕ
reason_name reasons.LeaderTimeout = codes "LeaderTimeout"
reason_name reasons.CertificationTimeout = codes "CertificationTimeout"
reason_name reasons.StallTimeout = codes "StallTimeout"
reason_name reasons.LeaderNullify = codes "LeaderNullify"
reason_name reasons.Inactivity = codes "Inactivity"
reason_name reasons.MissingProposal = codes "MissingProposal"
reason_name reasons.IgnoredProposal = codes "IgnoredProposal"
reason_name reasons.InvalidProposal = codes "InvalidProposal"
reason_name reasons.FailedCertification = codes "FailedCertification"

abbrev pub timeout_data : Round → TimeoutReason → Data
timeout_data round reason =
    array (item (number_data round.epoch) (item (number_data round.view) (item (string (reason_name reason)) no_items)))

abbrev pub single : List ℕ → Data → Data
single name d = object (member name d no_members)

abbrev pub payload_data : List ℕ → List ℕ → Data
payload_data name payload = single name (hex_data payload)

abbrev pub answer_data : Answer → Data
answer_data (answers.Payload payload) = payload_data (codes "payload") payload
answer_data (answers.Handoff (handoffs.Stage payload)) = payload_data (codes "stage") payload
answer_data (answers.Handoff (handoffs.Vote payload)) = payload_data (codes "vote") payload
answer_data (answers.Handoff handoffs.Wait) = string (codes "wait")
answer_data (answers.Verdict good) = single (codes "verdict") (boolean good)
answer_data answers.Closed = string (codes "closed")

abbrev pub took_data : AuditTook → Data
took_data taken.Nothing = null
took_data (taken.Packet ref) = single (codes "packet") (ref_data ref)
took_data (taken.Proposal proposal) = single (codes "proposal") (proposal_data proposal)
took_data (taken.Timeout round reason) = single (codes "timeout") (timeout_data round reason)
took_data (taken.Certificate certificate) = single (codes "certificate") (certificate_data certificate)
took_data taken.OtherMail = string (codes "mail")
took_data (taken.Request ref answer) =
    object (member (codes "answer") (answer_data answer) (member (codes "request") (ref_data ref) no_members))
took_data taken.Timer = string (codes "timer")
took_data taken.Floor = string (codes "floor")
