-- Why a line of a script is refused, in words.
use Rattle.std.specs.Prelude.{ℕ, List, ◌++◌, codes, decimal}
use Rattle.simplex_values.specs.declared.plan.Channel.{Channel}
use Rattle.simplex_transcript.specs.declared.node.Node.{Node}
use Rattle.simplex_script.specs.declared.command.Question.{Question}
use Rattle.simplex_script.specs.declared.command.Whom.{Whom}
use Rattle.simplex_script.specs.declared.command.Whom.TheVariants as whoms
use Rattle.simplex_script.specs.declared.fault.Fault.{Fault}
use Rattle.simplex_script.specs.declared.fault.Fault.TheVariants as faults
use Rattle.simplex_script.specs.declared.fault.Form.{Form}
use Rattle.simplex_script.specs.declared.fault.Form.TheVariants as forms
use Rattle.simplex_names.specs.Names.{channel_word}
use Rattle.simplex_script.specs.Names.{question_word}

-- the words that a command takes
abbrev pub form_text : Form → List ℕ
form_text forms.Network =
    codes "network KIND .., as honest, silent, conflicter, equivocator, impersonator, nuller, nullify_only, outdated:VIEWS, reconfigurer, corrupt, unrecovering or twin"
form_text forms.Set =
    codes "set NAME VALUE: a number for epoch, key_base, term, lookahead, leader_timeout, certification_timeout, retry, stall, retention, mailbox, fetch_timeout or fetch_retry, yes or no for track or handoff, and disabled, voters or leader for forward"
form_text forms.Start = codes "start NODE .. or start NODE cut CALL keep RECORDS"
form_text forms.Propose = codes "propose NODE BYTE, the byte of two digits as aa"
form_text forms.Verify = codes "verify NODE yes, or all in place of NODE, or no in place of yes"
form_text forms.Certify = codes "certify NODE yes, or all in place of NODE, or no in place of yes"
form_text forms.Deliver = codes "deliver FROM->TO CHANNEL, a channel vote, certificate or resolver"
form_text forms.Resend = codes "resend FROM->TO CHANNEL, a channel vote, certificate or resolver"
form_text forms.Lose = codes "lose FROM->TO CHANNEL, a channel vote, certificate or resolver"
form_text forms.Miss = codes "miss NODE .."
form_text forms.Step =
    codes "step NODE SOURCE or step NODE SOURCE cut CALL keep RECORDS, a source batcher, voter, timer, propose, verify, certify, resolver, handler or fetch"
form_text forms.Tick = codes "tick MILLISECONDS"
form_text forms.Crash = codes "crash NODE .."
form_text forms.Settle = codes "settle or settle NODE .."

-- a node, as 0.0
abbrev pub node_text : Node → List ℕ
node_text node = decimal node.member ++ (codes "." ++ decimal node.half)

-- of which packet between which nodes it is so
abbrev pub packet_text : Channel → (from to : Node) → (which : List ℕ) → List ℕ
packet_text channel from to which =
    codes "no " ++ channel_word channel ++ codes " from " ++ node_text from ++ codes " to " ++ node_text to
    ++ codes " " ++ which

-- of which kind no request is open, of any node or of one
abbrev pub request_text : Question → Whom → List ℕ
request_text question whoms.All = codes "no request to " ++ (question_word question ++ codes " is open")
request_text question (whoms.One node) =
    codes "no request of " ++ (node_text node ++ (codes " to " ++ (question_word question ++ codes " is open")))

-- why a line is refused
abbrev pub fault_text : Fault → List ℕ
fault_text faults.NoCommand =
    codes "its first word is none of network, set, start, propose, verify, certify, deliver, resend, lose, miss, step, tick, crash and settle"
fault_text (faults.Words form) = codes "it is not of the form: " ++ form_text form
fault_text faults.NoNetwork = codes "the line on the network has to come first"
fault_text faults.Late = codes "it has to stand once, before the first event"
fault_text (faults.NoPacket from to channel) = packet_text channel from to (codes "is open")
fault_text (faults.NotDelivered from to channel) = packet_text channel from to (codes "was delivered")
fault_text (faults.NoProposal node) = node_text node ++ codes " is not asked for a proposal"
fault_text (faults.NoRequest question whom) = request_text question whom
fault_text (faults.Restless events) = codes "something is left to do behind " ++ decimal events ++ codes " events"
