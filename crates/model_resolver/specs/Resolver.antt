-- The resolver: where its inputs leave it, and what a step gives.
use Rattle.std.specs.Prelude.{ℕ, ◌==◌, nat_lt, nat_le, Bool, true, false, not, ◌&&◌, ◌||◌, if◌then◌else◌, List, [], ◌∷◌, ◌++◌, length, map, filter, Option, Some, None, Result, Ok, Err}
use Rattle.std.specs.Option.{option_map}
use Rattle.std.specs.List.{filter_map}
use Rattle.simplex_values.specs.declared.proposal.Subject.{Subject}
use Rattle.simplex_values.specs.declared.ask.Kind.{Kind}
use Rattle.simplex_values.specs.declared.ask.Kind.TheVariants as kinds
use Rattle.simplex_values.specs.declared.ask.Until.TheVariants as untils
use Rattle.simplex_values.specs.declared.ask.Ask.{Ask}
use Rattle.simplex_values.specs.declared.ask.Outcome.{Outcome}
use Rattle.simplex_values.specs.declared.ask.Outcome.TheVariants as outcomes
use Rattle.simplex_values.specs.declared.ask.Resolution.TheVariants as resolutions
use Rattle.simplex_values.specs.declared.feedback.Feedback.{Feedback}
use Rattle.simplex_values.specs.declared.feedback.Feedback.TheVariants as feedback
use Rattle.simplex_values.specs.Covers.{covers}
use Rattle.simplex_wire.specs.declared.attestation.Attestation.{Attestation}
use Rattle.simplex_wire.specs.declared.error.DecodeError.{DecodeError}
use Rattle.simplex_wire.specs.declared.certificate.Certificate.{Certificate}
use Rattle.simplex_wire.specs.declared.certificate.Certificate.TheVariants as certificates
use Rattle.simplex_wire.specs.Format.{whole}
use Rattle.simplex_wire.specs.Message as format
use Rattle.simplex_wire.specs.Certified.{is_certified}
use Rattle.simplex_wire.specs.Fields.{certificate_subject, certificate_signatures, subject_round}
use Rattle.model_rules.specs.declared.effect.Effect.{Effect}
use Rattle.model_rules.specs.declared.effect.Effect.TheVariants as effects
use Rattle.model_rules.specs.Repair as repair
use Rattle.simplex_mailbox.specs.Mail.{Mail, no_mail, feedback_of, enqueued, received, after_recv, after_leave, holds_nothing}
use Rattle.simplex_messages.specs.declared.resolver.ResolverInput.{ResolverInput}
use Rattle.simplex_messages.specs.declared.resolver.ResolverInput.TheVariants as inputs
use Rattle.simplex_messages.specs.declared.resolver.MailboxMessage.{MailboxMessage}
use Rattle.simplex_messages.specs.declared.resolver.MailboxMessage.TheVariants as mail
use Rattle.simplex_messages.specs.declared.resolver.HandlerMessage.{HandlerMessage}
use Rattle.simplex_messages.specs.declared.resolver.HandlerMessage.TheVariants as handler
use Rattle.simplex_messages.specs.declared.voter.Message.TheVariants as voter
use Rattle.simplex_messages.specs.declared.handed.Handed.{Handed}
use Rattle.simplex_messages.specs.declared.handed.Handed.TheVariants as handed
use Rattle.simplex_messages.specs.declared.call.Call.{Call}
use Rattle.simplex_messages.specs.declared.call.Call.TheVariants as calls
use Rattle.simplex_messages.specs.declared.step.StepOut.{StepOut}
use Rattle.simplex_messages.specs.Policies.{certificate_view, has_left, handler_leave, handler_handled}
use Rattle.model_resolver.specs.declared.config.FetchConfig.{FetchConfig}
use Rattle.model_resolver.specs.declared.config.Fetch.{Fetch}
use Rattle.model_resolver.specs.declared.retire.Retire.{Retire}
use Rattle.model_resolver.specs.declared.retire.Retire.TheVariants as retires
use Rattle.model_resolver.specs.declared.out.Out.{Out}
use Rattle.model_resolver.specs.declared.out.Out.TheVariants as outs
use Rattle.model_resolver.specs.Fetcher as fetch
use Rattle.model_resolver.specs.Views.{next_deadline}
use Rattle.model_resolver.specs.declared.sending.Sending.{Sending}
use Rattle.model_resolver.specs.Sends.{sending, placed, send_calls}

-- what a resolver was made with
pub record Made : Type 0 where
  pub verifies : Subject → Attestation → Bool
  pub members : ℕ
  pub epoch : ℕ
  pub term : ℕ
  pub handler_size : ℕ
  pub fetching : FetchConfig

-- what a resolver is given: a step's input and clock, that a message is taken from its handler's mailbox, or that a
-- member was blocked by others. A history is a list of these, the newest first
pub data Given : Type 0 where
  Stepped : (input : ResolverInput) → (now : ℕ) → Given
  HandlerTaken : Given
  Blocked : (member : ℕ) → Given

-- where a resolver is between two steps: the calls of its repair state, its fetcher, and its handler's mailbox
pub record Standing : Type 0 where
  pub held : List repair.RepairCall
  pub fetcher : fetch.Machine
  pub handler : Mail HandlerMessage

unfoldable pub at_first : Made → Standing
at_first made = record { held = []; fetcher = fetch.no_fetches made.fetching; handler = no_mail made.handler_size }

-- what a step has done so far
pub record Doing : Type 0 where
  pub standing : Standing
  pub handed : List Handed
  -- the blocks
  pub blocks : List Call
  -- the sends, in falling order of view
  pub sends : List Sending

abbrev pub begun : Standing → Doing
begun standing = record { standing = standing; handed = []; blocks = []; sends = [] }

abbrev pub with_fetcher : fetch.Machine → Doing → Doing
with_fetcher fetcher doing = record doing { standing = record doing.standing { fetcher = fetcher } }

-- ---- what a fetcher wants

-- what goes outside: a block, or a send
unfoldable pub called : Out → Doing → Doing
called (outs.Send to bytes) doing = record doing { sends = placed (sending to bytes) doing.sends }
called (outs.Block member cause) doing = record doing { blocks = doing.blocks ++ calls.Block member cause ∷ [] }
called _ doing = doing

unfoldable pub called_all : List Out → Doing → Doing
called_all [] doing = doing
called_all (out ∷ others) doing = called_all others (called out doing)

-- a message is put into the handler's mailbox
unfoldable pub putting : HandlerMessage → Doing → Doing
putting message doing = record doing {
  standing = record doing.standing { handler = enqueued handler_handled doing.standing.handler message };
  handed = doing.handed ++ handed.Handler message ∷ [];
}

-- the requester of this number left
unfoldable pub leaving : ℕ → Doing → Doing
leaving id doing =
    record doing { standing = record doing.standing { handler = after_leave handler_leave id doing.standing.handler } }

-- a peer's request is answered
unfoldable pub serving : ℕ → Option (List ℕ) → Doing → Doing
serving id bytes doing =
    let served = fetch.served id bytes doing.standing.fetcher in
    called_all served.outs (with_fetcher served.fetcher doing)

abbrev pub is_backoff : Feedback → Bool
is_backoff feedback.Backoff = true
is_backoff _ = false

-- a peer's request goes to the handler, where no room means that it is answered with an error
unfoldable pub requested : ℕ → ℕ → Doing → Doing
requested id view doing =
    if is_backoff (feedback_of doing.standing.handler) then serving id None (putting (handler.Produce id view) doing)
    else putting (handler.Produce id view) doing

-- deliveries and requests go to the handler, and the others outside
unfoldable pub minded : Out → Doing → Doing
minded (outs.Deliver id view bytes asks) doing = putting (handler.Deliver id view bytes asks true) doing
minded (outs.Produce id view) doing = requested id view doing
minded (outs.Left id) doing = leaving id doing
minded (outs.Send to bytes) doing = called (outs.Send to bytes) doing
minded (outs.Block member cause) doing = called (outs.Block member cause) doing

unfoldable pub minded_all : List Out → Doing → Doing
minded_all [] doing = doing
minded_all (out ∷ others) doing = minded_all others (minded out doing)

-- the fetcher after a call of it, and what it wants
abbrev pub after_fetcher : fetch.After → Doing → Doing
after_fetcher after doing = minded_all after.outs (with_fetcher after.fetcher doing)

-- ---- calls of the fetcher

unfoldable pub judging : ℕ → ℕ → Option Outcome → Doing → Doing
judging now id verdict doing = after_fetcher (fetch.judged id verdict now doing.standing.fetcher) doing

unfoldable pub hearing : ℕ → List ℕ → ℕ → Doing → Doing
hearing sender bytes now doing = after_fetcher (fetch.heard sender bytes now doing.standing.fetcher) doing

unfoldable pub expiring : ℕ → Doing → Doing
expiring now doing = after_fetcher (fetch.expired now doing.standing.fetcher) doing

unfoldable pub retiring : Retire → Doing → Doing
retiring retire doing = after_fetcher (fetch.retained retire doing.standing.fetcher) doing

unfoldable pub retiring_all : List Retire → Doing → Doing
retiring_all [] doing = doing
retiring_all (retire ∷ others) doing = retiring_all others (retiring retire doing)

unfoldable pub fetching : List fetch.Fetching → ℕ → Doing → Doing
fetching fetchings now doing = after_fetcher (fetch.fetched fetchings now doing.standing.fetcher) doing

-- ---- what follows from certificates and verdicts

-- the asks that an effect is the end of
abbrev pub retire_of : Effect → Option Retire
retire_of (effects.Settled kind start end) = Some (retires.Settled kind start end)
retire_of (effects.Finalized view) = Some (retires.Finalized view)
retire_of (effects.Raised view) = Some (retires.Floor view)
retire_of (effects.Fetch view) = None

-- the ask for a gap
abbrev pub backfill : ℕ → Fetch
backfill view = record { view = view; ask = record { kind = kinds.Nullification; until = untils.Floor } }

-- the ask that an effect is the begin of
abbrev pub fetch_of : Effect → Option Fetch
fetch_of (effects.Fetch view) = Some (backfill view)
fetch_of _ = None

-- first the retiring, then the fetches
unfoldable pub with_effects : ℕ → List Effect → Doing → Doing
with_effects now follows doing =
    fetching (map fetch.of_all (filter_map fetch_of follows)) now (retiring_all (filter_map retire_of follows) doing)

abbrev pub recorded : repair.RepairCall → Doing → Doing
recorded call doing = record doing { standing = record doing.standing { held = call ∷ doing.standing.held } }

-- a call of the repair state, and what follows
unfoldable pub repairing : Made → ℕ → repair.RepairCall → Doing → Doing
repairing made now call doing =
    with_effects now (repair.effects_of made.term doing.standing.held call) (recorded call doing)

-- ---- judging what was fetched

abbrev pub certificate_epoch : Certificate → ℕ
certificate_epoch certificate = (subject_round (certificate_subject certificate)).epoch

-- whether a certificate can be an answer for the view: a nullification that covers it, another of this view or a later one
abbrev pub may_answer : ℕ → ℕ → Certificate → Bool
may_answer term view (certificates.Nullification n) = covers term n.round.view view
may_answer term view certificate = nat_le view (certificate_view certificate)

unfoldable pub is_valid : Made → ℕ → Certificate → Bool
is_valid made view certificate =
    may_answer made.term view certificate
    && certificate_epoch certificate == made.epoch
    && is_certified (made.verifies (certificate_subject certificate)) made.members (certificate_signatures certificate)

abbrev pub if_valid : Made → ℕ → Result Certificate DecodeError → Option Certificate
if_valid made view (Err fault) = None
if_valid made view (Ok certificate) = if is_valid made view certificate then Some certificate else None

-- the certificate that these bytes are, where it is an answer for the view
unfoldable pub validated : Made → ℕ → List ℕ → Option Certificate
validated made view bytes = if_valid made view (whole format.certificate bytes)

-- how many of the asks for the view are settled
unfoldable pub settled_count : ℕ → List repair.RepairCall → ℕ → List Ask → ℕ
settled_count term held view asks = length (filter (λ ask. repair.is_settled term held view ask.kind) asks)

-- whether it is a notarization of a view that failed
unfoldable pub is_excepted : List repair.RepairCall → Certificate → Bool
is_excepted held (certificates.Notarization n) = repair.is_uncertifiable held n.proposal.round.view
is_excepted held _ = false

-- the verdict where so many of all asks were settled before, and so many are after
unfoldable pub verdict_of : (all before after : ℕ) → Option Outcome
verdict_of all before after =
    if before == all then None
    else if after == all then Some (outcomes.Resolved resolutions.Complete)
    else if nat_lt before after then Some (outcomes.Resolved resolutions.Partial)
    else Some outcomes.Unresolved

abbrev pub handing : Certificate → Doing → Doing
handing certificate doing = record doing { handed = doing.handed ++ handed.Voter (voter.Verified certificate) ∷ [] }

-- a valid answer that changes nothing
unfoldable pub passed_over : Made → ℕ → ℕ → ℕ → List Ask → Doing → Doing
passed_over made now id view asks doing =
    let count = settled_count made.term doing.standing.held view asks in
    judging now id (verdict_of (length asks) count count) doing

-- a valid answer is recorded. The fetcher is given the verdict first, then the retiring and the fetches, and then the
-- certificate is for the voter
unfoldable pub accepted : Made → ℕ → ℕ → ℕ → List Ask → Certificate → Doing → Doing
accepted made now id view asks certificate doing =
    let before = doing.standing.held in
    let call = repair.Updated certificate in
    let verdict = verdict_of (length asks) (settled_count made.term before view asks)
    (settled_count made.term (call ∷ before) view asks) in
    handing certificate
    (with_effects now (repair.effects_of made.term before call) (judging now id verdict (recorded call doing)))

unfoldable pub answered : Made → ℕ → ℕ → ℕ → List Ask → Option Certificate → Doing → Doing
answered made now id view asks None doing = judging now id (Some outcomes.Invalid) doing
answered made now id view asks (Some certificate) doing =
    if is_excepted doing.standing.held certificate then passed_over made now id view asks doing
    else accepted made now id view asks certificate doing

unfoldable pub delivered : Made → ℕ → ℕ → ℕ → List ℕ → List Ask → Doing → Doing
delivered made now id view bytes asks doing =
    if repair.is_key_settled made.term doing.standing.held view then judging now id (Some outcomes.Ignored) doing
    else answered made now id view asks (validated made view bytes) doing

-- ---- the other inputs

unfoldable pub produced : Made → ℕ → ℕ → Doing → Doing
produced made id view doing =
    serving id (option_map format.certificate.spelling (repair.produced made.term doing.standing.held view)) doing

-- an ask for a proposal's ancestry, of the target alone where there is one
abbrev pub ancestry : ℕ → Kind → Option ℕ → fetch.Fetching
ancestry view kind target =
    record { view = view; arrival = record { ask = record { kind = kind; until = untils.Finalized }; target = target } }

unfoldable pub resolving : Made → ℕ → ℕ → ℕ → Kind → Option ℕ → Doing → Doing
resolving made now proposal view kind target doing =
    if nat_le proposal view || repair.is_settled made.term doing.standing.held view kind then doing
    else fetching (ancestry view kind target ∷ []) now doing

unfoldable pub took_mail : Made → MailboxMessage → ℕ → Doing → Doing
took_mail made (mail.Updated certificate) now doing = repairing made now (repair.Updated certificate) doing
took_mail made (mail.Certified notarization success) now doing =
    repairing made now (repair.Certified notarization success) doing
took_mail made (mail.Resolve proposal view kind target) now doing = resolving made now proposal view kind target doing
took_mail made mail.Replayed now doing = repairing made now repair.Replayed doing

unfoldable pub took_handled : Made → HandlerMessage → ℕ → Doing → Doing
took_handled made (handler.Deliver id view bytes asks waiting) now doing =
    if waiting then delivered made now id view bytes asks doing else doing
took_handled made (handler.Produce id view) now doing = produced made id view doing

unfoldable pub acted : Made → ResolverInput → ℕ → Doing → Doing
acted made (inputs.Mail message) now doing = took_mail made message now doing
acted made (inputs.Handler message) now doing = took_handled made message now doing
acted made (inputs.Packet sender bytes) now doing = hearing sender bytes now doing
acted made inputs.Timer now doing = expiring now doing

-- ---- steps

unfoldable pub step : Made → Standing → ResolverInput → ℕ → Doing
step made standing input now = acted made input now (begun standing)

-- the handler's mailbox after its first message was taken
unfoldable pub after_taking : Standing → Standing
after_taking standing = record standing { handler = after_recv has_left standing.handler }

-- its fetcher asks the member no more
unfoldable pub after_blocking : ℕ → Standing → Standing
after_blocking member standing = record standing { fetcher = fetch.blocking member standing.fetcher }

-- where a resolver is, after what it was given since it was made
unfoldable pub standing_after : Made → List Given → Standing
standing_after made [] = at_first made
standing_after made (Stepped input now ∷ past) = (step made (standing_after made past) input now).standing
standing_after made (HandlerTaken ∷ past) = after_taking (standing_after made past)
standing_after made (Blocked member ∷ past) = after_blocking member (standing_after made past)

-- the blocks, and then the sends in rising order of view
abbrev pub calls_of : Doing → List Call
calls_of doing = doing.blocks ++ send_calls doing.sends

-- what the step with this input gives behind those
unfoldable pub step_out : Made → List Given → ResolverInput → ℕ → StepOut
step_out made past input now =
    let doing = step made (standing_after made past) input now in
    record { added = []; asked = []; dropped = []; handed = doing.handed; calls = calls_of doing }

-- the message that is taken from the handler's mailbox behind them, whether there is one, when the timer is due, and whom
-- its fetcher asks no more
unfoldable pub handler_message : Made → List Given → Option HandlerMessage
handler_message made past = received (standing_after made past).handler

unfoldable pub holds_handled : Made → List Given → Bool
holds_handled made past = not (holds_nothing (standing_after made past).handler)

unfoldable pub deadline_after : Made → List Given → Option ℕ
deadline_after made past = next_deadline (standing_after made past).fetcher.views

unfoldable pub blocked_after : Made → List Given → List ℕ
blocked_after made past = (standing_after made past).fetcher.blocked
