-- An engine's history: what it took, and what came of it, the newest first. What its mailboxes hold, what each actor
-- was given and whether it runs are each a recursion of its own on that list.
use Rattle.std.specs.Prelude.{ℕ, ◌-◌, ◌&&◌, nat_lt, nat_le, Bool, true, false, List, [], ◌∷◌, ◌++◌, length, map, reverse, take, Option, Some, None, if◌then◌else◌}
use Rattle.std.specs.List.{filter_map}
use Rattle.std.specs.Option.{option_map}
use Rattle.simplex_values.specs.declared.answer.Answer.{Answer}
use Rattle.simplex_values.specs.declared.plan.Channel.{Channel}
use Rattle.simplex_values.specs.declared.plan.Channel.TheVariants as channels
use Rattle.simplex_journal.specs.Journal.{Section}
use Rattle.simplex_mailbox.specs.Mail.{Mail, no_mail, all_enqueued, received, after_recv}
use Rattle.simplex_messages.specs.declared.batcher.Message as batcher_message
use Rattle.simplex_messages.specs.declared.batcher.BatcherInput.{BatcherInput}
use Rattle.simplex_messages.specs.declared.batcher.BatcherInput.TheVariants as batcher_inputs
use Rattle.simplex_messages.specs.declared.voter.Message as voter_message
use Rattle.simplex_messages.specs.declared.voter.VoterInput.{VoterInput}
use Rattle.simplex_messages.specs.declared.voter.VoterInput.TheVariants as voter_inputs
use Rattle.simplex_messages.specs.declared.resolver.MailboxMessage.{MailboxMessage}
use Rattle.simplex_messages.specs.declared.resolver.HandlerMessage.{HandlerMessage}
use Rattle.simplex_messages.specs.declared.resolver.ResolverInput.{ResolverInput}
use Rattle.simplex_messages.specs.declared.resolver.ResolverInput.TheVariants as resolver_inputs
use Rattle.simplex_messages.specs.declared.call.Call.{Call}
use Rattle.simplex_messages.specs.declared.handed.Handed.{Handed}
use Rattle.simplex_messages.specs.declared.handed.Handed.TheVariants as handed
use Rattle.simplex_messages.specs.declared.step.Outcome.{Outcome}
use Rattle.simplex_messages.specs.declared.step.Outcome.TheVariants as outcomes
use Rattle.simplex_messages.specs.declared.step.Stop.{Stop}
use Rattle.simplex_messages.specs.declared.step.Stop.TheVariants as stops
use Rattle.simplex_messages.specs.declared.step.StepOut.{StepOut}
use Rattle.simplex_messages.specs.Step.{no_out, blocked_by_calls}
pub use Rattle.simplex_messages.specs.Handing.{for_batcher, for_voter, for_resolver}
use Rattle.simplex_messages.specs.Policies.{batcher_handled, voter_handled, resolver_handled}
use Rattle.simplex_transcript.specs.declared.event.StepSource.{StepSource}
use Rattle.simplex_transcript.specs.declared.event.StepSource.TheVariants as sources
use Rattle.model_steps.specs.Performed.{Performed}
use Rattle.model_steps.specs.Voter.{takes_answer}
use Rattle.model_steps.specs.VoterLife.{VoterMade, Given, Started, Stepped, Answered, place_of, start_given, step_given}
use Rattle.model_steps.specs.Batcher as batcher
use Rattle.model_resolver.specs.Asks.{holds_member}
use Rattle.model_resolver.specs.Views.{is_reached}
use Rattle.model_resolver.specs.Resolver as resolver

-- what an engine was made with: its voter, by the clock of its start; its batcher and its resolver; and how many messages
-- a mailbox has ready
pub record EngineMade : Type 0 where
  pub voter : ℕ → VoterMade
  pub batcher : batcher.Made
  pub resolver : resolver.Made
  pub capacity : ℕ

-- what an engine took
pub data Taken : Type 0 where
  -- its start
  Began : Taken
  -- a packet of the network
  Heard : (sender : ℕ) → (channel : Channel) → (bytes : List ℕ) → Taken
  -- what the source of a step held: for a mailbox the message
  Took : (source : StepSource) → (message : Option Handed) → Taken
  -- an answer of the application
  Replied : (number : ℕ) → (answer : Answer) → Taken

-- one item of the history: what was taken, when, with which order to stop, and what came of it
pub record Did : Type 0 where
  pub taken : Taken
  pub now : ℕ
  pub stop : Stop
  pub outcome : Outcome
  pub out : StepOut

-- ---- mailboxes

abbrev pub none_skipped : {M : Type 0} → M → Bool
none_skipped message = false

-- whether a message was taken from the batcher's mailbox, from the voter's, and from the resolver's
abbrev pub takes_from_batcher : Taken → Bool
takes_from_batcher (Took sources.Batcher (Some message)) = true
takes_from_batcher _ = false

abbrev pub takes_from_voter : Taken → Bool
takes_from_voter (Took sources.Voter (Some message)) = true
takes_from_voter _ = false

abbrev pub takes_from_resolver : Taken → Bool
takes_from_resolver (Took sources.Resolver (Some message)) = true
takes_from_resolver _ = false

unfoldable pub batcher_mail : EngineMade → List Did → Mail batcher_message.Message
batcher_mail made [] = no_mail made.capacity
batcher_mail made (did ∷ past) =
    all_enqueued batcher_handled
    (if takes_from_batcher did.taken then after_recv none_skipped (batcher_mail made past) else batcher_mail made past)
    (filter_map for_batcher did.out.handed)

unfoldable pub voter_mail : EngineMade → List Did → Mail voter_message.Message
voter_mail made [] = no_mail made.capacity
voter_mail made (did ∷ past) =
    all_enqueued voter_handled
    (if takes_from_voter did.taken then after_recv none_skipped (voter_mail made past) else voter_mail made past)
    (filter_map for_voter did.out.handed)

unfoldable pub resolver_mail : EngineMade → List Did → Mail MailboxMessage
resolver_mail made [] = no_mail made.capacity
resolver_mail made (did ∷ past) =
    all_enqueued resolver_handled
    (if takes_from_resolver did.taken then after_recv none_skipped (resolver_mail made past)
    else resolver_mail made past)
    (filter_map for_resolver did.out.handed)

-- ---- what each actor was given

abbrev pub is_start : Taken → Bool
is_start Began = true
is_start _ = false

-- the clock of the start
unfoldable pub started_at : List Did → ℕ
started_at [] = 0
started_at (did ∷ past) = if is_start did.taken then did.now else started_at past

-- what the voter was made with
abbrev pub voter_in : EngineMade → List Did → VoterMade
voter_in made past = made.voter (started_at past)

abbrev pub given_to_voter : Did → Option Given
given_to_voter did = taken_by_voter did.taken did.now did.stop
  where
    taken_by_voter : Taken → ℕ → Stop → Option Given
    taken_by_voter Began now stop = Some (Started now stop)
    taken_by_voter (Took sources.Voter (Some (handed.Voter message))) now stop =
        Some (Stepped (voter_inputs.Mail message) now stop)
    taken_by_voter (Took sources.Timer message) now stop = Some (Stepped voter_inputs.Timer now stop)
    taken_by_voter (Took sources.Propose message) now stop = Some (Stepped voter_inputs.Propose now stop)
    taken_by_voter (Took sources.Verify message) now stop = Some (Stepped voter_inputs.Verify now stop)
    taken_by_voter (Took sources.Certify message) now stop = Some (Stepped voter_inputs.Certify now stop)
    taken_by_voter (Replied number answer) now stop = Some (Answered number answer)
    taken_by_voter _ now stop = None

unfoldable pub voter_past : List Did → List Given
voter_past past = filter_map given_to_voter past

abbrev pub input_of_batcher : Taken → Option BatcherInput
input_of_batcher (Heard sender channels.Vote bytes) = Some (batcher_inputs.Vote sender bytes)
input_of_batcher (Heard sender channels.Certificate bytes) = Some (batcher_inputs.Certificate sender bytes)
input_of_batcher (Took sources.Batcher (Some (handed.Batcher message))) = Some (batcher_inputs.Mail message)
input_of_batcher _ = None

-- nothing of a packet that was refused
abbrev pub if_let_in : {A : Type 0} → Taken → Outcome → Option A → Option A
if_let_in (Heard sender channel bytes) outcomes.Refused given = None
if_let_in taken outcome given = given

abbrev pub given_to_batcher : Did → Option batcher.Timed
given_to_batcher did =
    if_let_in did.taken did.outcome
    (option_map (λ input. record { input = input; now = did.now }) (input_of_batcher did.taken))

unfoldable pub batcher_past : List Did → List batcher.Timed
batcher_past past = filter_map given_to_batcher past

-- nothing where the source of a step held nothing, and where a packet was refused
abbrev pub if_held : Outcome → List resolver.Given → List resolver.Given
if_held outcomes.Idle given = []
if_held outcomes.Refused given = []
if_held _ given = given

-- whether the resolver takes it itself
abbrev pub is_of_resolver : Taken → Bool
is_of_resolver (Heard sender channels.Resolver bytes) = true
is_of_resolver (Took sources.Resolver message) = true
is_of_resolver (Took sources.Handler message) = true
is_of_resolver (Took sources.Fetch message) = true
is_of_resolver _ = false

-- the members that these calls blocked, the last first
abbrev pub blocked_told : List Call → List resolver.Given
blocked_told made = reverse (map (λ member. resolver.Blocked member) (blocked_by_calls made))

-- those that the batcher or the voter blocked
abbrev pub told_to_resolver : Did → List resolver.Given
told_to_resolver did = if is_of_resolver did.taken then [] else blocked_told did.out.calls

-- what the resolver was given, the newest first. A message of its handler is taken before the step on it, and a step
-- that held nothing gave it nothing. Of a step of the batcher or the voter it is told the blocks, at its end.
abbrev pub given_to_resolver : Did → List resolver.Given
given_to_resolver did = told_to_resolver did ++ if_held did.outcome (taken_by_resolver did.taken did.now)
  where
    taken_by_resolver : Taken → ℕ → List resolver.Given
    taken_by_resolver (Heard sender channels.Resolver bytes) now =
        resolver.Stepped (resolver_inputs.Packet sender bytes) now ∷ []
    taken_by_resolver (Took sources.Resolver (Some (handed.Resolver message))) now =
        resolver.Stepped (resolver_inputs.Mail message) now ∷ []
    taken_by_resolver (Took sources.Handler (Some (handed.Handler message))) now =
        resolver.Stepped (resolver_inputs.Handler message) now ∷ resolver.HandlerTaken ∷ []
    taken_by_resolver (Took sources.Fetch message) now = resolver.Stepped resolver_inputs.Timer now ∷ []
    taken_by_resolver _ now = []

unfoldable pub resolver_past : List Did → List resolver.Given
resolver_past [] = []
resolver_past (did ∷ past) = given_to_resolver did ++ resolver_past past

-- what the journal holds
unfoldable pub sections_of : EngineMade → List Did → List Section
sections_of made past = (place_of (voter_in made past) (voter_past past)).sections

-- ---- whether it runs

abbrev pub is_whole : Outcome → Bool
is_whole outcomes.Done = true
is_whole outcomes.Idle = true
is_whole outcomes.Refused = true
is_whole _ = false

-- it was started, and no step was broken since
unfoldable pub runs : List Did → Bool
runs [] = false
runs (did ∷ past) = is_whole did.outcome

-- ---- whom it blocked

-- the members that a call blocked since the start
unfoldable pub blocked_in : List Did → List ℕ
blocked_in [] = []
blocked_in (did ∷ past) = blocked_by_calls did.out.calls ++ blocked_in past

abbrev pub is_blocked : List Did → ℕ → Bool
is_blocked past member = holds_member (blocked_in past) member

-- ---- what comes of an input

abbrev pub did_of : Taken → ℕ → Stop → Outcome → StepOut → Did
did_of taken now stop outcome out = record { taken = taken; now = now; stop = stop; outcome = outcome; out = out }

abbrev pub by_voter : Taken → ℕ → Stop → Performed → Did
by_voter taken now stop given = did_of taken now stop given.outcome given.out

-- A batcher or a resolver makes no call of the journal. Its calls are cut before the one of a stop's number.
abbrev pub cut_short : Stop → StepOut → Outcome × StepOut
cut_short (stops.Cut call keep) out =
    if nat_lt 0 call && nat_le call (length out.calls)
    then (outcomes.Cut, record no_out { calls = take (call - 1) out.calls }) else (outcomes.Done, out)
cut_short _ out = (outcomes.Done, out)

unfoldable pub by_batcher : EngineMade → List Did → Taken → BatcherInput → ℕ → Stop → Did
by_batcher made past taken input now stop =
    let cut =
    cut_short stop (batcher.step_out made.batcher (batcher_past past) (record { input = input; now = now })) in
    did_of taken now stop cut.0 cut.1

-- a step of the resolver, behind what it was given before it
unfoldable pub by_resolver : EngineMade → List resolver.Given → Taken → ResolverInput → ℕ → Stop → Did
by_resolver made given taken input now stop =
    let cut = cut_short stop (resolver.step_out made.resolver given input now) in
    did_of taken now stop cut.0 cut.1

abbrev pub nothing_held : StepSource → ℕ → Stop → Did
nothing_held source now stop = did_of (Took source None) now stop outcomes.Idle no_out

-- a start
unfoldable pub begun : EngineMade → ℕ → Stop → Did
begun made now stop = by_voter Began now stop (start_given (made.voter now) [] now stop)

-- a packet that is let in
unfoldable pub let_in : EngineMade → List Did → ℕ → Channel → List ℕ → ℕ → Did
let_in made past sender channels.Vote bytes now =
    by_batcher made past (Heard sender channels.Vote bytes) (batcher_inputs.Vote sender bytes) now stops.None
let_in made past sender channels.Certificate bytes now =
    by_batcher made past (Heard sender channels.Certificate bytes)
    (batcher_inputs.Certificate sender bytes) now stops.None
let_in made past sender channels.Resolver bytes now =
    by_resolver made (resolver_past past) (Heard sender channels.Resolver bytes)
    (resolver_inputs.Packet sender bytes) now stops.None

-- a packet of a blocked member is refused
abbrev pub refused : ℕ → Channel → List ℕ → ℕ → Did
refused sender channel bytes now = did_of (Heard sender channel bytes) now stops.None outcomes.Refused no_out

-- a packet that is heard
unfoldable pub heard : EngineMade → List Did → ℕ → Channel → List ℕ → ℕ → Did
heard made past sender channel bytes now =
    if is_blocked past sender then refused sender channel bytes now else let_in made past sender channel bytes now

-- a step of the batcher, and of the voter, on the front of its mailbox
abbrev pub on_batcher_mail : EngineMade → List Did → ℕ → Stop → Option batcher_message.Message → Did
on_batcher_mail made past now stop None = nothing_held sources.Batcher now stop
on_batcher_mail made past now stop (Some message) =
    by_batcher made past (Took sources.Batcher (Some (handed.Batcher message))) (batcher_inputs.Mail message) now stop

abbrev pub on_voter_mail : EngineMade → List Did → ℕ → Stop → Option voter_message.Message → Did
on_voter_mail made past now stop None = nothing_held sources.Voter now stop
on_voter_mail made past now stop (Some message) =
    by_voter (Took sources.Voter (Some (handed.Voter message))) now stop
    (step_given (voter_in made past) (voter_past past) (voter_inputs.Mail message) now stop)

abbrev pub on_voter : EngineMade → List Did → StepSource → VoterInput → ℕ → Stop → Did
on_voter made past source input now stop =
    by_voter (Took source None) now stop (step_given (voter_in made past) (voter_past past) input now stop)

-- a step of the resolver on the front of its mailbox, on the front of its handler's, and at a deadline of its fetcher
abbrev pub on_resolver_mail : EngineMade → List Did → ℕ → Stop → Option MailboxMessage → Did
on_resolver_mail made past now stop None = nothing_held sources.Resolver now stop
on_resolver_mail made past now stop (Some message) =
    by_resolver made (resolver_past past) (Took sources.Resolver (Some (handed.Resolver message)))
    (resolver_inputs.Mail message) now stop

abbrev pub on_handler_mail : EngineMade → List Did → ℕ → Stop → Option HandlerMessage → Did
on_handler_mail made past now stop None = nothing_held sources.Handler now stop
on_handler_mail made past now stop (Some message) =
    by_resolver made (resolver.HandlerTaken ∷ resolver_past past)
    (Took sources.Handler (Some (handed.Handler message))) (resolver_inputs.Handler message) now stop

abbrev pub on_fetcher : EngineMade → List Did → ℕ → Stop → Did
on_fetcher made past now stop =
    if is_reached now (resolver.deadline_after made.resolver (resolver_past past))
    then by_resolver made (resolver_past past) (Took sources.Fetch None) resolver_inputs.Timer now stop
    else nothing_held sources.Fetch now stop

-- a step of this source
unfoldable pub stepped : EngineMade → List Did → StepSource → ℕ → Stop → Did
stepped made past sources.Batcher now stop = on_batcher_mail made past now stop (received (batcher_mail made past))
stepped made past sources.Voter now stop = on_voter_mail made past now stop (received (voter_mail made past))
stepped made past sources.Timer now stop = on_voter made past sources.Timer voter_inputs.Timer now stop
stepped made past sources.Propose now stop = on_voter made past sources.Propose voter_inputs.Propose now stop
stepped made past sources.Verify now stop = on_voter made past sources.Verify voter_inputs.Verify now stop
stepped made past sources.Certify now stop = on_voter made past sources.Certify voter_inputs.Certify now stop
stepped made past sources.Resolver now stop = on_resolver_mail made past now stop (received (resolver_mail made past))
stepped made past sources.Handler now stop =
    on_handler_mail made past now stop (resolver.handler_message made.resolver (resolver_past past))
stepped made past sources.Fetch now stop = on_fetcher made past now stop

-- whether an answer is taken, and what comes of it
unfoldable pub takes_reply : EngineMade → List Did → ℕ → Answer → Bool
takes_reply made past number answer =
    takes_answer (place_of (voter_in made past) (voter_past past)).standing number answer

abbrev pub replied : ℕ → Answer → ℕ → Did
replied number answer now = did_of (Replied number answer) now stops.None outcomes.Done no_out
