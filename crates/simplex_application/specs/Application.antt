-- An application: what it is set to, what it knows of payloads, and what it answers.
use Rattle.std.specs.Prelude.{◌≡◌, ℕ, ◌-◌, ◌&&◌, ◌||◌, nat_le, Bool, true, false, not, List, [], ◌∷◌, ◌++◌, map, filter, length, drop, Option, Some, None, option_map, is_some, if◌then◌else◌}
use Rattle.std.specs.Int.{w64, from_be_bytes}
use Rattle.std.specs.Option.{option_or}
use Rattle.std.specs.Str.{bytes_eq}
use Rattle.simplex_values.specs.declared.answer.Answer.{Answer}
use Rattle.simplex_values.specs.declared.answer.Answer.TheVariants as answers
use Rattle.simplex_values.specs.declared.answer.Handoff.{Handoff}
use Rattle.simplex_values.specs.declared.answer.Handoff.TheVariants as handoffs
use Rattle.simplex_values.specs.declared.plan.Plan.{Plan}
use Rattle.simplex_values.specs.declared.plan.Plan.TheVariants as plans
use Rattle.simplex_values.specs.declared.plan.Recipients.{Recipients}
use Rattle.simplex_values.specs.declared.plan.Recipients.TheVariants as recipients
use Rattle.simplex_values.specs.declared.round.Context.{Context}
use Rattle.simplex_values.specs.declared.round.Round.{Round}
use Rattle.simplex_values.specs.Handoff.{is_wait}
use Rattle.model_faults.specs.Payload.{payload_text, payload_digest}
use Rattle.simplex_application.specs.declared.app_step.AppStep.{AppStep}
use Rattle.simplex_application.specs.declared.app_step.Broadcast.{Broadcast}
use Rattle.simplex_application.specs.declared.app_step.Broadcast.TheVariants as outcomes
use Rattle.simplex_application.specs.declared.app_step.Reply.{Reply}
use Rattle.simplex_application.specs.declared.prepared.Prepared.{Prepared}
use Rattle.simplex_application.specs.declared.prepared.Prepared.TheVariants as prepares
use Rattle.simplex_mocks.specs.declared.relayed.Relayed.{Relayed}
use Rattle.simplex_application.specs.declared.settings.Settings.{Settings}
use Rattle.simplex_application.specs.declared.verdict.Verdict.{Verdict}
use Rattle.simplex_application.specs.declared.waiter.Waiter.{Waiter}
use Rattle.simplex_application.specs.Contents.{Contents, contents_in, with_contents, without}
use Rattle.simplex_mocks.specs.Relay.{Place, broadcast}

-- the payloads that it made and did not propose yet, those that it saw, and the verifications that wait, the oldest first
pub record App : Type 0 where
  pub settings : Settings
  pub pending : Contents
  pub seen : Contents
  pub waiters : List Waiter

-- what a step or a hearing did: the answers, what is to be relayed and to whom, what became of a payload, and what is
-- known then
pub record Did : Type 0 where
  pub replies : List Reply
  pub relays : Option (Recipients × Relayed)
  pub outcome : Option Broadcast
  pub app : App

-- the application is set otherwise
abbrev pub set_by : (Settings → Settings) → App → App
set_by change app = record app { settings = change app.settings }

abbrev pub quiet : App → Did
quiet app = record { replies = []; relays = None; outcome = None; app = app }

-- ---- payloads

abbrev pub contents_for : Context → ℕ → List ℕ
contents_for context word = payload_text context.round context.parent.payload word

abbrev pub payload_for : Context → ℕ → List ℕ
payload_for context word = payload_digest context.round context.parent.payload word

-- the word in a payload's text: the last eight bytes
abbrev pub word_in : List ℕ → ℕ
word_in contents = from_be_bytes w64 (drop (length contents - 8) contents)

-- whether the contents are the text of a payload for the context, with whatever word
unfoldable pub is_asked : Context → List ℕ → Bool
is_asked context contents = nat_le 8 (length contents) && bytes_eq contents (contents_for context (word_in contents))

abbrev pub is_valid : Settings → Context → List ℕ → Bool
is_valid settings context contents = not settings.fails_verification && is_asked context contents

abbrev pub verdict_on : Settings → Context → List ℕ → Answer
verdict_on settings context contents = answers.Verdict (is_valid settings context contents)

abbrev pub keeps : App → Context → ℕ → App
keeps app context word =
    record app { pending = with_contents app.pending (payload_for context word) (contents_for context word) }

-- ---- a payload of the next term

abbrev pub staged : Handoff (Unit {0}) → List ℕ → Prepared
staged handoffs.Wait payload = prepares.Answered (answers.Handoff handoffs.Wait)
staged (handoffs.Stage u) payload = prepares.Made (handoffs.Stage payload)
staged (handoffs.Vote u) payload = prepares.Made (handoffs.Vote payload)

unfoldable pub prepared : App → Context → ℕ → Prepared
prepared app context word =
    if is_wait app.settings.handoff then prepares.Answered (answers.Handoff handoffs.Wait)
    else if app.settings.stalls_proposals then prepares.Open
    else if app.settings.drops_proposals then prepares.Answered answers.Closed
    else staged app.settings.handoff (payload_for context word)

-- a payload that was made is kept
unfoldable pub after_prepare : App → Context → ℕ → App
after_prepare app context word =
    if is_wait app.settings.handoff || app.settings.stalls_proposals || app.settings.drops_proposals then app
    else keeps app context word

-- what may be answered: a controller, where one is set, decides on a payload that was made, and no decision leaves the
-- request open
abbrev pub MayAnswer : {C : Type 0} → (C → Round → Handoff (List ℕ) → Option (Handoff (List ℕ)) → Type 0) → Option C
    → Round → Prepared → Option Answer → Type 0
MayAnswer decides controller round (prepares.Answered answer) given = given ≡ Some answer
MayAnswer decides controller round prepares.Open given = given ≡ None
MayAnswer decides None round (prepares.Made decision) given = given ≡ Some (answers.Handoff decision)
MayAnswer decides (Some controller) round (prepares.Made decision) given =
    (choice : Option (Handoff (List ℕ))) × decides controller round decision choice
    × (given ≡ option_map (λ h. answers.Handoff h) choice)

abbrev pub replies_to : ℕ → Option Answer → List Reply
replies_to request None = []
replies_to request (Some answer) = record { request = request; answer = answer } ∷ []

abbrev pub if_replied : App → ℕ → Option Answer → Did
if_replied app request answer = record { replies = replies_to request answer; relays = None; outcome = None; app = app }

unfoldable pub on_prepare : App → Context → ℕ → (word : ℕ) → Option Answer → Did
on_prepare app context request word answer = if_replied (after_prepare app context word) request answer

-- ---- the other requests

unfoldable pub proposed : App → Context → ℕ → Option Answer
proposed app context word =
    if app.settings.stalls_proposals then None
    else if app.settings.drops_proposals then Some answers.Closed
    else Some (answers.Payload (payload_for context word))

unfoldable pub after_propose : App → Context → ℕ → App
after_propose app context word =
    if app.settings.stalls_proposals || app.settings.drops_proposals then app else keeps app context word

unfoldable pub on_propose : App → Context → ℕ → (word : ℕ) → Did
on_propose app context request word = if_replied (after_propose app context word) request (proposed app context word)

abbrev pub waits : App → Context → List ℕ → ℕ → App
waits app context payload request =
    record app { waiters = app.waiters ++ record { context = context; payload = payload; request = request } ∷ [] }

-- a payload whose contents were not seen is judged later
unfoldable pub verified : App → Context → List ℕ → Option Answer
verified app context payload =
    if app.settings.drops_verifications then Some answers.Closed
    else option_map (verdict_on app.settings context) (contents_in app.seen payload)

unfoldable pub after_verify : App → Context → List ℕ → ℕ → App
after_verify app context payload request =
    if is_some (verified app context payload) then app else waits app context payload request

unfoldable pub on_verify : App → Context → List ℕ → ℕ → Did
on_verify app context payload request =
    if_replied (after_verify app context payload request) request (verified app context payload)

-- what a certifier answered is given: none leaves the request open
abbrev pub on_certify : App → ℕ → Option Answer → Did
on_certify app request answer = if_replied app request answer

-- ---- relaying

abbrev pub sees : App → List ℕ → List ℕ → App
sees app payload contents = record app { seen = with_contents app.seen payload contents }

abbrev pub missing : App → Did
missing app = record { replies = []; relays = None; outcome = Some outcomes.MissingPayload; app = app }

abbrev pub sent : App → Recipients → List ℕ → List ℕ → Did
sent app to payload contents = record {
  replies = [];
  relays = Some (to, record { payload = payload; contents = contents });
  outcome = Some outcomes.Sent;
  app = sees app payload contents;
}

abbrev pub sent_before : App → List ℕ → List ℕ → Did
sent_before app payload contents =
    record { replies = []; relays = None; outcome = Some outcomes.AlreadySent; app = sees app payload contents }

abbrev pub if_known : App → Recipients → List ℕ → Option (List ℕ) → Did
if_known app to payload None = missing app
if_known app to payload (Some contents) = sent app to payload contents

abbrev pub no_longer_pending : App → List ℕ → App
no_longer_pending app payload = record app { pending = without app.pending payload }

-- what is proposed is no longer pending, and is sent unless it was seen before
abbrev pub if_pending : App → List ℕ → Option (List ℕ) → Did
if_pending app payload None = missing app
if_pending app payload (Some contents) =
    if is_some (contents_in app.seen payload)
    then sent_before (no_longer_pending app payload) payload contents
    else sent (no_longer_pending app payload) recipients.All payload contents

-- what becomes of a payload that is proposed
abbrev pub sent_once : App → List ℕ → Did
sent_once app payload = if_pending app payload (contents_in app.pending payload)

-- the contents of a payload, seen or pending
abbrev pub contents_of : App → List ℕ → Option (List ℕ)
contents_of app payload = option_or (contents_in app.seen payload) (contents_in app.pending payload)

unfoldable pub on_broadcast : App → List ℕ → Plan → Did
on_broadcast app payload (plans.Prepare round) = if_known app recipients.All payload (contents_in app.pending payload)
on_broadcast app payload (plans.Propose round) = sent_once app payload
on_broadcast app payload (plans.Forward round to) = if_known app to payload (contents_of app payload)

-- the relay then
abbrev pub relayed_by : List Place → ℕ → Option (Recipients × Relayed) → List Place
relayed_by relay me None = relay
relayed_by relay me (Some relays) = broadcast relay me relays.0 relays.1

-- ---- hearing

abbrev pub waits_for : List ℕ → Waiter → Bool
waits_for payload waiter = bytes_eq waiter.payload payload

abbrev pub judged_by : Settings → List ℕ → Waiter → Verdict
judged_by settings contents waiter =
    record { request = waiter.request; is_valid = is_valid settings waiter.context contents }

-- the verdicts on those of these that wait for the payload
abbrev pub verdicts_of : Settings → Relayed → List Waiter → List Verdict
verdicts_of settings relayed waiters =
    map (judged_by settings relayed.contents) (filter (waits_for relayed.payload) waiters)

-- on all that wait
unfoldable pub verdicts_on : App → Relayed → List Verdict
verdicts_on app relayed = verdicts_of app.settings relayed app.waiters

abbrev pub as_reply : Verdict → Reply
as_reply verdict = record { request = verdict.request; answer = answers.Verdict verdict.is_valid }

unfoldable pub after_relayed : App → Relayed → App
after_relayed app relayed =
    record (sees app relayed.payload relayed.contents) {
      waiters = filter (λ w. not (waits_for relayed.payload w)) app.waiters;
    }

-- a relayed payload is seen, and what waits for it is answered
unfoldable pub on_relayed : App → Relayed → Did
on_relayed app relayed = record {
  replies = map as_reply (verdicts_on app relayed);
  relays = None;
  outcome = None;
  app = after_relayed app relayed;
}

-- ---- what a step shows

-- the step tells what was done, and the application knows what it knows then
abbrev pub Shows : Did → AppStep → App → Type 0
Shows did step app =
    (step.replies ≡ did.replies) × (step.broadcast ≡ did.outcome) × (step.took ≡ true) × (app ≡ did.app)

-- nothing was there
abbrev pub Idles : App → AppStep → App → Type 0
Idles app step after = (step.replies ≡ []) × (step.broadcast ≡ None) × (step.took ≡ false) × (after ≡ app)
