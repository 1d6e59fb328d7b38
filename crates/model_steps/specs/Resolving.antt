-- What the samples of an engine with its resolver are made of: the engine of the first of four members, whose scheme takes
-- every signature.
use Rattle.std.specs.Prelude.{ℕ, List, [], ◌∷◌, map, replicate, Some, None, true, false}
use Rattle.simplex_values.specs.declared.ask.Kind.TheVariants as kinds
use Rattle.simplex_values.specs.declared.plan.Channel.TheVariants as channels
use Rattle.simplex_values.specs.declared.plan.Recipients.TheVariants as recipients
use Rattle.simplex_values.specs.declared.policy.ForwardPolicy.TheVariants as forward
use Rattle.simplex_values.specs.declared.policy.SkipPolicy.TheVariants as skip
use Rattle.simplex_wire.specs.declared.attestation.Attestation.{Attestation}
use Rattle.simplex_wire.specs.declared.certificate.Certificate.TheVariants as certificates
use Rattle.simplex_wire.specs.declared.certificate.Notarization.{Notarization}
use Rattle.simplex_wire.specs.declared.certificate.Nullification.{Nullification}
use Rattle.simplex_wire.specs.declared.resolver.ResolverBody.TheVariants as bodies
use Rattle.simplex_wire.specs.Message as format
use Rattle.simplex_types.specs.declared.floor.Floor.TheVariants as floors
use Rattle.simplex_round.specs.Assembly.{as_scheme}
use Rattle.simplex_messages.specs.declared.call.Call.{Call}
use Rattle.simplex_messages.specs.declared.call.Call.TheVariants as calls
use Rattle.simplex_messages.specs.declared.handed.Handed.{Handed}
use Rattle.simplex_messages.specs.declared.handed.Handed.TheVariants as handed
use Rattle.simplex_messages.specs.declared.resolver.HandlerMessage.TheVariants as handler
use Rattle.simplex_messages.specs.declared.resolver.MailboxMessage.{MailboxMessage}
use Rattle.simplex_messages.specs.declared.resolver.MailboxMessage.TheVariants as resolver
use Rattle.simplex_messages.specs.declared.step.Outcome.TheVariants as outcomes
use Rattle.simplex_messages.specs.declared.step.Stop.{Stop}
use Rattle.simplex_messages.specs.declared.step.Stop.TheVariants as stops
use Rattle.simplex_messages.specs.declared.step.StepOut.{StepOut}
use Rattle.simplex_messages.specs.declared.voter.Message.TheVariants as voter
use Rattle.simplex_messages.specs.Step.{no_out}
use Rattle.model_resolver.specs.Fetcher.{message_bytes}
use Rattle.simplex_transcript.specs.declared.event.StepSource.{StepSource}
use Rattle.simplex_transcript.specs.declared.event.StepSource.TheVariants as sources
use Rattle.model_steps.specs.Engine as engine
use Rattle.model_steps.specs.Engine.{EngineMade, Did, did_of}
use Rattle.model_steps.specs.Samples.{alone, first_proposal}

abbrev pub engine_of_four : EngineMade
engine_of_four = record {
  voter = λ start. record { rules = alone; floor = floors.Genesis []; sections = [] };
  batcher = record {
    scheme = as_scheme (λ subject a. true) true 4;
    me = Some 0;
    members = 4;
    epoch = 0;
    floor = 0;
    retention = 10;
    lookahead = record { length = 1; views = 0 };
    track = false;
    skip = skip.Disabled;
    forward = forward.Disabled;
  };
  resolver = record {
    verifies = λ subject a. true;
    members = 4;
    epoch = 0;
    term = 1;
    handler_size = 16;
    fetching = record { me = 0; n = 4; fetch_timeout = 1000; fetch_retry_delay = 100 };
  };
  capacity = 16;
}

-- its voter lacks the notarization of view 1
abbrev pub lacking : List Did
lacking =
    did_of engine.Began 0 stops.None outcomes.Done
    (record no_out { handed = handed.Resolver (resolver.Resolve 3 1 kinds.Notarization None) ∷ [] }) ∷ []

-- a request for the view, and the answer that there is none, to this member
abbrev pub request : ℕ → ℕ → ℕ → Call
request to id view = calls.Send channels.Resolver (recipients.One to) (message_bytes id (bodies.Request view))

abbrev pub answer_none : ℕ → ℕ → Call
answer_none to id = calls.Send channels.Resolver (recipients.One to) (message_bytes id bodies.Error)

-- a peer is asked, it is silent, the view waits, and another is asked
abbrev pub asked : Stop → Did
asked stop = engine.stepped engine_of_four lacking sources.Resolver 0 stop

abbrev pub too_soon : Did
too_soon = engine.stepped engine_of_four (asked stops.None ∷ lacking) sources.Fetch 999 stops.None

abbrev pub silent : Did
silent = engine.stepped engine_of_four (too_soon ∷ asked stops.None ∷ lacking) sources.Fetch 1000 stops.None

abbrev pub asked_again : Did
asked_again =
    engine.stepped engine_of_four (silent ∷ too_soon ∷ asked stops.None ∷ lacking) sources.Fetch 1100 stops.None

-- bytes that are no message come from a member; then it is asked nothing, and what it asks is refused
abbrev pub heard_noise : Did
heard_noise = engine.heard engine_of_four [] 2 channels.Resolver (7 ∷ []) 0

abbrev pub asked_another : Did
asked_another = engine.stepped engine_of_four (heard_noise ∷ lacking) sources.Resolver 0 stops.None

abbrev pub refused_request : Did
refused_request =
    engine.heard engine_of_four (heard_noise ∷ []) 2 channels.Resolver (message_bytes 5 (bodies.Request 1)) 0

-- a peer asks for view 1, and is answered
abbrev pub heard_request : Did
heard_request = engine.heard engine_of_four [] 2 channels.Resolver (message_bytes 5 (bodies.Request 1)) 0

abbrev pub answered_request : Did
answered_request = engine.stepped engine_of_four (heard_request ∷ []) sources.Handler 0 stops.None

abbrev pub nothing_handled : Did
nothing_handled = engine.stepped engine_of_four (answered_request ∷ heard_request ∷ []) sources.Handler 0 stops.None

-- ---- the same engine with terms of five views

abbrev pub engine_of_five : EngineMade
engine_of_five = record engine_of_four { resolver = record engine_of_four.resolver { term = 5 } }

-- a nullification of view 4, as three members sign it
abbrev pub signed_by : ℕ → Attestation
signed_by member = record { signer = member; signature = replicate 32 0 }

abbrev pub nullified_four : Nullification
nullified_four =
    record { round = record { epoch = 0; view = 4 }; certificate = signed_by 0 ∷ signed_by 1 ∷ signed_by 2 ∷ [] }

abbrev pub shows_four : ℕ → List ℕ
shows_four id =
    message_bytes id (bodies.Response (format.certificate.spelling (certificates.Nullification nullified_four)))

-- what the resolver's mailbox holds at first
abbrev pub handed_first : List MailboxMessage → List Did
handed_first messages = did_of engine.Began 0 stops.None outcomes.Done
    (record no_out { handed = map (λ m. handed.Resolver m) messages }) ∷ []

-- a step of this source, behind those
abbrev pub and_step : StepSource → List Did → List Did
and_step source past = engine.stepped engine_of_five past source 0 stops.None ∷ past

abbrev pub and_heard : ℕ → List ℕ → List Did → List Did
and_heard sender bytes past = engine.heard engine_of_five past sender channels.Resolver bytes 0 ∷ past

-- the nullification of view 6 is asked for, and member 1 answers with that of view 4
abbrev pub answered_amiss : List Did
answered_amiss =
    and_step sources.Handler (and_heard 1 (shows_four 0)
    (and_step sources.Resolver (handed_first (resolver.Resolve 10 6 kinds.Nullification None ∷ []))))

-- view 5 failed once the journal was read: the first view of its term and this one are asked for, and the member that is
-- asked for view 5 answers with the nullification of view 4
abbrev pub failed_five : Notarization
failed_five = record {
  proposal = record first_proposal { round = record { epoch = 0; view = 5 } };
  certificate = signed_by 0 ∷ signed_by 1 ∷ signed_by 2 ∷ [];
}

abbrev pub asked_for_five : List Did
asked_for_five =
    and_step sources.Resolver (and_step sources.Resolver
    (handed_first (resolver.Replayed ∷ resolver.Certified failed_five false ∷ [])))

abbrev pub answered_well : List Did
answered_well = and_step sources.Handler (and_heard 3 (shows_four 1) asked_for_five)

-- the step that came last
abbrev pub last_out : List Did → StepOut
last_out [] = no_out
last_out (did ∷ past) = did.out

-- the resolver hands this to the voter, and this to its handler
abbrev pub for_voter_four : Handed
for_voter_four = handed.Voter (voter.Verified (certificates.Nullification nullified_four))

abbrev pub to_produce : ℕ → ℕ → Handed
to_produce id view = handed.Handler (handler.Produce id view)
