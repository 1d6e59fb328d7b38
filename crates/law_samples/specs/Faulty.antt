-- Events of faulty members, and events that stand at a limit.
use Rattle.std.specs.Prelude.{ℕ, Bool, List, [], ◌∷◌, ◌++◌, map, flat_map, replicate, Some, None, Result, Ok, Err}
use Rattle.simplex_values.specs.declared.answer.Answer.TheVariants as answers
use Rattle.simplex_values.specs.declared.plan.Channel.{Channel}
use Rattle.simplex_values.specs.declared.plan.Channel.TheVariants as channels
use Rattle.simplex_values.specs.declared.proposal.Subject.TheVariants as subjects
use Rattle.simplex_wire.specs.declared.certificate.Certificate.{Certificate}
use Rattle.simplex_wire.specs.declared.certificate.Certificate.TheVariants as certificates
use Rattle.simplex_wire.specs.declared.certificate.Finalization.{Finalization}
use Rattle.simplex_wire.specs.declared.resolver.ResolverBody.TheVariants as bodies
use Rattle.simplex_wire.specs.Message as format
use Rattle.simplex_wire.specs.ResolverMessage.{resolver_message}
use Rattle.simplex_types.specs.declared.activity.Activity.TheVariants as activities
use Rattle.simplex_types.specs.Keyed.{keyed_verifies}
use Rattle.simplex_messages.specs.declared.call.Call.TheVariants as calls
use Rattle.simplex_messages.specs.declared.step.Outcome.{Outcome}
use Rattle.simplex_messages.specs.declared.step.Stop.TheVariants as stops
use Rattle.simplex_transcript.specs.declared.entry.Entry.{Entry}
use Rattle.simplex_transcript.specs.declared.event.Event.{Event}
use Rattle.simplex_transcript.specs.declared.event.Event.TheVariants as events
use Rattle.simplex_transcript.specs.declared.event.StepSource.TheVariants as sources
use Rattle.simplex_transcript.specs.declared.node.Node.{Node}
use Rattle.simplex_transcript.specs.declared.refusal.Refusal.{Refusal}
use Rattle.simplex_transcript.specs.declared.setup.Setup.{Setup}
use Rattle.simplex_transcript.specs.declared.setup.MemberKind.{MemberKind}
use Rattle.simplex_transcript.specs.declared.setup.MemberKind.TheVariants as kinds
use Rattle.model_run.specs.Entries.{blank_entry}
use Rattle.model_run.specs.Forged.{Signed, signed_in}
use Rattle.model_run.specs.Life.{Noted}
use Rattle.law_samples.specs.Lists.{setup_of, node, second, at, starts, steps, hears, proposes, approves, first_block, signed_by, overheard_both}

-- ---- setups and events

-- four members, of whom the leader of the first view is of this kind
abbrev pub led_by : MemberKind → Setup
led_by kind = setup_of (kinds.Honest ∷ kind ∷ kinds.Honest ∷ kinds.Honest ∷ [])

abbrev pub crashes : ℕ → Event
crashes member = events.Crash (node member)

-- the last member sends bytes to these nodes
abbrev pub shows : Channel → List Node → List ℕ → Event
shows channel to bytes = events.Inject 3 channel to bytes

-- the application's payload goes to this node, for the first request of the first event
abbrev pub told_first : Node → Event
told_first to = events.Answer to (at 1 0) (answers.Payload (replicate 32 17))

abbrev pub starts_half : ℕ → Event
starts_half member = events.Start (second member) None stops.None

-- ---- a notarization of these members on the first payload, as a certificate, and as a resolver's answer

abbrev pub notarization_by : List ℕ → Certificate
notarization_by signers =
    certificates.Notarization (record {
      proposal = first_block 17;
      certificate = map (λ m. signed_by m (subjects.Notarize (first_block 17))) signers;
    })

abbrev pub certificate_bytes : Certificate → List ℕ
certificate_bytes certificate = format.certificate.spelling certificate

abbrev pub response_bytes : Certificate → List ℕ
response_bytes certificate =
    resolver_message.spelling (record { id = 0; body = bodies.Response (certificate_bytes certificate) })

-- the leader sends its notarize
abbrev pub leader_votes : List Event
leader_votes = starts 1 ∷ proposes 1 (at 1 0) 17 ∷ steps 1 sources.Propose ∷ []

-- ---- a finalization that a faulty member alone reports

-- the first two members notarize
abbrev pub two_notarize : List Event
two_notarize =
    starts 1
    ∷ proposes 1 (at 1 0) 17
    ∷ steps 1 sources.Propose
    ∷ starts 0
    ∷ steps 0 sources.Batcher
    ∷ hears 0 (at 3 0)
    ∷ steps 0 sources.Voter
    ∷ approves 0 (at 7 0)
    ∷ steps 0 sources.Verify
    ∷ []

-- the last member joins them, and each of the two sends its finalize
abbrev pub two_finalize : List Event
two_finalize =
    two_notarize
    ++ shows channels.Certificate (node 0 ∷ node 1 ∷ []) (certificate_bytes (notarization_by (0 ∷ 1 ∷ 3 ∷ [])))
    ∷ hears 0 (at 10 0)
    ∷ steps 0 sources.Voter
    ∷ approves 0 (at 12 0)
    ∷ steps 0 sources.Certify
    ∷ hears 1 (at 10 0)
    ∷ steps 1 sources.Voter
    ∷ approves 1 (at 16 0)
    ∷ steps 1 sources.Certify
    ∷ []

abbrev pub finalization_by : List ℕ → Finalization
finalization_by signers = record {
  proposal = first_block 17;
  certificate = map (λ m. signed_by m (subjects.Finalize (first_block 17))) signers;
}

-- it joins them again, and this member of two is told
abbrev pub told_to : ℕ → List Event
told_to member =
    two_finalize
    ++ starts 3
    ∷ shows channels.Certificate (node 1 ∷ node 3 ∷ [])
    (certificate_bytes (certificates.Finalization (finalization_by (0 ∷ 1 ∷ 3 ∷ []))))
    ∷ hears member (at 20 0)
    ∷ steps member sources.Voter
    ∷ []

-- the first member starts there
abbrev pub and_starts_there : List Event
and_starts_there = crashes 0 ∷ events.Start (node 0) (Some (finalization_by (0 ∷ 1 ∷ 3 ∷ []))) stops.None ∷ []

-- ---- a member that was blocked

-- the first member is told a second payload once more; then it stops and starts again, and hears it again
abbrev pub heard_again : List Event
heard_again = overheard_both ++ crashes 0 ∷ starts 0 ∷ steps 0 sources.Batcher ∷ hears 0 (at 4 1) ∷ []

-- ---- an engine near the greatest view: an entry in which it reported a finalization of this view

abbrev pub final_at : ℕ → Finalization
final_at view = record {
  proposal = record {
    round = record { epoch = 0; view = view };
    parent = 0;
    payload = replicate 32 17;
  };
  certificate = [];
}

abbrev pub reported_at : ℕ → Noted
reported_at view =
    record {
      event = events.Tick 0;
      entry = record (blank_entry 1 (Some (node 0))) {
        calls = calls.Report (activities.Finalization (final_at view)) ∷ [];
      };
      did = None;
    }

-- it starts there, and makes a step
abbrev pub goes_on_from : ℕ → List Event
goes_on_from view = events.Start (node 0) (Some (final_at view)) stops.None ∷ steps 0 sources.Batcher ∷ []

-- how those entries ended, and those before them
abbrev pub outcomes_from : Result (List Noted) Refusal → List Outcome
outcomes_from (Ok noted) = map (λ (n : Noted). n.entry.outcome) noted
outcomes_from (Err refusal) = []

-- ---- of a whole run: whether each signature in its packets verifies

abbrev pub verifies_of : Setup → Signed → Bool
verifies_of setup s = keyed_verifies setup.key_base 4 s.subject s.attestation

abbrev pub signatures_in : Result (List Entry) Refusal → List Signed
signatures_in (Ok entries) = flat_map (λ (e : Entry). flat_map (λ p. signed_in p.channel p.bytes) e.packets) entries
signatures_in (Err refusal) = []

abbrev pub verified_in : Setup → Result (List Entry) Refusal → List Bool
verified_in setup ran = map (verifies_of setup) (signatures_in ran)
