-- What the samples are made of: four members, of whom the first has the batcher, and votes of the second.
use Rattle.std.specs.Prelude.{ℕ, Bool, true, List, [], ◌∷◌, replicate, Some}
use Rattle.std.specs.List.{list_any}
use Rattle.simplex_values.specs.declared.policy.ForwardPolicy.TheVariants as forward
use Rattle.simplex_values.specs.declared.policy.SkipPolicy.TheVariants as skip
use Rattle.simplex_values.specs.declared.plan.Channel.TheVariants as channels
use Rattle.simplex_values.specs.declared.plan.Recipients.TheVariants as recipients
use Rattle.simplex_values.specs.declared.proposal.Proposal.{Proposal}
use Rattle.simplex_values.specs.declared.round.Round.{Round}
use Rattle.simplex_wire.specs.declared.attestation.Attestation.{Attestation}
use Rattle.simplex_wire.specs.declared.vote.Vote.{Vote}
use Rattle.simplex_wire.specs.declared.vote.Vote.TheVariants as votes
use Rattle.simplex_wire.specs.Message as format
use Rattle.simplex_round.specs.Assembly.{as_scheme}
use Rattle.simplex_messages.specs.declared.batcher.BatcherInput.TheVariants as input
use Rattle.simplex_messages.specs.declared.call.Call.{Call}
use Rattle.simplex_messages.specs.declared.call.Call.TheVariants as calls
use Rattle.model_steps.specs.Batcher.{Made, Timed}
use Rattle.law_agreement.specs.WorldExamples.{first, third, round_of}
use Rattle.law_member.specs.Evidence.{blames}

-- a batcher of the first of four members, whose scheme takes each signature
abbrev pub four : Made
four = record {
  scheme = as_scheme (λ subject attestation. true) true 4;
  me = Some 0;
  members = 4;
  epoch = 0;
  floor = 0;
  retention = 10;
  lookahead = record { length = 2; views = 0 };
  track = true;
  skip = skip.Disabled;
  forward = forward.Disabled;
}

-- a signature of the second member
abbrev pub blank : Attestation
blank = record { signer = 1; signature = replicate 32 0 }

-- its votes
abbrev pub notarize : Proposal → Vote
notarize p = votes.Notarize (record { proposal = p; attestation = blank })

abbrev pub nullify : Round → Vote
nullify r = votes.Nullify (record { round = r; attestation = blank })

abbrev pub finalize : Proposal → Vote
finalize p = votes.Finalize (record { proposal = p; attestation = blank })

-- a packet of it, as it goes out and as it comes in
abbrev pub sent : Vote → Call
sent vote = calls.Send channels.Vote recipients.All (format.vote.spelling vote)

abbrev pub arrived : Vote → Timed
arrived vote = record { input = input.Vote 1 (format.vote.spelling vote); now = 0 }

-- whether one of these calls reports evidence that names the member
abbrev pub blame : List Call → ℕ → Bool
blame made member = list_any (λ call. blames call member) made

-- the votes that a member sends in the good life of law_agreement, in order
abbrev pub good_votes : List Vote
good_votes = notarize first ∷ finalize first ∷ nullify (round_of 2) ∷ nullify (round_of 2) ∷ notarize third ∷ []

-- and as they came to the batcher, the newest first
abbrev pub late_votes : List Vote
late_votes = notarize third ∷ nullify (round_of 2) ∷ nullify (round_of 2) ∷ finalize first ∷ notarize first ∷ []
