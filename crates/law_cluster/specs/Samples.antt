-- A cluster of four members, act by act. The last member is faulty.
use Rattle.std.specs.Prelude.{ℕ, ◌==◌, ◌&&◌, nat_lt, ◌^◌, Bool, true, List, [], ◌∷◌, ◌++◌, length, map, replicate, if◌then◌else◌, Some}
use Rattle.std.specs.List.{flat_map, list_all, list_any}
use Rattle.simplex_values.specs.declared.answer.Answer.{Answer}
use Rattle.simplex_values.specs.declared.answer.Answer.TheVariants as answers
use Rattle.simplex_values.specs.declared.plan.Channel.{Channel}
use Rattle.simplex_values.specs.declared.plan.Channel.TheVariants as channels
use Rattle.simplex_values.specs.declared.proposal.Proposal.{Proposal}
use Rattle.simplex_values.specs.declared.proposal.Subject.{Subject}
use Rattle.simplex_values.specs.declared.proposal.Subject.TheVariants as subjects
use Rattle.simplex_values.specs.declared.round.Round.{Round}
use Rattle.simplex_values.specs.Terms.{greatest_view}
use Rattle.simplex_wire.specs.declared.artifact.Artifact.{Artifact}
use Rattle.simplex_wire.specs.declared.artifact.Artifact.TheVariants as artifacts
use Rattle.simplex_wire.specs.declared.attestation.Attestation.{Attestation}
use Rattle.simplex_wire.specs.declared.certificate.Certificate.{Certificate}
use Rattle.simplex_wire.specs.declared.certificate.Certificate.TheVariants as certificates
use Rattle.simplex_wire.specs.declared.vote.Vote.{Vote}
use Rattle.simplex_wire.specs.declared.vote.Vote.TheVariants as votes
use Rattle.simplex_wire.specs.Fields.{vote_subject, vote_attestation, certificate_subject, certificate_signatures}
use Rattle.simplex_wire.specs.Message as format
use Rattle.simplex_types.specs.declared.activity.Activity.TheVariants as activities
use Rattle.simplex_types.specs.declared.floor.Floor.TheVariants as floors
use Rattle.simplex_journal.specs.Journal.{Section, crashed}
use Rattle.simplex_round.specs.Assembly.{as_scheme}
use Rattle.simplex_round.specs.Votes.{is_same_subject}
use Rattle.simplex_messages.specs.declared.call.Call.{Call}
use Rattle.simplex_messages.specs.declared.call.Call.TheVariants as calls
use Rattle.simplex_messages.specs.declared.step.Stop.{Stop}
use Rattle.simplex_messages.specs.declared.step.Stop.TheVariants as stops
use Rattle.simplex_transcript.specs.declared.event.StepSource.{StepSource}
use Rattle.simplex_transcript.specs.declared.event.StepSource.TheVariants as sources
use Rattle.simplex_transcript.specs.declared.setup.MemberKind.TheVariants as kinds
use Rattle.model_rules.specs.Known.{view_of}
use Rattle.model_steps.specs.Engine.{EngineMade, Did, Taken, Heard, sections_of, runs, begun, heard, stepped, replied}
use Rattle.model_run.specs.Members.{engine_of}
use Rattle.model_run.specs.Samples.{with_last}
use Rattle.model_run.specs.Setting.{Setting}
use Rattle.law_run.specs.Backed.{certificate_on}
use Rattle.law_run.specs.Voting.{vote_on}
use Rattle.law_cluster.specs.Lives.{Group, Life, view_in, left_by}
use Rattle.law_cluster.specs.Signatures.{calls_of, sent_by}
use Rattle.law_cluster.specs.Cluster.{Cluster}
use Rattle.law_cluster.specs.Nodes.{group_of}

-- ---- acts

-- what comes to a member that runs: a packet, a step with this order to stop, an answer
pub data Act : Type 0 where
  Hear : (sender : ℕ) → (channel : Channel) → (bytes : List ℕ) → Act
  Step : (source : StepSource) → (stop : Stop) → Act
  Reply : (number : ℕ) → (answer : Answer) → Act

-- what its engine did so far comes to this then, at a clock that is one later each time
abbrev pub did_by : EngineMade → List Did → Act → Did
did_by made past (Hear sender channel bytes) = heard made past sender channel bytes (length past)
did_by made past (Step source stop) = stepped made past source (length past) stop
did_by made past (Reply number answer) = replied number answer (length past)

-- what it did then in these acts, in order
unfoldable pub play : EngineMade → List Did → List Act → List Did
play made past [] = past
play made past (act ∷ acts) = play made (did_by made past act ∷ past) acts

-- whether it ran before each of them, below the greatest view
unfoldable pub goes_on : EngineMade → List Did → List Act → Bool
goes_on made past [] = true
goes_on made past (act ∷ acts) =
    runs past && nat_lt (view_in made past) greatest_view && goes_on made (did_by made past act ∷ past) acts

-- a start, and then these
abbrev pub played : EngineMade → List Act → List Did
played made acts = play made (begun made 0 stops.None ∷ []) acts

abbrev pub is_history : EngineMade → List Act → Bool
is_history made acts = goes_on made (begun made 0 stops.None ∷ []) acts

-- ---- lives

abbrev pub setting : Setting
setting = record { setup = with_last kinds.Silent; genesis = replicate 32 0 }

-- signatures that say who signed, and no more: whatever is said to be a member's verifies
abbrev pub signed_by : ℕ → Attestation
signed_by member = record { signer = member; signature = replicate 32 0 }

abbrev pub is_of_member : Subject → Attestation → Bool
is_of_member subject a = nat_lt a.signer 4

-- the engine that starts at genesis over what the journal holds, with these signatures
abbrev pub engine : ℕ → List Section → EngineMade
engine member sections =
    let plain = engine_of setting member (floors.Genesis setting.genesis) sections in
    record plain {
      voter = λ start.
          let voter = plain.voter start in record voter {
            rules = record voter.rules { signs = λ subject. Some (signed_by member) };
          };
      batcher = record plain.batcher { scheme = as_scheme is_of_member true 4 };
      resolver = record plain.resolver { verifies = is_of_member };
    }

-- the lives in which a member does these acts, and then is killed
unfoldable pub lives_by : ℕ → List (List Act) → List Life
lives_by member [] = []
lives_by member (acts ∷ before) =
    let old = lives_by member before in
    let made = engine member (left_by old) in
    let past = played made acts in
    record { made = made; past = past; left = crashed 0 (sections_of made past) } ∷ old

-- whether each is a history
unfoldable pub are_histories : ℕ → List (List Act) → Bool
are_histories member [] = true
are_histories member (acts ∷ before) =
    is_history (engine member (left_by (lives_by member before))) acts && are_histories member before

-- whether the own votes among the records keep to their types
abbrev pub fits_round : Round → Bool
fits_round r = nat_lt r.epoch (2 ^ 64) && nat_lt r.view (2 ^ 64)

abbrev pub fits_proposal : Proposal → Bool
fits_proposal p =
    fits_round p.round && nat_lt p.parent (2 ^ 64) && length p.payload == 32 && list_all (λ b. nat_lt b 256) p.payload

abbrev pub fits_record : Artifact → Bool
fits_record (artifacts.Notarize v) = fits_proposal v.proposal
fits_record (artifacts.Nullify v) = fits_round v.round
fits_record (artifacts.Finalize v) = fits_proposal v.proposal
fits_record _ = true

abbrev pub fits_call : Call → Bool
fits_call (calls.Append section artifact) = fits_record artifact
fits_call _ = true

abbrev pub are_typed : List Life → Bool
are_typed lives = list_all fits_call (calls_of lives)

-- ---- signatures that came

abbrev pub signed_vote : Vote → Subject × Attestation
signed_vote v = (vote_subject v, vote_attestation v)

abbrev pub signed_on : Certificate → List (Subject × Attestation)
signed_on c = map (λ (a : Attestation). (certificate_subject c, a)) (certificate_signatures c)

abbrev pub signed_in : Taken → List (Subject × Attestation)
signed_in (Heard sender channel bytes) =
    map signed_vote (vote_on channel bytes) ++ flat_map signed_on (certificate_on channel bytes)
signed_in _ = []

abbrev pub came_in : Life → List (Subject × Attestation)
came_in life = flat_map (λ (did : Did). signed_in did.taken) life.past

-- whether it is one of these members' on one of these subjects
abbrev pub is_on : List Subject → Subject × Attestation → Bool
is_on subjects (subject, a) = list_any (is_same_subject subject) subjects && nat_lt a.signer 3

abbrev pub came_on : List Subject → List Life → Bool
came_on subjects lives = list_all (is_on subjects) (flat_map came_in lives)

-- whether votes on all of these were sent
abbrev pub voted_on : List Subject → List Life → Bool
voted_on subjects lives =
    list_all (λ subject. list_any (λ v. is_same_subject (vote_subject v) subject) (sent_by lives)) subjects

-- ---- the sample

-- two proposals for view 1
abbrev pub block_of : ℕ → Proposal
block_of byte = record { round = record { epoch = 0; view = 1 }; parent = 0; payload = replicate 32 byte }

abbrev pub block : Proposal
block = block_of 17

abbrev pub rival : Proposal
rival = block_of 34

abbrev pub notarize_on : Proposal → ℕ → List ℕ
notarize_on p member =
    format.vote.spelling (votes.Notarize (record { proposal = p; attestation = signed_by member }))

abbrev pub notarize : ℕ → List ℕ
notarize member = notarize_on block member

abbrev pub finalize : ℕ → List ℕ
finalize member =
    format.vote.spelling
    (votes.Finalize (record { proposal = block; attestation = signed_by member }))

abbrev pub step : StepSource → Act
step source = Step source stops.None

-- it hears a vote, and the batcher and the voter work
abbrev pub hear : ℕ → List ℕ → Act
hear sender bytes = Hear sender channels.Vote bytes

-- the application answers whatever is asked
abbrev pub approve : ℕ → Act
approve number = Reply number (answers.Verdict true)

-- the notarization that these signed
abbrev pub notarized : Proposal → List ℕ → Certificate
notarized p signers = certificates.Notarization (record { proposal = p; certificate = map signed_by signers })

abbrev pub notarization : List ℕ
notarization = format.certificate.spelling (notarized block (0 ∷ 1 ∷ 2 ∷ []))

-- in order: what the leader of view 1 does, which is the second member
abbrev pub leads : List Act
leads =
    Reply 0 (answers.Payload (replicate 32 17)) ∷ step sources.Propose ∷ step sources.Batcher ∷ step sources.Batcher
    ∷ hear 0 (notarize 0) ∷ hear 2 (notarize 2) ∷ step sources.Voter ∷ approve 1 ∷ step sources.Certify
    ∷ step sources.Batcher ∷ hear 0 (finalize 0) ∷ hear 2 (finalize 2) ∷ step sources.Voter ∷ []

-- what another one does up to its first vote
abbrev pub follows_on : Proposal → List Act
follows_on p =
    step sources.Batcher ∷ hear 1 (notarize_on p 1) ∷ step sources.Voter ∷ approve 0 ∷ step sources.Verify ∷ []

abbrev pub follows : List Act
follows = follows_on block

-- the third then makes the certificates itself
abbrev pub goes_further : List Act
goes_further =
    step sources.Batcher ∷ hear 0 (notarize 0) ∷ step sources.Voter ∷ approve 1 ∷ step sources.Certify
    ∷ step sources.Batcher ∷ hear 1 (finalize 1) ∷ hear 0 (finalize 0) ∷ step sources.Voter ∷ []

-- the first is killed there. It starts again, and hears the leader's vote once more, and the notarization
abbrev pub starts_again : List Act
starts_again =
    step sources.Batcher ∷ hear 1 (notarize 1) ∷ Hear 1 channels.Certificate notarization ∷ step sources.Voter
    ∷ step sources.Voter ∷ approve 0 ∷ step sources.Certify ∷ step sources.Batcher ∷ step sources.Batcher
    ∷ hear 1 (finalize 1) ∷ hear 2 (finalize 2) ∷ step sources.Voter ∷ []

-- the acts of each life, the newest first
abbrev pub acts_of : ℕ → List (List Act)
acts_of member =
    if member == 0 then starts_again ∷ follows ∷ []
    else (if member == 1 then leads ∷ [] else (if member == 2 then (follows ++ goes_further) ∷ [] else []))

abbrev pub group : Group
group = record (group_of setting.setup) { verifies = is_of_member }

abbrev pub four : Cluster
four = record { group = group; faulty = 3 ∷ []; lives = λ member. lives_by member (acts_of member) }

-- what they vote on
abbrev pub subjects_voted : List Subject
subjects_voted = subjects.Notarize block ∷ subjects.Finalize block ∷ []

-- the views that a member reported as final
abbrev pub final_in : Call → List ℕ
final_in (calls.Report (activities.Finalization f)) = view_of f.proposal ∷ []
final_in _ = []

abbrev pub finals : ℕ → List ℕ
finals member = flat_map final_in (calls_of (four.lives member))
