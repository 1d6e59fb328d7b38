-- Which votes a member sent over its lives, and whose signatures came to it.
use Rattle.std.specs.Prelude.{◌≡◌, ◌⊎◌, ◌++◌, ℕ, List, [], ◌∷◌, Contains}
use Rattle.std.specs.List.{flat_map}
use Rattle.simplex_values.specs.declared.plan.Channel.{Channel}
use Rattle.simplex_values.specs.declared.proposal.Subject.{Subject}
use Rattle.simplex_wire.specs.declared.attestation.Attestation.{Attestation}
use Rattle.simplex_wire.specs.declared.certificate.Certificate.{Certificate}
use Rattle.simplex_wire.specs.declared.certificate.Certificate.TheVariants as certificates
use Rattle.simplex_wire.specs.declared.vote.Vote.{Vote}
use Rattle.simplex_wire.specs.Fields.{vote_subject, vote_attestation, certificate_subject, certificate_signatures}
use Rattle.simplex_types.specs.declared.floor.Floor.{Floor}
use Rattle.simplex_types.specs.declared.floor.Floor.TheVariants as floors
use Rattle.simplex_messages.specs.declared.call.Call.{Call}
use Rattle.simplex_messages.specs.declared.call.Call.TheVariants as calls
use Rattle.model_steps.specs.Engine.{Did, Taken, Heard, voter_in}
use Rattle.law_run.specs.Backed.{certificate_on}
use Rattle.law_run.specs.Voting.{vote_on}
use Rattle.law_cluster.specs.Lives.{Life}

-- ---- what was sent

-- the calls of a life, and of all of them, in order
unfoldable pub calls_in : List Did → List Call
calls_in [] = []
calls_in (did ∷ past) = calls_in past ++ did.out.calls

unfoldable pub calls_of : List Life → List Call
calls_of [] = []
calls_of (life ∷ before) = calls_of before ++ calls_in life.past

-- the vote that goes out by a call, as it is read
abbrev pub vote_in : Call → List Vote
vote_in (calls.Send channel to bytes) = vote_on channel bytes
vote_in _ = []

-- the votes that the member sent, in order
abbrev pub sent_by : List Life → List Vote
sent_by lives = flat_map vote_in (calls_of lives)

-- it sent a vote on the subject
abbrev pub HasVoted : List Life → Subject → Type 0
HasVoted lives subject = (v : Vote) × Contains (sent_by lives) v × (vote_subject v ≡ subject)

-- ---- what came

-- the certificate has this signature on the subject
abbrev pub IsSignedBy : Certificate → Subject → Attestation → Type 0
IsSignedBy c subject a = (certificate_subject c ≡ subject) × Contains (certificate_signatures c) a

-- so has a vote or a certificate that bytes on the channel are read as, or the certificate in a response
abbrev pub Brings : Channel → List ℕ → Subject → Attestation → Type 0
Brings channel bytes subject a =
    ((v : Vote) × Contains (vote_on channel bytes) v × (vote_subject v ≡ subject) × (vote_attestation v ≡ a))
    ⊎ ((c : Certificate) × Contains (certificate_on channel bytes) c × IsSignedBy c subject a)

abbrev pub InTaken : Taken → Subject → Attestation → Type 0
InTaken (Heard sender channel bytes) subject a = Brings channel bytes subject a
InTaken _ subject a = ⊥

-- so has the floor of a start
abbrev pub floor_certificate : Floor → List Certificate
floor_certificate (floors.Genesis payload) = []
floor_certificate (floors.Finalized f) = certificates.Finalization f ∷ []

abbrev pub floor_of : Life → List Certificate
floor_of life = floor_certificate (voter_in life.made life.past).floor

abbrev pub InFloor : Life → Subject → Attestation → Type 0
InFloor life subject a = (c : Certificate) × Contains (floor_of life) c × IsSignedBy c subject a

-- the signature came in a life: in a packet or in the floor
abbrev pub CameIn : Life → Subject → Attestation → Type 0
CameIn life subject a =
    ((did : Did) × Contains life.past did × InTaken did.taken subject a) ⊎ InFloor life subject a

-- in one of the lives
abbrev pub Came : List Life → Subject → Attestation → Type 0
Came lives subject a = (life : Life) × Contains lives life × CameIn life subject a
